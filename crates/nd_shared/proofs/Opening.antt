-- A pass that has pinned the current version has observed all that made it.
use Rattle.std.proofs.Common.{◌≡◌, ℕ, ◌<◌, List, length, sym, ap, subst, ◌∙◌}
use Rattle.era_core.specs.declared.sizes.TheConstants.{ROOT_ROWS}
use Rattle.era_core.proofs.Publishes.{root_word-version}
use Rattle.era_rows.specs.Known.{Known}
use Rattle.era_rows.specs.Passes.{known_of, knows_of, seen_of, lists_of}
use Rattle.era_rows.specs.declared.views.Knows.{Knows}
use Rattle.era_rows.specs.declared.pass.Pass.{Pass}
use Rattle.era_rows.specs.declared.rows.Rows.{Rows}
use Rattle.era_rows.specs.declared.law.Law.{Ghosts}
use Rattle.pls_archive.specs.declared.call.Entry.{Entry}
use Rattle.pls_archive.specs.Reply.{nondominated}
use Rattle.pls_archive.specs.View.{View, IsConsistent}
use Rattle.nd_rows.specs.Reads.{HasKept, HasPinnedTree, ReadsIn}
use Rattle.nd_update.specs.Resting.{IsOpen}
use Rattle.nd_shared.specs.Views.{AreListed, IsReady, Opens, Pins, view_with, own_of, others_of}
use Rattle.nd_shared.proofs.Consistent.{consistent_view}
use Rattle.nd_shared.proofs.Recorded.{evidence_kept}

-- the view by its parts
abbrev make : ℕ → List Entry → List (ℕ × List Entry) → View
make number seen lists = record { number = number; observed = seen; own = own_of lists; others = others_of lists }

-- passes with the same entries are seen alike
pub same_view : (n m : ℕ) (a b : Knows Entry) → n ≡ m → a.seen ≡ b.seen → a.lists ≡ b.lists → view_with n a ≡ view_with m b
same_view n m a b number seen lists = ap (λ x. make x a.seen a.lists) number ∙ ap (λ x. make m x a.lists) seen ∙ ap (λ x. make m b.seen x) lists

module _ {L : Type 0} {G : Ghosts L Entry} where
  -- the lists are the same
  pub still_listed : (p q : Pass L Entry G) → q.number ≡ p.number → lists_of q ≡ lists_of p → AreListed p.number (lists_of p) → AreListed q.number (lists_of q)
  still_listed p q number lists listed = subst (λ m. AreListed m (lists_of q)) (sym number) (subst (AreListed p.number) (sym lists) listed)

module _ {L : Type 0} {G : Ghosts L Entry} (r : Rows L Entry) where
  pub opens : (n root : ℕ) (p q : Pass L Entry G) → root < ROOT_ROWS → IsReady r p → IsOpen r n q → q.number ≡ p.number → Pins n root (knows_of p) (knows_of q) → Opens r n p q
  opens n root p q small ready opened number pinned =
      let learns = pinned.1.learns in
      let lists : lists_of q ≡ lists_of p = learns.same_lists in
      let listed = still_listed p q number lists ready.resting.listed in record {
        opened = opened;
        listed = listed;
        short = evidence_kept r p q ready.is_pass opened.tree.is_pass (ap (λ (k : Known). k.full) pinned.1.view_is) ready.resting.short;
        all = learns.seen_all ∙ root_word-version n root small;
        observes_more = record { number = number; observed = learns.seen_more; own = ap own_of lists; others = ap others_of lists };
        consistent = consistent_view r.passes q.number (knows_of q) opened.tree.is_pass.sized.passes_are listed learns.consistent;
      }

  -- also after a question
  pub still_opens : (n : ℕ) (p q s : Pass L Entry G) → Opens r n p q → IsOpen r n s → s.number ≡ q.number → seen_of s ≡ seen_of q → lists_of s ≡ lists_of q → (known_of s).full ≡ (known_of q).full → Opens r n p s
  still_opens n p q s opens opened number seen lists full = record {
    opened = opened;
    listed = still_listed q s number lists opens.listed;
    short = evidence_kept r q s opens.opened.tree.is_pass opened.tree.is_pass full opens.short;
    all = ap length seen ∙ opens.all;
    observes_more = record {
      number = number ∙ opens.observes_more.number;
      observed = (opens.observes_more.observed.0, opens.observes_more.observed.1 ∙ sym seen);
      own = ap own_of lists ∙ opens.observes_more.own;
      others = ap others_of lists ∙ opens.observes_more.others;
    };
    consistent = subst (IsConsistent nondominated r.passes) (sym (same_view s.number q.number (knows_of s) (knows_of q) number seen lists)) opens.consistent;
  }

  -- and so it is after a look at rows of the version
  pub asked : (n : ℕ) (rows : List ℕ) (p q s : Pass L Entry G) → Opens r n p q → HasPinnedTree r n s → HasKept q s → ReadsIn rows (known_of q) (known_of s) → Opens r n p s
  asked n rows p q s opens tree kept reads =
      still_opens n p q s opens (record {
        tree = tree;
        no_fresh = ap (λ (k : Known). k.core.fresh) reads.now ∙ opens.opened.no_fresh;
        no_marks = kept.same_marks ∙ opens.opened.no_marks;
        idle = kept.same_work ∙ opens.opened.idle;
      }) kept.same_number kept.same_seen kept.same_lists (ap (λ (k : Known). k.full) reads.now)
