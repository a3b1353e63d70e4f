-- What a call of the shared tree is to the view of its pass.
use Rattle.std.proofs.Common.{◌≡◌, ℕ, ◌+◌, true, false, Some, [], ◌∷◌, ◌++◌, length, refl, sym, ap, subst, ◌∙◌}
use Rattle.era_rows.specs.Lists.{add_entry}
use Rattle.era_rows.specs.Known.{Known, leaving}
use Rattle.era_rows.specs.Passes.{known_of, knows_of, seen_of, lists_of, marked_of, work_of, IsPassOf, IsSamePass}
use Rattle.era_rows.specs.Plays.{IsConsistent as AllConsistent, having_left}
use Rattle.era_rows.specs.declared.views.Knows.{Knows}
use Rattle.era_rows.specs.declared.pass.Pass.{Pass}
use Rattle.era_rows.specs.declared.rows.Rows.{Rows}
use Rattle.era_rows.specs.declared.law.Law.{Ghosts}
use Rattle.pls_archive.specs.declared.call.Call.{Call}
use Rattle.pls_archive.specs.declared.call.Reply.{Reply}
use Rattle.pls_archive.specs.declared.call.Entry.{Entry}
use Rattle.pls_archive.specs.History.{accepts, submissions}
use Rattle.pls_archive.specs.Lists.{IsPrefix}
use Rattle.pls_archive.specs.Reply.{nondominated}
use Rattle.pls_archive.specs.Rule.{is_accepting}
use Rattle.pls_archive.specs.SharedCalls.{Answers, IsRefused}
use Rattle.pls_archive.specs.View.{IsConsistent, ObservesMore}
use Rattle.nd_rows.specs.Entries.{IsRight}
use Rattle.nd_rows.specs.Layout.{IsLawful, StandsFor}
use Rattle.nd_shared.specs.Views.{AreListed, HasEvidence, IsReady, Opens, view_of, view_with}
use Rattle.nd_shared.proofs.Consistent.{consistent_view, listed_added, entry_of, answers_told, answers_added, refused}
use Rattle.nd_shared.proofs.Recorded.{evidence_kept}

-- consistent, as the rows have it, under the law of ND-trees
abbrev pub IsSound : Knows Entry → Type 0
IsSound k = AllConsistent (λ (e : Entry). e.caller) (λ e. e.stamp) (λ _ e. accepts e) (λ d c. IsLawful d c) (λ d c entries. StandsFor d c entries) (λ d e entries. IsRight d e entries) k

-- the entry that a pass with this number names
abbrev pub named : ℕ → ℕ → Call → Reply → Entry
named m stamp call answer = entry_of m stamp call answer

module _ {L : Type 0} {G : Ghosts L Entry} (r : Rows L Entry) (p q s : Pass L Entry G) (opened : ObservesMore (view_of p) (view_of q)) (number : s.number ≡ q.number) where
  same : s.number ≡ p.number
  same = number ∙ opened.number

  -- the views with the number of the pass before the call
  opened_as : ObservesMore (view_with p.number (knows_of p)) (view_with p.number (knows_of q))
  opened_as = record { number = refl; observed = opened.observed; own = opened.own; others = opened.others }

  sound_as : IsConsistent nondominated r.passes (view_of s) → IsConsistent nondominated r.passes (view_with p.number (knows_of s))
  sound_as sound = subst (λ m. IsConsistent nondominated r.passes (view_with m (knows_of s))) same sound

  module _ (m stamp : ℕ) (call : Call) (answer : Reply) (mine : m ≡ q.number) (listed : AreListed q.number (lists_of q)) (adds : lists_of s ≡ add_entry m (named m stamp call answer) (lists_of q)) where
    adds_as : lists_of s ≡ add_entry p.number (entry_of p.number stamp call answer) (lists_of q)
    adds_as = subst (λ x. lists_of s ≡ add_entry x (named x stamp call answer) (lists_of q)) (mine ∙ opened.number) adds

    listed_as : AreListed p.number (lists_of q)
    listed_as = subst (λ x. AreListed x (lists_of q)) opened.number listed

    -- the lists with the entry
    pub lists_told : AreListed s.number (lists_of s)
    lists_told = subst (λ x. AreListed x (lists_of s)) (sym same) (subst (AreListed p.number) (sym adds_as) (listed_added p.number (entry_of p.number stamp call answer) (lists_of q) listed_as).0)

    pub told : answer ≡ nondominated (submissions (seen_of q)) call → length (seen_of q) ≡ stamp → is_accepting call answer ≡ false → seen_of s ≡ seen_of q
        → IsConsistent nondominated r.passes (view_of s) → Answers nondominated r.passes (view_of p) call answer stamp (view_of s)
    told due long nothing seen sound =
        subst (λ x. Answers nondominated r.passes (view_of p) call answer stamp (view_with x (knows_of s))) (sym same)
        (answers_told r.passes p.number (knows_of p) (knows_of q) (knows_of s) opened_as (sound_as sound) stamp call answer listed_as due adds_as long nothing seen)

    pub added : answer ≡ nondominated (submissions (seen_of q)) call → stamp ≡ length (seen_of q) + 1 → is_accepting call answer ≡ true → seen_of s ≡ seen_of q ++ named m stamp call answer ∷ []
        → IsConsistent nondominated r.passes (view_of s) → Answers nondominated r.passes (view_of p) call answer stamp (view_of s)
    added due long something seen sound =
        subst (λ x. Answers nondominated r.passes (view_of p) call answer stamp (view_with x (knows_of s))) (sym same)
        (answers_added r.passes p.number (knows_of p) (knows_of q) (knows_of s) opened_as (sound_as sound) stamp call answer listed_as due adds_as long something
        (subst (λ x. seen_of s ≡ seen_of q ++ entry_of x stamp call answer ∷ []) (mine ∙ opened.number) seen))

  -- a call without an entry
  pub kept : IsPrefix (seen_of q) (seen_of s) → lists_of s ≡ lists_of q → IsConsistent nondominated r.passes (view_of s) → IsRefused nondominated r.passes (view_of p) (view_of s)
  kept more lists sound =
      subst (λ x. IsRefused nondominated r.passes (view_of p) (view_with x (knows_of s))) (sym same)
      (refused r.passes p.number (knows_of p) (knows_of q) (knows_of s) opened_as (sound_as sound) more lists)

module _ {L : Type 0} {G : Ghosts L Entry} (r : Rows L Entry) where
  -- a pass that has left its version is ready
  pub ready_left : (p q : Pass L Entry G) → IsPassOf r p → IsPassOf r q → known_of q ≡ leaving (known_of p) → (known_of p).core.fresh ≡ [] → marked_of q ≡ [] → work_of q ≡ [] → AreListed q.number (lists_of q)
      → HasEvidence (known_of p) → IsReady r q
  ready_left p q before after left fresh marks work listed short = record {
    is_pass = after;
    resting = record {
      unpinned = ap (λ (k : Known). k.core.pinned) left;
      no_fresh = ap (λ (k : Known). k.core.fresh) left ∙ fresh;
      no_marks = marks;
      idle = work;
      listed = listed;
      short = evidence_kept r p q before after (ap (λ (k : Known). k.full) left) short;
    };
  }

-- a pass that leaves version n with the entry of a call that brought nothing in
module _ {L : Type 0} {G : Ghosts L Entry} (r : Rows L Entry) (n : ℕ) (p q s : Pass L Entry G) (opens : Opens r n p q) (is_pass : IsPassOf r s) (same_pass : IsSamePass q s)
    (m : ℕ) (mine : m ≡ q.number) (call : Call) (answer : Reply) (left : knows_of s ≡ having_left (λ (e : Entry). e.caller) (Some (named m n call answer)) (knows_of q)) where
  adds : lists_of s ≡ add_entry m (named m n call answer) (lists_of q)
  adds = ap (λ (k : Knows Entry). k.lists) left

  listed : AreListed s.number (lists_of s)
  listed = lists_told r p q s opens.observes_more same_pass.same_number m n call answer mine opens.listed adds

  pub told_ready : marked_of s ≡ [] → IsReady r s
  told_ready marks =
      ready_left r q s opens.opened.tree.is_pass is_pass (ap (λ (k : Knows Entry). k.view) left) opens.opened.no_fresh marks (same_pass.same_work ∙ opens.opened.idle) listed opens.short

  pub told_answers : answer ≡ nondominated (submissions (seen_of q)) call → is_accepting call answer ≡ false → IsSound (knows_of s) → Answers nondominated r.passes (view_of p) call answer n (view_of s)
  told_answers due nothing sound =
      told r p q s opens.observes_more same_pass.same_number m n call answer mine opens.listed adds due opens.all nothing (ap (λ (k : Knows Entry). k.seen) left)
      (consistent_view r.passes s.number (knows_of s) is_pass.sized.passes_are listed sound)
