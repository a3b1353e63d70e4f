-- A pass of the shared tree that takes over the lists of another.
use Rattle.std.proofs.Common.{◌≡◌, ◌⊎◌, ◌↔◌, [], ◌∷◌, ◌++◌, refl, sym, ap, subst, ◌∙◌}
use Rattle.era_rows.specs.Passes.{known_of, knows_of, lists_of, marked_of, work_of, IsPassOf, Joins as TakesOver}
use Rattle.era_rows.specs.declared.views.Knows.{Knows}
use Rattle.era_rows.specs.declared.pass.Pass.{Pass}
use Rattle.era_rows.specs.declared.rows.Rows.{Rows}
use Rattle.era_rows.specs.declared.law.Law.{Ghosts}
use Rattle.pls_archive.specs.declared.call.Entry.{Entry}
use Rattle.pls_archive.specs.Reply.{nondominated}
use Rattle.pls_archive.specs.View.{IsConsistent, Joins}
use Rattle.nd_update.specs.Counted.{KeepsShortage}
use Rattle.nd_shared.specs.Views.{AreListed, IsReady, view_of, own_of, others_of}
use Rattle.nd_shared.proofs.Consistent.{consistent_view}
use Rattle.nd_shared.proofs.Recorded.{evidence_joined, keeps_either, keeps_both}
use Rattle.nd_shared.proofs.Telling.{IsSound}

module _ {L : Type 0} {G : Ghosts L Entry} (r : Rows L Entry) (p other q : Pass L Entry G) (ready : IsReady r p) (theirs : IsReady r other) (is_pass : IsPassOf r q) (number : q.number ≡ p.number)
    (joined : TakesOver p other q) where
  first : lists_of q ≡ (q.number, own_of (lists_of p)) ∷ (others_of (lists_of p) ++ lists_of other)
  first =
      ap (λ (k : Knows Entry). k.lists) joined.now ∙ ap (λ lists. lists ++ lists_of other) ready.resting.listed.first
      ∙ ap (λ n. (n, own_of (lists_of p)) ∷ (others_of (lists_of p) ++ lists_of other)) (sym number)

  pub joins : Joins (view_of p) (view_of other) (view_of q)
  joins = record {
    number = number;
    observed = ap (λ (k : Knows Entry). k.seen) joined.now;
    own = ap own_of first;
    others = ap others_of first ∙ ap (λ lists. others_of (lists_of p) ++ lists) theirs.resting.listed.first;
  }

  pub keeps : KeepsShortage (known_of q) ↔ (KeepsShortage (known_of p) ⊎ KeepsShortage (known_of other))
  keeps =
      let full = ap (λ (k : Knows Entry). k.view.full) joined.now in (
        keeps_either r p other q ready.is_pass theirs.is_pass is_pass full,
        keeps_both r p other q ready.is_pass theirs.is_pass is_pass full ready.resting.short,
      )

  module _ (sound : IsSound (knows_of q)) where
    listed : AreListed q.number (lists_of q)
    listed = record {
      first = subst (λ lists. lists ≡ (q.number, own_of lists) ∷ others_of lists) (sym first) refl;
      once = sound.once q.number;
    }

    pub consistent : IsConsistent nondominated r.passes (view_of q)
    consistent = consistent_view r.passes q.number (knows_of q) is_pass.sized.passes_are listed sound

    pub ready_joined : marked_of q ≡ marked_of p → work_of q ≡ [] → IsReady r q
    ready_joined marks work = record {
      is_pass = is_pass;
      resting = record {
        unpinned = ap (λ (k : Knows Entry). k.view.core.pinned) joined.now ∙ ready.resting.unpinned;
        no_fresh = ap (λ (k : Knows Entry). k.view.core.fresh) joined.now ∙ ap (λ rows. rows ++ (known_of other).core.fresh) ready.resting.no_fresh ∙ theirs.resting.no_fresh;
        no_marks = marks ∙ ready.resting.no_marks;
        idle = work;
        listed = listed;
        short = evidence_joined r p other q ready.is_pass theirs.is_pass is_pass (ap (λ (k : Knows Entry). k.view.full) joined.now) ready.resting.short theirs.resting.short;
      };
    }
