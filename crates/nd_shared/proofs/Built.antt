-- A call that has built a tree over its version, or could not.
use Rattle.std.proofs.Common.{◌≡◌, ℕ, [], take, length, sym, ap, subst, ◌∙◌}
use Rattle.std.specs.Prelude.{Result, Ok, Err, OnErr}
use Rattle.era_core.specs.Versions.{Copy}
use Rattle.era_rows.specs.Known.{pinned_copy}
use Rattle.era_rows.specs.Passes.{known_of, seen_of, marked_of, work_of}
use Rattle.era_rows.specs.declared.pass.Pass.{Pass}
use Rattle.era_rows.specs.declared.rows.Rows.{Rows}
use Rattle.era_rows.specs.declared.law.Law.{Ghosts}
use Rattle.pls_archive.specs.declared.call.Entry.{Entry}
use Rattle.pls_archive.specs.declared.point.Point.{Point}
use Rattle.nd_rows.specs.Layout.{StandsFor}
use Rattle.nd_rows.specs.Reads.{HasPinnedTree}
use Rattle.nd_update.specs.Building.{Goes}
use Rattle.nd_update.specs.Built.{IsPublishable}
use Rattle.nd_update.specs.declared.builds.Built.{Built}
use Rattle.nd_update.proofs.Building.{same_copy}
use Rattle.nd_shared.specs.Views.{Opens, BuildsAt, own_of, others_of}
use Rattle.nd_shared.proofs.Opening.{still_listed, still_opens}
use Rattle.nd_shared.proofs.Recorded.{evidence_kept}

pub on_err : {A E : Type 0} (answer : Result A E) (X Y : Type 0) → (X → Y) → OnErr answer X → OnErr answer Y
on_err (Ok a) X Y f holds = tt
on_err (Err e) X Y f holds = f holds

module _ {L : Type 0} {G : Ghosts L Entry} (r : Rows L Entry) (n : ℕ) (p q s : Pass L Entry G) (opens : Opens r n p q) (goes : Goes r q s) (idle : work_of s ≡ [])
    (full : (known_of s).full ≡ (known_of q).full) where
  pub builds_at : (point : Point) (built : Built) → IsPublishable n point built s → BuildsAt r n point built p s
  builds_at point built publishable = record {
    is_pass = goes.is_pass;
    publishable = publishable;
    idle = idle;
    listed = still_listed q s goes.same_number goes.same_lists opens.listed;
    short = evidence_kept r q s opens.opened.tree.is_pass goes.is_pass full opens.short;
    all = ap length goes.same_seen ∙ opens.all;
    observes_more = record {
      number = goes.same_number ∙ opens.observes_more.number;
      observed = (opens.observes_more.observed.0, opens.observes_more.observed.1 ∙ sym goes.same_seen);
      own = ap own_of goes.same_lists ∙ opens.observes_more.own;
      others = ap others_of goes.same_lists ∙ opens.observes_more.others;
    };
  }

  tree : HasPinnedTree r n s
  tree =
      let before = opens.opened.tree in
      let copy = same_copy (known_of q) (known_of s) goes.builds in record {
        is_pass = goes.is_pass;
        root = before.root;
        pinned = goes.builds.pinned ∙ before.pinned;
        rooted = ap (λ (c : Copy). c.root) copy ∙ before.rooted;
        stands =
            subst (λ (c : Copy). StandsFor r.shape c (take n (seen_of s))) (sym copy)
            (subst (λ entries. StandsFor r.shape (pinned_copy (known_of q)) (take n entries)) (sym goes.same_seen) before.stands);
      }

  -- as before, where nothing was built
  pub opens_still : (known_of s).core.fresh ≡ [] → marked_of s ≡ [] → Opens r n p s
  opens_still fresh marks = still_opens r n p q s opens (record { tree = tree; no_fresh = fresh; no_marks = marks; idle = idle }) goes.same_number goes.same_seen goes.same_lists full
