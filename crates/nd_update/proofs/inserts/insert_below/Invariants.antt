use Rattle.std.proofs.Common.{◌≡◌, ℕ, Some, List}
use Rattle.era_core.specs.Lists.{In}
use Rattle.era_rows.specs.Known.{pinned_copy, known_words}
use Rattle.era_rows.specs.Passes.{known_of, marked_of, work_of}
use Rattle.nd_rows.specs.Nodes.{Nodes}
use Rattle.nd_update.specs.Building.{Does}
use Rattle.nd_update.specs.Counted.{IsPaid}
use Rattle.nd_update.specs.Left.{IsLeft}
use Rattle.nd_update.specs.Needed.{ReadsOnly, on_way}
use Rattle.nd_update.specs.Removal.{without_dominated}
use Rattle.nd_update.specs.Updates.{MayUpdate}
use Rattle.nd_update.proofs.Descending.{IsAt}
use Rattle.nd_update.proofs.inserts.insert_below.Given as goal

-- the point is at the node in this row, after so many steps, and rows on its way were read
abbrev pub invariant-loop-stepped : goal.invariant-loop-stepped
invariant-loop-stepped l = record {
  work : work_of l.pass ≡ work_of l.fn.pass;
  paid : IsPaid 0 (known_of l.pass) (marked_of l.pass);
  mine : In l.row (known_of l.pass).core.fresh;
  does : (taken marked : List ℕ) × (changed : List ℕ) × Does l.rows taken marked changed l.fn.pass l.pass;
  only : (t : Nodes) → MayUpdate l.rows.shape l.rows.rows l.point (pinned_copy (known_of l.fn.pass)) t
      → (removed : ℕ) → IsLeft l.rows.rows l.point.value l.rows.shape t (known_words (known_of l.fn.pass)) (known_of l.fn.pass).core.fresh (marked_of l.fn.pass) (Some l.root) removed
      → ReadsOnly (on_way l.point.value (without_dominated l.rows.rows l.point.value t) 0) (known_of l.fn.pass) (known_of l.pass);
  at : (t : Nodes) → MayUpdate l.rows.shape l.rows.rows l.point (pinned_copy (known_of l.fn.pass)) t
      → (removed : ℕ) → IsLeft l.rows.rows l.point.value l.rows.shape t (known_words (known_of l.fn.pass)) (known_of l.fn.pass).core.fresh (marked_of l.fn.pass) (Some l.root) removed
      → IsAt l.rows.shape l.rows.rows l.point t (known_of l.pass) (marked_of l.pass) l.row l.own l.stepped;
}
