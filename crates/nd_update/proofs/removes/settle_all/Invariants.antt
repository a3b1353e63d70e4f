use Rattle.std.proofs.Common.{ℕ, ◌-◌, ◌≤◌, List}
use Rattle.era_rows.specs.Known.{pinned_copy}
use Rattle.era_rows.specs.Passes.{known_of, marked_of, work_of}
use Rattle.nd_rows.specs.Nodes.{Nodes}
use Rattle.nd_rows.specs.Layout.{IsTreeOf}
use Rattle.nd_update.specs.Building.{Does}
use Rattle.nd_update.specs.Counted.{IsPaid}
use Rattle.nd_update.specs.Left.{left, entries, AreAllListed}
use Rattle.nd_update.specs.Needed.{ReadsOnly, opened}
use Rattle.nd_update.specs.Sweeps.{Sweeps}
use Rattle.nd_update.proofs.removes.settle_all.Given as goal

-- the last nodes of the list were settled
abbrev pub invariant-loop-settled : goal.invariant-loop-settled
invariant-loop-settled l =
    ((taken marked : List ℕ) × Does l.rows taken marked taken l.fn.pass l.pass)
    × ((t : Nodes) (n : ℕ) → IsTreeOf l.rows.shape (pinned_copy (known_of l.fn.pass)) t → AreAllListed l.value t n (work_of l.fn.pass) → l.settled ≤ n
    → Sweeps l.rows l.value (left l.value (n - l.settled) t) (entries l.value (n - l.settled) t) l.pass l.removed)
    × IsPaid 0 (known_of l.pass) (marked_of l.pass)
    × ((t : Nodes) (n : ℕ) → IsTreeOf l.rows.shape (pinned_copy (known_of l.fn.pass)) t → AreAllListed l.value t n (work_of l.fn.pass) → ReadsOnly (opened l.value t) (known_of l.fn.pass) (known_of l.pass))
