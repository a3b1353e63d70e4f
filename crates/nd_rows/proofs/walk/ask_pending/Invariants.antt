use Rattle.era_rows.specs.Known.{pinned_copy}
use Rattle.era_rows.specs.Passes.{known_of, work_of, IsPassOf}
use Rattle.std.proofs.Common.{length}
use Rattle.nd_rows.specs.Nodes.{Nodes, points_of, necessary, AreFormed}
use Rattle.nd_rows.specs.Reads.{LooksIn}
use Rattle.nd_rows.specs.Walk.{AreOnList, Asked, Finds}
use Rattle.nd_rows.proofs.walk.ask_pending.Given as goal

-- the nodes that are left answer for all, and what was found is below the nodes
abbrev pub invariant-loop-asked : goal.invariant-loop-asked
invariant-loop-asked l =
    IsPassOf l.rows l.pass
    × ((ns : Nodes) → AreFormed (length l.value) ns → AreOnList (length l.value) (pinned_copy (known_of l.fn.pass)) l.rows.rows (work_of l.fn.pass) ns
    → LooksIn l.rows (necessary l.value ns) l.fn.pass l.pass × Asked (length l.value) (pinned_copy (known_of l.fn.pass)) l.question l.value ns l.asked (work_of l.pass)
    × Finds (length l.value) (pinned_copy (known_of l.fn.pass)) (necessary l.value ns) (points_of ns) l.fn.found l.found)
