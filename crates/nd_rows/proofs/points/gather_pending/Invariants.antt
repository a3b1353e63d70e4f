use Rattle.std.proofs.Common.{◌++◌}
use Rattle.era_rows.specs.Known.{pinned_copy}
use Rattle.era_rows.specs.Passes.{known_of, work_of}
use Rattle.nd_rows.specs.Nodes.{Nodes, points_of}
use Rattle.nd_rows.specs.Reads.{LooksIn}
use Rattle.nd_rows.specs.Walk.{AreOnList, Gathered}
use Rattle.nd_rows.proofs.points.gather_pending.Given as goal

-- what was gathered, with the points of the nodes that are left, is the whole
abbrev pub invariant-loop-given : goal.invariant-loop-given
invariant-loop-given l =
    LooksIn l.rows (pinned_copy (known_of l.fn.pass)).rows l.fn.pass l.pass
    × ((ns : Nodes) → AreOnList l.rows.shape (pinned_copy (known_of l.fn.pass)) l.rows.rows (work_of l.fn.pass) ns
    → Gathered l.rows.shape (pinned_copy (known_of l.fn.pass)) ns (l.fn.points.items ++ points_of ns) l.given (work_of l.pass) l.points.items)
