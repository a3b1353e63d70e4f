use Rattle.std.proofs.Common.{◌≡◌, List, ◌∷◌, ◌++◌, length, drop}
use Rattle.era_rows.specs.Known.{pinned_copy}
use Rattle.era_rows.specs.Passes.{known_of, work_of, IsPassOf}
use Rattle.nd_rows.specs.Nodes.{Placed, rows_with, points_with}
use Rattle.nd_rows.specs.Reads.{LooksIn}
use Rattle.nd_rows.specs.Walk.{HasPlaced}
use Rattle.nd_rows.proofs.points.gather_points.Given as goal

-- what was gathered, with the points that are left, is the whole
abbrev pub invariant-loop-k : goal.invariant-loop-k
invariant-loop-k l =
    IsPassOf l.rows l.pass
    × (work_of l.pass ≡ work_of l.fn.pass)
    × ((placed : List Placed) → HasPlaced l.rows.shape (pinned_copy (known_of l.fn.pass)) l.row placed → length placed ≡ l.count
    → LooksIn l.rows (l.row ∷ rows_with placed) l.fn.pass l.pass
    × (l.points.items ++ points_with (drop l.k placed) ≡ l.fn.points.items ++ points_with placed))
