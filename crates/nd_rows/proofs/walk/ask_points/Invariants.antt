use Rattle.std.proofs.Common.{◌≡◌, List, ◌∷◌, length, drop}
use Rattle.era_rows.specs.Known.{pinned_copy}
use Rattle.era_rows.specs.Passes.{known_of, work_of, IsPassOf}
use Rattle.nd_rows.specs.Nodes.{Placed, rows_with, points_with}
use Rattle.nd_rows.specs.Reads.{LooksIn}
use Rattle.nd_rows.specs.Walk.{HasPlaced, some_meets}
use Rattle.nd_rows.proofs.walk.ask_points.Given as goal

-- the points that are left answer for all
abbrev pub invariant-loop-k : goal.invariant-loop-k
invariant-loop-k l =
    IsPassOf l.rows l.pass
    × (work_of l.pass ≡ work_of l.fn.pass)
    × ((placed : List Placed) → HasPlaced (length l.value) (pinned_copy (known_of l.fn.pass)) l.row placed → length placed ≡ l.count
    → LooksIn l.rows (l.row ∷ rows_with placed) l.fn.pass l.pass
    × (some_meets l.question (points_with placed) l.value ≡ some_meets l.question (points_with (drop l.k placed)) l.value))
