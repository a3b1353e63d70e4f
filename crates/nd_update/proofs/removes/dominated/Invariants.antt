use Rattle.std.proofs.Common.{◌≡◌, ◌-◌, false, List, [], ◌∷◌, ◌++◌, length, map, take}
use Rattle.std.specs.Prelude.{replicate}
use Rattle.era_rows.specs.Known.{pinned_copy}
use Rattle.era_rows.specs.Passes.{known_of, work_of}
use Rattle.pls_vectors.specs.Dominance.{weakly_dominates}
use Rattle.nd_rows.specs.Nodes.{Placed, rows_with}
use Rattle.nd_rows.specs.Walk.{HasPlaced}
use Rattle.nd_update.specs.Building.{Does}
use Rattle.nd_update.specs.Needed.{ReadsOnly}
use Rattle.nd_update.proofs.removes.dominated.Given as goal

-- the first points were looked at
abbrev pub invariant-loop-k : goal.invariant-loop-k
invariant-loop-k l =
    Does l.rows [] [] [] l.fn.pass l.pass
    × (work_of l.pass ≡ work_of l.fn.pass)
    × ((placed : List Placed) → HasPlaced l.rows.shape (pinned_copy (known_of l.fn.pass)) l.row placed → length placed ≡ l.count
    → l.hits ≡ map (λ (p : Placed). weakly_dominates l.value p.point.value) (take l.k placed) ++ replicate (20 - l.k) false)
    × ((placed : List Placed) → HasPlaced l.rows.shape (pinned_copy (known_of l.fn.pass)) l.row placed → length placed ≡ l.count
    → ReadsOnly (l.row ∷ rows_with placed) (known_of l.fn.pass) (known_of l.pass))
