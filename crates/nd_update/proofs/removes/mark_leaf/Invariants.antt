use Rattle.std.proofs.Common.{◌≡◌, ℤ, List, [], ◌∷◌, take}
use Rattle.era_rows.specs.Known.{pinned_copy}
use Rattle.era_rows.specs.Passes.{known_of, work_of}
use Rattle.pls_vectors.specs.Box.{Box}
use Rattle.nd_rows.specs.Nodes.{Placed, rows_with}
use Rattle.nd_update.specs.Building.{Does}
use Rattle.nd_update.specs.Needed.{ReadsOnly}
use Rattle.nd_update.specs.Removal.{going}
use Rattle.nd_update.specs.Left.{IsHitLeaf}
use Rattle.nd_update.proofs.removes.mark_leaf.Given as goal

-- the first points that go were marked
abbrev pub invariant-loop-k : goal.invariant-loop-k
invariant-loop-k l =
    (work_of l.pass ≡ work_of l.fn.pass)
    × ((v : List ℤ) (b : Box) (placed : List Placed) → IsHitLeaf l.rows.shape (pinned_copy (known_of l.fn.pass)) l.row l.count l.hits v b placed
    → Does l.rows [] (l.row ∷ rows_with (going v (take l.k placed))) [] l.fn.pass l.pass)
    × ReadsOnly (l.row ∷ []) (known_of l.fn.pass) (known_of l.pass)
