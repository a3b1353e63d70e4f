use Rattle.std.proofs.Common.{◌≡◌, ℤ, List, [], ◌∷◌, length, take}
use Rattle.era_rows.specs.Known.{pinned_copy, known_words}
use Rattle.era_rows.specs.Passes.{known_of, work_of}
use Rattle.pls_vectors.specs.Box.{Box}
use Rattle.nd_rows.specs.declared.layout.TheConstants.{FIRST_LINK}
use Rattle.nd_rows.specs.Nodes.{Placed, rows_with}
use Rattle.nd_rows.specs.Layout.{HasWords}
use Rattle.nd_update.specs.Building.{Does}
use Rattle.nd_update.specs.Needed.{ReadsOnly}
use Rattle.nd_update.specs.Removal.{staying}
use Rattle.nd_update.specs.Left.{IsHitLeaf}
use Rattle.nd_update.proofs.removes.copy_leaf.Given as goal

-- the links to the first points that stay were written
abbrev pub invariant-loop-k : goal.invariant-loop-k
invariant-loop-k l =
    Does l.rows [] [] (l.own ∷ []) l.fn.pass l.pass
    × (work_of l.pass ≡ work_of l.fn.pass)
    × ((v : List ℤ) (b : Box) (placed : List Placed) → IsHitLeaf l.rows.shape (pinned_copy (known_of l.fn.pass)) l.row l.count l.hits v b placed
    → HasWords (known_words (known_of l.pass)) l.own FIRST_LINK (rows_with (staying v (take l.k placed))) × (l.place ≡ length (staying v (take l.k placed))))
    × ReadsOnly (l.row ∷ []) (known_of l.fn.pass) (known_of l.pass)
