use Rattle.std.proofs.Common.{◌≡◌, ◌-◌, [], ◌∷◌, ◌++◌, length, take}
use Rattle.std.specs.Prelude.{replicate}
use Rattle.era_rows.specs.Passes.{known_of, work_of}
use Rattle.pls_vectors.specs.Box.{Box, box_of}
use Rattle.nd_rows.specs.Nodes.{Nodes, no_nodes, inner, heads}
use Rattle.nd_update.specs.Building.{Does}
use Rattle.nd_update.specs.Insertion.{boxes_of}
use Rattle.nd_update.specs.Needed.{ReadsOnly}
use Rattle.nd_update.specs.Ways.{HasNode}
use Rattle.nd_update.proofs.inserts.closest_child.Given as goal

-- the boxes of the children before this one were read, and nothing else
abbrev pub invariant-loop-k : goal.invariant-loop-k
invariant-loop-k l = record {
  does : Does l.rows [] [] [] l.fn.pass l.pass;
  work : work_of l.pass ≡ work_of l.fn.pass;
  only : (b : Box) (kids : Nodes) → HasNode l.rows.shape (known_of l.fn.pass) l.row (inner l.row b kids no_nodes) → length (heads kids) ≡ l.count → ReadsOnly (l.row ∷ heads kids) (known_of l.fn.pass) (known_of l.pass);
  read : (b : Box) (kids : Nodes) → HasNode l.rows.shape (known_of l.fn.pass) l.row (inner l.row b kids no_nodes) → length (heads kids) ≡ l.count → l.boxes ≡ take l.k (boxes_of kids) ++ replicate (5 - l.k) (box_of l.value);
}
