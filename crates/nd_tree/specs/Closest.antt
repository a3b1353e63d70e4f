-- The child of an inner node to which a value goes.
use Rattle.std.specs.Prelude.{ℕ, ℤ, nat_le, List}
use Rattle.pls_vectors.specs.Box.{Box, gap}
use Rattle.nd_tree.specs.First.{first_best}

-- the place of the box with the least gap, the first of equals
abbrev pub closest : List Box → List ℤ → ℕ
closest boxes v = first_best (λ a b. nat_le (gap a v) (gap b v)) boxes
