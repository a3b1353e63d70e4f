use Rattle.std.specs.Prelude.{◌^◌, ◌≤◌, ℤ, pos, neg_ℤ, Bool, true, false, ◌&&◌, List, [], ◌∷◌, length, int_le, IsTrue}
use Rattle.std.specs.List.{list_all}

-- Weak dominance under maximisation: as many parts, and none of a is below that of b.
abbrev pub weakly_dominates : List ℤ → List ℤ → Bool
weakly_dominates [] [] = true
weakly_dominates [] (y ∷ ys) = false
weakly_dominates (x ∷ xs) [] = false
weakly_dominates (x ∷ xs) (y ∷ ys) = int_le y x && weakly_dominates xs ys

-- a part of a vector lies between -2^40 and 2^40
abbrev pub is_part : ℤ → Bool
is_part x = int_le (neg_ℤ (pos (2 ^ 40))) x && int_le x (pos (2 ^ 40))

-- the parts of a vector: two to four, each in range
pub record IsValue (parts : List ℤ) : Type 0 where
  pub at_least_two : 2 ≤ length parts
  pub at_most_four : length parts ≤ 4
  pub in_range : IsTrue (list_all is_part parts)
