-- The retired rows of a pass, which stand in a ring of words in the order of their versions.
use Rattle.std.specs.Prelude.{ℕ, ◌/◌, ◌%◌, ◌<◌, ◌≤◌, ◌≡◌, Bool, true, false, ◌&&◌, nat_lt, nat_le, Option, List, [], ◌∷◌, map, slice_index}
use Rattle.era_core.specs.declared.sizes.TheConstants.{ROOT_ROWS}
use Rattle.era_core.specs.Views.{clears}
use mathlib.Core.Option.{some}
use lib.ListN.{get_elem?}

-- the version and the row in each of these words
abbrev pub pairs_in : List ℕ → List (ℕ × ℕ)
pairs_in words = map (λ word. (word / ROOT_ROWS, word % ROOT_ROWS)) words

-- each of these pairs is of this version or a later one
abbrev pub AreFrom : ℕ → List (ℕ × ℕ) → Type 0
AreFrom n pairs = (i : ℕ) (p : ℕ × ℕ) → get_elem? pairs i ≡ some p → n ≤ p.0

-- the pairs stand in the order of their versions
abbrev pub AreInOrder : List (ℕ × ℕ) → Type 0
AreInOrder pairs = (i j : ℕ) (p q : ℕ × ℕ) → i < j → get_elem? pairs i ≡ some p → get_elem? pairs j ≡ some q → p.0 ≤ q.0

-- there is a pair, and the version of the first is before the least that a reservation names
abbrev pub is_first_clear : Option ℕ → List (ℕ × ℕ) → Bool
is_first_clear least [] = false
is_first_clear least (p ∷ pairs) = clears least p.0

-- the first of two words is to come before the first of the others: of the words so many are still to come, and its version
-- is no later. So it is, too, where there are no others
abbrev pub is_own_next : ℕ → List ℕ → List ℕ → Bool
is_own_next left words [] = true
is_own_next left words (other ∷ others) = nat_lt 0 left && nat_le (slice_index words 0 / ROOT_ROWS) (other / ROOT_ROWS)
