use Rattle.std.specs.Prelude.{◌≡◌, ℕ, ◌+◌, ◌*◌, ◌/◌, ◌%◌, ◌<◌, List, [], length, map, slice_index, slice_index_or}
use Rattle.std.specs.List.{range_with_len}

-- the numbers at a place of a table: one for each list
abbrev pub numbers_at : List (List ℕ) → ℕ → List ℕ
numbers_at table place = slice_index_or table place []

-- a table of the first n places: each has its number of each list, where lists of `long` numbers stand one
-- after another, and 0 past them
pub record IsTableOf (long n : ℕ) (numbers : List ℕ) (table : List (List ℕ)) : Type 0 where
  pub places : length table ≡ n
  pub has : (k place : ℕ) → k < 4 → place < n → slice_index (numbers_at table place) k ≡ slice_index numbers (k * long + place)

-- the first lists of a table, one after another
unfoldable pub by_lists : ℕ → List (List ℕ) → List ℕ
by_lists lists table =
    map (λ i. slice_index (numbers_at table (i % length table)) (i / length table)) (range_with_len 0 (lists * length table))
