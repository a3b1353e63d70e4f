use Rattle.std.specs.Prelude.{◌≡◌, ℕ, ◌+◌, ◌*◌, ◌<◌, List, length, map, replicate, slice_index, slice_index_or}
use Rattle.std.specs.List.{range_with_len, flat_map}
use Rattle.pls_knapsack.specs.declared.knapsack.amounts.Amounts.{Amounts}
use Rattle.pls_knapsack.specs.Instance.{Instance, profit, weight}

-- the amounts of an item of a table, and none past its end
abbrev pub no_amounts : Amounts
no_amounts = record { profits = replicate 4 0; weights = replicate 8 0 }

abbrev pub item_at : List Amounts → ℕ → Amounts
item_at table item = slice_index_or table item no_amounts

-- the amounts of an item of an instance
pub record IsItem (k : Instance) (item : ℕ) (a : Amounts) : Type 0 where
  pub profits : (row : ℕ) → row < 4 → slice_index a.profits row ≡ profit k row item
  pub weights : (row : ℕ) → row < 8 → slice_index a.weights row ≡ weight k row item

-- a table of the first n items: each has its number of each row, where the rows of `items` numbers stand one
-- after another, and 0 past them
pub record IsTableOf (items n : ℕ) (profits weights : List ℕ) (table : List Amounts) : Type 0 where
  pub long : length table ≡ n
  pub in_profits : (row item : ℕ) → row < 4 → item < n → slice_index (item_at table item).profits row ≡ slice_index profits (row * items + item)
  pub in_weights : (row item : ℕ) → row < 8 → item < n → slice_index (item_at table item).weights row ≡ slice_index weights (row * items + item)

-- columns, one for each item, as rows one after another
unfoldable pub by_rows : ℕ → List (List ℕ) → List ℕ
by_rows rows columns = flat_map (λ row. map (λ column. slice_index column row) columns) (range_with_len 0 rows)
