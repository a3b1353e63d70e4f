use Rattle.std.specs.Prelude.{ℕ, ◌-◌, ◌*◌, ◌+◌, ◌/◌, ◌^◌, ◌==◌, ◌≡◌, ◌≢◌, ◌<◌, ◌≤◌, ℤ, pos, Bool, true, ◌&&◌, nat_le, nat_lt, List, [], ◌∷◌, map, length, slice_index, All, AllPairs, if◌then◌else◌}
use Rattle.std.specs.List.{range_with_len, list_all, sum_by}
use Rattle.pls_vectors.specs.Solution.{Solution, chosen, with_item, no_items}

-- an instance of the 0/1 knapsack with several profit rows and several weight rows; all rows one after another
pub record Instance : Type 0 where
  pub items : ℕ
  pub objectives : ℕ
  pub rules : ℕ
  pub profits : List ℕ
  pub capacities : List ℕ
  pub weights : List ℕ

-- the limits of an instance: its sizes, the lengths of its lists, and the greatest numbers in them
pub record IsWithinLimits (k : Instance) : Type 0 where
  pub some_items : 1 ≤ k.items
  pub few_items : k.items ≤ 256
  pub some_objectives : 2 ≤ k.objectives
  pub few_objectives : k.objectives ≤ 4
  pub some_rules : 1 ≤ k.rules
  pub few_rules : k.rules ≤ 8
  pub profit_rows : length k.profits ≡ k.objectives * k.items
  pub capacity_list : length k.capacities ≡ k.rules
  pub weight_rows : length k.weights ≡ k.rules * k.items
  pub small_profits : All (λ x. x ≤ 1000000) k.profits
  pub small_capacities : All (λ x. x ≤ 1000000000) k.capacities
  pub small_weights : All (λ x. x ≤ 1000000) k.weights

-- the instance of these lists: it has as many objectives as there are rows of profits
abbrev pub instance_from : ℕ → List ℕ → List ℕ → List ℕ → Instance
instance_from items profits capacities weights =
    record {
      items = items;
      objectives = length profits / items;
      rules = length capacities;
      profits = profits;
      capacities = capacities;
      weights = weights;
    }

abbrev pub items_of : Instance → List ℕ
items_of k = range_with_len 0 k.items

-- the profit of an item in a row, and its weight in a row
abbrev pub profit : Instance → ℕ → ℕ → ℕ
profit k row item = slice_index k.profits (row * k.items + item)

abbrev pub weight : Instance → ℕ → ℕ → ℕ
weight k row item = slice_index k.weights (row * k.items + item)

-- the sum of an amount over the chosen items among the first n
abbrev pub sum_of_chosen : ℕ → Solution → (ℕ → ℕ) → ℕ
sum_of_chosen n s amount = sum_by (λ item. if chosen s item then amount item else 0) (range_with_len 0 n)

-- the sum of an amount over the chosen items
abbrev pub sum_chosen : Instance → Solution → (ℕ → ℕ) → ℕ
sum_chosen k s amount = sum_of_chosen k.items s amount

-- the objective vector of a choice: the total profit in each profit row
unfoldable pub value : Instance → Solution → List ℤ
value k s = map (λ row. pos (sum_chosen k s (profit k row))) (range_with_len 0 k.objectives)

-- the total weight in a weight row
abbrev pub load : Instance → Solution → ℕ → ℕ
load k s row = sum_chosen k s (weight k row)

-- no weight row is loaded beyond its capacity
unfoldable pub fits : Instance → Solution → Bool
fits k s = list_all (λ row. nat_le (load k s row) (slice_index k.capacities row)) (range_with_len 0 k.rules)

-- no bit stands beyond those of the first n items: word j, of 64 bits, has those of the items 64 j up to 64 j + 63
unfoldable pub no_other_bit : ℕ → Solution → Bool
no_other_bit n s = list_all (λ j. nat_lt (slice_index s.words j) (2 ^ (n - 64 * j))) (range_with_len 0 32)

-- a feasible choice: of the instance's items, with no other bit, and within every capacity
unfoldable pub feasible : Instance → Solution → Bool
feasible k s = (s.len == k.items) && no_other_bit k.items s && fits k s

-- an order names only items, each at most once
pub record IsOrderOf (k : Instance) (order : List ℕ) : Type 0 where
  pub items : All (λ item. item < k.items) order
  pub once : AllPairs (λ a b. a ≢ b) order

-- a choice filled greedily along an order: an item goes in unless the choice with it is infeasible
unfoldable pub filled : Instance → Solution → List ℕ → Solution
filled k s [] = s
filled k s (item ∷ order) = filled k (if feasible k (with_item s item true) then with_item s item true else s) order

-- what a greedy fill takes along an order
unfoldable pub greedy : Instance → List ℕ → Solution
greedy k order = filled k (no_items k.items) order
