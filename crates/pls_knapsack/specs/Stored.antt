use Rattle.std.specs.Prelude.{◌≡◌, ℕ, map, take, slice_index}
use Rattle.pls_knapsack.specs.declared.knapsack.Knapsack.TheInside.{Inside}
use Rattle.pls_knapsack.specs.Instance.{Instance, IsWithinLimits}
use Rattle.pls_knapsack.specs.Table.{IsTableOf, by_rows}

-- the instance that is stored as a table of its items
abbrev pub instance_in : Inside → Instance
instance_in k =
    record {
      items = k.items;
      objectives = k.objectives;
      rules = k.rules;
      profits = by_rows k.objectives (map (λ item. item.profits) k.table.items);
      capacities = take k.rules k.capacities;
      weights = by_rows k.rules (map (λ item. item.weights) k.table.items);
    }

-- it is within the limits, and the table and the capacities are 0 in each row that it does not have
pub record IsStored (k : Inside) : Type 0 where
  pub limits : IsWithinLimits (instance_in k)
  pub table : IsTableOf k.items k.items (instance_in k).profits (instance_in k).weights k.table.items
  pub capacities : (row : ℕ) → slice_index k.capacities row ≡ slice_index (instance_in k).capacities row
