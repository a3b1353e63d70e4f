use Rattle.std.proofs.Common.{◌≡◌, ℕ, ◌<◌, slice_index}
use Rattle.pls_knapsack.specs.Instance.{profit, weight, sum_of_chosen}
use Rattle.pls_knapsack.proofs.knapsack.Knapsack.total.Given as goal

abbrev pub invariant-loop-item : goal.invariant-loop-item
invariant-loop-item l = record {
  profits : (row : ℕ) → row < 4 → slice_index l.total.profits row ≡ sum_of_chosen l.item l.sol (profit l.self row);
  weights : (row : ℕ) → row < 8 → slice_index l.total.weights row ≡ sum_of_chosen l.item l.sol (weight l.self row);
}
