use Rattle.std.proofs.Common.{◌≡◌, ℕ, ◌<◌, ◌≤◌, false, length, slice_index, drop}
use Rattle.pls_vectors.specs.Solution.{chosen}
use Rattle.pls_knapsack.specs.Instance.{filled, greedy}
use Rattle.pls_knapsack.specs.Walk.{IsTally}
use Rattle.pls_knapsack.proofs.knapsack.Knapsack.greedy.Given as goal

abbrev pub invariant-loop-item : goal.invariant-loop-item
invariant-loop-item l = record {
  tally : IsTally l.self l.tally;
  rest : filled l.self l.tally.sol (drop l.item-index l.order) ≡ greedy l.self l.order;
  free : (m : ℕ) → l.item-index ≤ m → m < length l.order → chosen l.tally.sol (slice_index l.order m) ≡ false;
}
