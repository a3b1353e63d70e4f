use Rattle.std.proofs.Common.{◌≡◌, ℕ, ◌+◌, ◌<◌, ◌≤◌, length, slice_index}
use Rattle.pls_knapsack.proofs.knapsack.amounts.add.Given as goal

abbrev pub invariant-loop-row : goal.invariant-loop-row
invariant-loop-row g l = record {
  done : (row : ℕ) → row < l.row → slice_index l.sums row ≡ slice_index l.fn.sums row + slice_index l.amounts row;
  ahead : (row : ℕ) → l.row ≤ row → slice_index l.sums row ≡ slice_index l.fn.sums row;
  long : length l.sums ≡ g.row.N;
}
