use Rattle.std.proofs.Common.{◌≡◌, ℕ, ◌+◌, ◌*◌, ◌<◌, ◌≤◌, length, slice_index}
use Rattle.pls_knapsack.proofs.knapsack.table.column.Given as goal

abbrev pub invariant-loop-row : goal.invariant-loop-row
invariant-loop-row g l = record {
  done : (row : ℕ) → row < l.row → slice_index l.column row ≡ slice_index l.rows (row * l.items + l.item);
  ahead : (row : ℕ) → l.row ≤ row → slice_index l.column row ≡ 0;
  long : length l.column ≡ g.row.N;
}
