use Rattle.std.proofs.Common.{◌≡◌, ℕ, ◌+◌, ◌*◌, ◌^◌, ◌<◌, ◌≤◌, slice_index}
use Rattle.std.specs.List.{sum_by}
use Rattle.nd_tree.specs.Split.{value_at, distance, places}
use Rattle.nd_tree.proofs.choice.add_distances.Given as goal

abbrev pub invariant-loop-k : goal.invariant-loop-k
invariant-loop-k l = record {
  done : (i : ℕ) → i < l.k → slice_index l.sums i ≡ slice_index l.fn.sums i + 4 * distance (value_at l.values i) l.v;
  bound : (i : ℕ) → i < l.k → slice_index l.sums i ≤ slice_index l.fn.sums i + 2 ^ 86;
  others : (i : ℕ) → l.k ≤ i → slice_index l.sums i ≡ slice_index l.fn.sums i;
  added : l.added ≡ 4 * sum_by (λ i. distance (value_at l.values i) l.v) (places l.k);
  added_bound : l.added ≤ l.k * 2 ^ 86;
}
