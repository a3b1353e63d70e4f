use Rattle.std.proofs.Common.{◌≡◌, ℕ, ◌*◌, ◌^◌, ◌<◌, ◌≤◌, slice_index}
use Rattle.nd_tree.specs.Split.{total_distance, places}
use Rattle.nd_tree.proofs.choice.sums_to_all.Given as goal

abbrev pub invariant-loop-k : goal.invariant-loop-k
invariant-loop-k l = record {
  sums : (i : ℕ) → i < l.k → slice_index l.sums i ≡ 4 * total_distance l.values (places l.k) i;
  bound : (i : ℕ) → i < l.k → slice_index l.sums i ≤ l.k * 2 ^ 86;
}
