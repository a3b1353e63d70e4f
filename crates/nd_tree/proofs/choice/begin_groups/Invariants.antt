use Rattle.std.proofs.Common.{◌≡◌, ℕ, ◌*◌, ◌^◌, ◌<◌, ◌≤◌, slice_index, take}
use Rattle.nd_tree.specs.Split.{total_distance, begun}
use Rattle.nd_tree.proofs.choice.begin_groups.Given as goal

abbrev pub invariant-loop-k : goal.invariant-loop-k
invariant-loop-k l = record {
  choice : l.choice ≡ begun l.values l.k;
  sums : (i : ℕ) → i < 21 → slice_index l.sums i ≡ 4 * total_distance l.values (take l.k l.choice.chosen) i;
  bound : (i : ℕ) → i < 21 → slice_index l.sums i ≤ l.k * 2 ^ 86;
}
