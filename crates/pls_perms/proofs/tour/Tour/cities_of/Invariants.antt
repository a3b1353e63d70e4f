use Rattle.std.proofs.Common.{◌≡◌, ℕ, ◌<◌, ◌≤◌, length, slice_index}
use Rattle.pls_vectors.specs.Solution.{entry}
use Rattle.pls_perms.proofs.tour.Tour.cities_of.Given as goal

abbrev pub invariant-loop-i : goal.invariant-loop-i
invariant-loop-i l = record {
  done : (i : ℕ) → i < l.i → slice_index l.cities i ≡ entry l.sol i;
  ahead : (i : ℕ) → l.i ≤ i → slice_index l.cities i ≡ 0;
  long : length l.cities ≡ 257;
}
