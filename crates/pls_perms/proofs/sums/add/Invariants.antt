use Rattle.std.proofs.Common.{◌≡◌, ℕ, ◌+◌, ◌<◌, ◌≤◌, length, slice_index}
use Rattle.pls_perms.proofs.sums.add.Given as goal

abbrev pub invariant-loop-k : goal.invariant-loop-k
invariant-loop-k l =
    record {
      done : (k : ℕ) → k < l.k → slice_index l.sums k ≡ slice_index l.fn.sums k + slice_index l.numbers k;
      ahead : (k : ℕ) → l.k ≤ k → slice_index l.sums k ≡ slice_index l.fn.sums k;
      long : length l.sums ≡ 4;
    }
