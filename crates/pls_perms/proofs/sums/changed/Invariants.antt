use Rattle.std.proofs.Common.{◌≡◌, ℕ, ◌+◌, ◌<◌, length, slice_index}
use Rattle.pls_perms.proofs.sums.changed.Given as goal

abbrev pub invariant-loop-k : goal.invariant-loop-k
invariant-loop-k l =
    record {
      done : (k : ℕ) → k < l.k
          → slice_index l.changed k + (slice_index l.removed k + slice_index l.removed_too k)
          ≡ slice_index l.sums k + (slice_index l.added k + slice_index l.added_too k);
      long : length l.changed ≡ 4;
    }
