use Rattle.std.proofs.Common.{◌≡◌, ℕ, ◌+◌, ◌*◌, ◌<◌, ◌≤◌, length, slice_index}
use Rattle.pls_perms.proofs.table.numbers_at.Given as goal

abbrev pub invariant-loop-k : goal.invariant-loop-k
invariant-loop-k l =
    record {
      done : (k : ℕ) → k < l.k → slice_index l.at_place k ≡ slice_index l.numbers (k * l.long + l.place);
      ahead : (k : ℕ) → l.k ≤ k → slice_index l.at_place k ≡ 0;
      long : length l.at_place ≡ 4;
    }
