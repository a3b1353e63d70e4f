use Rattle.std.proofs.Common.{◌≡◌, ◌≤◌, ◌<◌, ◌==◌, ℕ, false, length, drop, slice_index_or}
use Rattle.std.specs.List.{list_any}
use Rattle.pls_vectors.specs.Solution.{entries}
use Rattle.pls_perms.specs.Permutation.{are_distinct_below}
use Rattle.pls_perms.proofs.permutation.has_distinct_entries.Given as goal

abbrev pub invariant-loop-i : goal.invariant-loop-i
invariant-loop-i l =
    record {
      done : l.all ≡ are_distinct_below l.n (drop l.i (entries l.sol));
      marked : (x : ℕ) → x < 256 → slice_index_or l.seen x false ≡ list_any (λ y. y == x) (drop l.i (entries l.sol));
      long : length l.seen ≡ 256;
      within : l.i ≤ l.sol.len;
      few : l.sol.len ≤ 256;
    }

abbrev pub decreases-loop-i : goal.decreases-loop-i
decreases-loop-i l = l.i
