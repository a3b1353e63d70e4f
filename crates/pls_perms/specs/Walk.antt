use Rattle.std.specs.Prelude.{ℕ, ◌+◌, ◌<◌, ◌≤◌, List, ◌++◌}
use Rattle.pls_perms.specs.declared.pair.Pair.{Pair}
use Rattle.pls_perms.specs.Permutation.{pairs_with, pairs}

-- a pair of places below n, the first of them at least the least: one that was given, or at first the least place twice
pub record IsPairIn (least n : ℕ) (p : Pair) : Type 0 where
  pub from : least ≤ p.first
  pub ordered : p.first ≤ p.second
  pub below : p.second < n

-- the pairs that come after one
unfoldable pub pairs_after : ℕ → Pair → List (ℕ × ℕ)
pairs_after n p = pairs_with n p.first (p.second + 1) ++ pairs (p.first + 1) n
