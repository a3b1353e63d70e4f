-- What holds of each pair of places.
use Rattle.std.proofs.Common.{ℕ, ◌+◌, ◌-◌, ◌<◌, ◌≤◌, All, map, suc, zero, arith}
use Rattle.std.specs.List.{range_with_len, flat_map}
use Rattle.std.proofs.lemmas.List.Elements.{All-nil, All-cons, All-append}
use Rattle.pls_perms.specs.Permutation.{pairs_with, pairs}

-- a pair of places from the least one on, of which the first comes before the second
pub record IsPairWithin (least n : ℕ) (p : ℕ × ℕ) : Type 0 where
  pub begins : least ≤ p.0
  pub order : p.0 < p.1
  pub below : p.1 < n

row-within :
    (least n i j m : ℕ) → least ≤ i → i < j → (0 < m → j + m ≤ n) → All (IsPairWithin least n) (map (λ k. (i, k)) (range_with_len j m))
row-within least n i j zero begins order short = All-nil (IsPairWithin least n)
row-within least n i j (suc m) begins order short =
    All-cons (IsPairWithin least n) (i, j) (map (λ k. (i, k)) (range_with_len (j + 1) m))
    (let within = short (omega arith) in record { begins = begins; order = order; below = omega arith })
    (row-within least n i (j + 1) m begins (omega arith) (λ some. let within = short (omega arith) in omega arith))

rows-within :
    (least n a c : ℕ) → least ≤ a → All (IsPairWithin least n) (flat_map (λ i. pairs_with n i (i + 1)) (range_with_len a c))
rows-within least n a zero begins = All-nil (IsPairWithin least n)
rows-within least n a (suc c) begins =
    All-append (IsPairWithin least n) (pairs_with n a (a + 1)) (flat_map (λ i. pairs_with n i (i + 1)) (range_with_len (a + 1) c))
    (row-within least n a (a + 1) (n - (a + 1)) begins (omega arith) (λ some. omega arith))
    (rows-within least n (a + 1) c (omega arith))

pub pairs-within : (least n : ℕ) → All (IsPairWithin least n) (pairs least n)
unfolding pairs
pairs-within least n = rows-within least n least (n - least) (omega arith)
