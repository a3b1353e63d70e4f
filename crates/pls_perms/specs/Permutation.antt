use Rattle.std.specs.Prelude.{ℕ, ◌-◌, ◌+◌, ◌==◌, Bool, true, not, ◌&&◌, nat_lt, List, [], ◌∷◌, map}
use Rattle.std.specs.List.{range_with_len, list_all, list_any, flat_map}
use Rattle.pls_vectors.specs.Solution.{Solution, entry, entries}

-- no number stands twice
unfoldable pub no_repeated : List ℕ → Bool
no_repeated [] = true
no_repeated (x ∷ xs) = not (list_any (λ y. y == x) xs) && no_repeated xs

-- the numbers are below n, and none stands twice: n of them are each number below n once
unfoldable pub are_distinct_below : ℕ → List ℕ → Bool
are_distinct_below n xs = list_all (λ x. nat_lt x n) xs && no_repeated xs

-- no bit stands beyond those of the first n of the 256 entries
unfoldable pub no_other_entry : ℕ → Solution → Bool
no_other_entry n s = list_all (λ i. entry s i == 0) (range_with_len n (256 - n))

-- a permutation of the numbers below n, as it is stored
unfoldable pub is_permutation : ℕ → Solution → Bool
is_permutation n s = (s.len == n) && no_other_entry n s && are_distinct_below n (entries s)

-- the pairs of i with each number from j on and below n
abbrev pub pairs_with : ℕ → ℕ → ℕ → List (ℕ × ℕ)
pairs_with n i j = map (λ k. (i, k)) (range_with_len j (n - j))

-- the pairs (i, j) of numbers with least ≤ i < j < n, in lexicographic order
unfoldable pub pairs : ℕ → ℕ → List (ℕ × ℕ)
pairs least n = flat_map (λ i. pairs_with n i (i + 1)) (range_with_len least (n - least))
