-- The pairs of places in lexicographic order: the next one, the last one, and how many there are.
use Rattle.std.proofs.Common.{◌≡◌, ℕ, zero, suc, ◌-◌, ◌+◌, ◌*◌, ◌<◌, ◌≤◌, List, [], ◌∷◌, ◌++◌, length, map, inl, inr, ap, sym, ◌∙◌, arith}
use Rattle.std.specs.List.{range_with_len, flat_map}
use Rattle.std.proofs.Math.Nat.{mul_comm, mul-le-mul_right}
use Rattle.std.proofs.lemmas.Bool.{cases_lt}
use Rattle.std.proofs.lemmas.List.{length-append}
use Rattle.std.proofs.lemmas.List.FromFn.{length-map-range_with_len}
use Rattle.pls_perms.specs.declared.pair.Pair.{Pair}
use Rattle.pls_perms.specs.Permutation.{pairs_with, pairs}
use Rattle.pls_perms.specs.Walk.{pairs_after}

pairs_with-more : (n i j : ℕ) → j < n → pairs_with n i j ≡ (i, j) ∷ pairs_with n i (j + 1)
pairs_with-more n i j below =
    let more : n - j ≡ suc (n - (j + 1)) = omega arith in
    ap (λ m. map (λ k. (i, k)) (range_with_len j m)) more

pairs_with-end : (n i j : ℕ) → n ≤ j → pairs_with n i j ≡ []
pairs_with-end n i j past =
    let none : n - j ≡ 0 = omega arith in
    ap (λ m. map (λ k. (i, k)) (range_with_len j m)) none

pub pairs-more : (least n : ℕ) → least < n → pairs least n ≡ pairs_with n least (least + 1) ++ pairs (least + 1) n
unfolding pairs
pairs-more least n below =
    let more : n - least ≡ suc (n - (least + 1)) = omega arith in
    ap (λ m. flat_map (λ i. pairs_with n i (i + 1)) (range_with_len least m)) more

pairs-none : (least n : ℕ) → n ≤ least → pairs least n ≡ []
unfolding pairs
pairs-none least n past =
    let none : n - least ≡ 0 = omega arith in
    ap (λ m. flat_map (λ i. pairs_with n i (i + 1)) (range_with_len least m)) none

pub pairs-end : (least n : ℕ) → n ≤ least + 1 → pairs least n ≡ []
pairs-end least n past =
    elim (cases_lt least n) [
      | inl below ↦
          pairs-more least n below
          ∙ (ap (λ front. front ++ pairs (least + 1) n) (pairs_with-end n least (least + 1) past) ∙ pairs-none (least + 1) n past)
      | inr from ↦ pairs-none least n from
    ]

-- all pairs come after the one before the first
pub pairs_after-begin : (least n : ℕ) (p : Pair) → p.first ≡ least → p.second ≡ least → least < n → pairs_after n p ≡ pairs least n
unfolding pairs_after
pairs_after-begin least n p first second below = rw (first, second) (sym (pairs-more least n below))

pub pairs_after-next :
    (n : ℕ) (p q : Pair) → q.first ≡ p.first → q.second ≡ p.second + 1 → p.second + 1 < n
    → pairs_after n p ≡ (q.first, q.second) ∷ pairs_after n q
unfolding pairs_after
pairs_after-next n p q first second below =
    rw (first, second) (ap (λ front. front ++ pairs (p.first + 1) n) (pairs_with-more n p.first (p.second + 1) below))

pub pairs_after-row :
    (n : ℕ) (p q : Pair) → q.first ≡ p.first + 1 → q.second ≡ p.first + 2 → n ≤ p.second + 1 → p.first + 2 < n
    → pairs_after n p ≡ (q.first, q.second) ∷ pairs_after n q
unfolding pairs_after
pairs_after-row n p q first second past below =
    let one_more : p.first + 1 + 1 ≡ p.first + 2 = omega arith in
    rw (first, second)
    (ap (λ front. front ++ pairs (p.first + 1) n) (pairs_with-end n p.first (p.second + 1) past)
    ∙ (pairs-more (p.first + 1) n (omega arith)
    ∙ (ap (λ j. pairs_with n (p.first + 1) j ++ pairs (p.first + 1 + 1) n) one_more
    ∙ ap (λ front. front ++ pairs (p.first + 1 + 1) n) (pairs_with-more n (p.first + 1) (p.first + 2) below))))

pub pairs_after-end : (n : ℕ) (p : Pair) → n ≤ p.second + 1 → n ≤ p.first + 2 → pairs_after n p ≡ []
unfolding pairs_after
pairs_after-end n p past last =
    ap (λ front. front ++ pairs (p.first + 1) n) (pairs_with-end n p.first (p.second + 1) past) ∙ pairs-end (p.first + 1) n (omega arith)

-- how many pairs there are
twice-pairs : (m least n : ℕ) → least + m ≡ n → 2 * length (pairs least n) + m ≡ m * m
twice-pairs zero least n all = (let none = ap (λ (xs : List (ℕ × ℕ)). length xs) (pairs-none least n (omega arith)) in omega arith)
twice-pairs (suc m) least n all =
    let rest = twice-pairs m (least + 1) n (omega arith) in
    let more = ap (λ (xs : List (ℕ × ℕ)). length xs) (pairs-more least n (omega arith)) ∙ length-append (pairs_with n least (least + 1)) (pairs (least + 1) n) in
    let row : length (pairs_with n least (least + 1)) ≡ n - (least + 1) = length-map-range_with_len _ (least + 1) (n - (least + 1)) in
    let square : suc m * suc m ≡ m * m + 2 * m + 1 = omega arith in
    omega arith

pub length-pairs : (q least n : ℕ) → least ≤ n → n - least ≤ suc q → 2 * length (pairs least n) ≤ q * suc q
length-pairs q least n from few =
    let m : ℕ = n - least in
    let twice : 2 * length (pairs least n) + m ≡ m * m = twice-pairs m least n (omega arith) in
    elim (cases_lt m (suc q)) [
      | inl less ↦
          let first : m * m ≤ suc q * m = mul-le-mul_right m (omega arith) in
          let second : m * suc q ≤ q * suc q = mul-le-mul_right (suc q) (omega arith) in
          let turned = mul_comm m (suc q) in
          omega arith
      | inr more ↦
          let all : m ≡ suc q = omega arith in
          let square : m * m ≡ suc q * suc q = ap (λ k. k * k) all in
          let product : suc q * suc q ≡ q * suc q + suc q = omega arith in
          omega arith
    ]
