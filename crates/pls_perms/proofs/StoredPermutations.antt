-- What is stored from a list of the numbers below n, in any order, is a permutation of them.
use Rattle.std.proofs.Common.{◌≡◌, inl, inr, ℕ, ◌<◌, ◌≤◌, true, List, length, slice_index, ap, sym, ◌∙◌, arith, get_or-set_same, get_or-set_other}
use Rattle.std.specs.List.{range_with_len, swap, slice_set}
use Rattle.std.specs.List.Sorted.{IsPermutation}
use Rattle.std.proofs.lemmas.Bool.{cases_eq, cases_lt}
use Rattle.std.proofs.lemmas.List.{length-set, get_or_past}
use Rattle.std.proofs.lemmas.List.Edits.{swap_is, length-swap}
use Rattle.std.proofs.lemmas.List.Elements.{All-get_or, All-from_get_or}
use Rattle.std.proofs.lemmas.List.FromFn.{length-range_with_len, get_or-range_with_len}
use Rattle.std.proofs.lemmas.List.Sorted.{IsPermutation-keeps, IsPermutation-refl, All-permutation, length_permutation}
use Rattle.pls_vectors.specs.Solution.{stored, order}
use Rattle.pls_vectors.proofs.Rearranged.{exchange, exchange-first, exchange-second, exchange-other, len-stored, entry-stored}
use Rattle.pls_perms.specs.Permutation.{is_permutation}
use Rattle.pls_perms.proofs.Permutations.{Rearranges-exchange, is_permutation-from}

-- no number stands at two places
abbrev are_apart : List ℕ → Type 0
are_apart xs = (i j : ℕ) → i < length xs → j < length xs → slice_index xs i ≡ slice_index xs j → i ≡ j

get_or-swap :
    (xs : List ℕ) (a b k : ℕ) → a < length xs → b < length xs → slice_index (swap xs a b) k ≡ slice_index xs (exchange a b k)
get_or-swap xs a b k a_in b_in =
    let x = slice_index xs a in
    let y = slice_index xs b in
    let long = length-set xs a y in
    ap (λ ys. slice_index ys k) (sym (swap_is xs a b 0 a_in b_in))
    ∙ elim (cases_eq k b) [
      | inl second ↦
          ap (λ m. slice_index (slice_set (slice_set xs a y) b x) m) second
          ∙ (get_or-set_same (slice_set xs a y) b x 0 (omega arith) ∙ ap (λ m. slice_index xs m) (sym (exchange-second a b k second)))
      | inr other ↦
          get_or-set_other (slice_set xs a y) b k x 0 other
          ∙ elim (cases_eq k a) [
            | inl first ↦
                ap (λ m. slice_index (slice_set xs a y) m) first
                ∙ (get_or-set_same xs a y 0 a_in ∙ ap (λ m. slice_index xs m) (sym (exchange-first a b k first)))
            | inr neither ↦
                get_or-set_other xs a k y 0 neither ∙ ap (λ m. slice_index xs m) (sym (exchange-other a b k neither other))
          ]
    ]

are_apart-swap : (xs : List ℕ) (a b : ℕ) → a < length xs → b < length xs → are_apart xs → are_apart (swap xs a b)
are_apart-swap xs a b a_in b_in apart i j i_in j_in same =
    let moved = Rearranges-exchange (length xs) a b a_in b_in in
    let long = length-swap xs a b in
    let e = apart (exchange a b i) (exchange a b j) (moved.within i (omega arith)) (moved.within j (omega arith))
    (sym (get_or-swap xs a b i a_in b_in) ∙ (same ∙ get_or-swap xs a b j a_in b_in)) in
    sym (moved.back i) ∙ (ap (exchange a b) e ∙ moved.back j)

are_apart-range : (n : ℕ) → are_apart (range_with_len 0 n)
are_apart-range n i j i_in j_in same =
    let long = length-range_with_len 0 n in
    let first = get_or-range_with_len 0 n i 0 (omega arith) in
    let second = get_or-range_with_len 0 n j 0 (omega arith) in
    omega arith

pub is_permutation-stored :
    (n : ℕ) (xs : List ℕ) → 1 ≤ n → n ≤ 256 → IsPermutation (range_with_len 0 n) xs → is_permutation n (stored xs) ≡ true
is_permutation-stored n xs some few h =
    let all = length-range_with_len 0 n in
    let long : length xs ≡ n = length_permutation (range_with_len 0 n) xs h ∙ all in
    let apart = IsPermutation-keeps (range_with_len 0 n) are_apart (are_apart-range n) are_apart-swap xs h in
    let below = All-permutation (λ x. x < n) (range_with_len 0 n) xs h
    (All-from_get_or (λ x. x < n) (range_with_len 0 n) 0 (λ i within. let is = get_or-range_with_len 0 n i 0 (omega arith) in omega arith)) in
    let at = λ (i : ℕ) (within : i < n). All-get_or (λ x. x < n) xs i 0 (omega arith) below in
    let small = λ (i : ℕ).
    elim (cases_lt i n) as (λ _. slice_index xs i < 256) [
      | inl within ↦ (let less = at i within in omega arith)
      | inr past ↦ (let none = get_or_past xs i 0 (omega arith) in omega arith)
    ] in
    is_permutation-from n (stored xs) few
    (record {
      len = len-stored xs (omega arith) small ∙ long;
      others = λ i from within. entry-stored xs (omega arith) small i ∙ get_or_past xs i 0 (omega arith);
      below = λ i within. rw (entry-stored xs (omega arith) small i) (at i within);
      distinct = λ i j i_in j_in same.
          apart i j (omega arith) (omega arith)
          (sym (entry-stored xs (omega arith) small i) ∙ (same ∙ entry-stored xs (omega arith) small j));
    })

-- so is the order 0, 1, 2 and so on
pub is_permutation-order : (n : ℕ) → 1 ≤ n → n ≤ 256 → is_permutation n (order n) ≡ true
unfolding order
is_permutation-order n some few = is_permutation-stored n (range_with_len 0 n) some few (IsPermutation-refl (range_with_len 0 n))
