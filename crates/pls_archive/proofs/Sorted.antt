-- Lists in ascending order, and why a strictly ascending one is the only one of its elements.
use Rattle.std.proofs.Common.{◌≡◌, ℕ, zero, suc, ◌+◌, ◌<◌, ◌⊎◌, false, inl, inr, List, [], ◌∷◌, length, get_or, All, Ordering, Less, Equal, Greater, refl, ap, sym, subst, ◌∙◌, arith}
use Rattle.std.specs.Cmp.{IsTotalOrder}
use Rattle.std.specs.List.{Contains, IsDistinct}
use Rattle.std.specs.List.Sorted.{IsPermutation, IsSorted, IsStrictlySortedBy}
use Rattle.std.specs.Ordering.{ordering_reverse, is_lt, is_eq, eq_by_cmp}
use Rattle.std.proofs.lemmas.Bool.{true≢false, both_ways}
use Rattle.std.proofs.lemmas.Cmp.{tied_itself}
use Rattle.std.proofs.lemmas.List.Elements.{All-from_recursion, All-head, All-tail, All-contains, Contains-get_or}
use Rattle.std.proofs.lemmas.List.Sorted.{Contains-permutation}
use Rattle.std.proofs.lemmas.Map.Keys.{sorted_head, sorted_tail, sorted_from_all_adjacent, apart_from_distinct}

-- Lists in ascending order.

first_or_later :
    {K : Type 0} (x : K) (xs : List K) (z : K) (k : ℕ) → k < length (x ∷ xs) → get_or (x ∷ xs) k z ≡ z → (x ≡ z) ⊎ Contains xs z
first_or_later x xs z zero within e = inl e
first_or_later x xs z (suc k) within e = inr (k, omega arith, e)

All-Contains-permutation : {K : Type 0} (xs ys : List K) → IsPermutation xs ys → All (Contains ys) xs
All-Contains-permutation xs ys same k d within = Contains-permutation xs ys (get_or xs k d) same (Contains-get_or xs k d within)

module _ {K : Type 0} {R : K → K → Ordering} (order : IsTotalOrder R) where
  later_is_greater : (x : K) (xs : List K) (z : K) → IsStrictlySortedBy R (x ∷ xs) → Contains xs z → R x z ≡ Less
  later_is_greater x xs z sorted later =
      All-contains (λ w. R x w ≡ Less) xs z (All-from_recursion (λ w. R x w ≡ Less) xs (sorted_head R x xs sorted)) later

  not_both_less : (x y : K) → R x y ≡ Less → R y x ≡ Less → ⊥
  not_both_less x y there back = true≢false (ap is_lt (sym there ∙ (order.antisymm x y ∙ ap ordering_reverse back)))

  same_first :
      (x y : K) (xs ys : List K) → IsStrictlySortedBy R (x ∷ xs) → IsStrictlySortedBy R (y ∷ ys)
      → Contains (y ∷ ys) x → Contains (x ∷ xs) y → x ≡ y
  same_first x y xs ys s t there back =
      elim (first_or_later y ys x there.0 there.1 there.2) [
        | inl e ↦ sym e
        | inr x_later ↦
            elim (first_or_later x xs y back.0 back.1 back.2) [
              | inl e ↦ e
              | inr y_later ↦ absurd (not_both_less x y (later_is_greater x xs y s y_later) (later_is_greater y ys x t x_later))
            ]
      ]

  same_later :
      (x y : K) (xs ys : List K) → x ≡ y → IsStrictlySortedBy R (x ∷ xs) → All (Contains (y ∷ ys)) (x ∷ xs) → All (Contains ys) xs
  same_later x y xs ys e sorted all k d within =
      let z = get_or xs k d in
      let less = later_is_greater x xs z sorted (Contains-get_or xs k d within) in
      let there = All-tail (Contains (y ∷ ys)) x xs all k d within in
      elim (first_or_later y ys z there.0 there.1 there.2) [
        | inl here ↦ absurd (true≢false (ap is_eq (sym (tied_itself order x) ∙ (ap (R x) (e ∙ here) ∙ less))))
        | inr later ↦ later
      ]

  same_elements :
      (xs ys : List K) → IsStrictlySortedBy R xs → IsStrictlySortedBy R ys → All (Contains ys) xs → All (Contains xs) ys → xs ≡ ys
  same_elements [] [] s t there back = refl
  same_elements [] (y ∷ ys) s t there back = let none = All-head (Contains []) y ys back in absurd (omega (arith, none.1))
  same_elements (x ∷ xs) [] s t there back = let none = All-head (Contains []) x xs there in absurd (omega (arith, none.1))
  same_elements (x ∷ xs) (y ∷ ys) s t there back =
      let first = same_first x y xs ys s t (All-head (Contains (y ∷ ys)) x xs there) (All-head (Contains (x ∷ xs)) y ys back) in
      let rest = same_elements xs ys (sorted_tail R x xs s) (sorted_tail R y ys t) (same_later x y xs ys first s there) (same_later y x ys xs (sym first) t back) in
      cc

  -- lists in strictly ascending order that have the same elements are one
  pub same_from_sorted : (xs ys : List K) → IsPermutation xs ys → IsStrictlySortedBy R xs → IsStrictlySortedBy R ys → IsPermutation ys xs → xs ≡ ys
  same_from_sorted xs ys there s t back = same_elements xs ys s t (All-Contains-permutation xs ys there) (All-Contains-permutation ys xs back)

  less_from : (a b : Ordering) → a ≡ ordering_reverse b → is_lt b ≡ false → is_eq a ≡ false → a ≡ Less
  less_from a Less e down apart = cc
  less_from a Equal e down apart = absurd (both_ways _ apart (ap is_eq e))
  less_from a Greater e down apart = e

  -- an ascending list of elements that differ ascends strictly
  pub strictly_from_sorted :
      (xs : List K) (d : K) → IsSorted R xs → IsDistinct (eq_by_cmp R) xs → IsStrictlySortedBy R xs
  strictly_from_sorted xs d sorted distinct =
      sorted_from_all_adjacent order xs d
      (λ k within.
      less_from (R (get_or xs k d) (get_or xs (k + 1) d)) (R (get_or xs (k + 1) d) (get_or xs k d))
      (order.antisymm (get_or xs k d) (get_or xs (k + 1) d)) (sorted k d (omega arith) within)
      (apart_from_distinct (eq_by_cmp R) xs k (k + 1) d distinct (omega arith) within))

-- Of a list and its first element
module _ {K : Type 0} (R : K → K → Ordering) where
  -- the first element is not below x
  abbrev pub BeginsFrom : K → List K → Type 0
  BeginsFrom x [] = Unit {0}
  BeginsFrom x (y ∷ ys) = is_lt (R y x) ≡ false

  pub IsSorted-nil : IsSorted R []
  IsSorted-nil k d low within = absurd (omega arith)

  pub IsSorted-cons : (x : K) (xs : List K) → BeginsFrom x xs → IsSorted R xs → IsSorted R (x ∷ xs)
  IsSorted-cons x [] from sorted k d low within = absurd (omega arith)
  IsSorted-cons x (y ∷ ys) from sorted zero d low within = from
  IsSorted-cons x (y ∷ ys) from sorted (suc k) d low within =
      let e : suc (k + 1) ≡ suc k + 1 = omega arith in
      subst (λ (n : ℕ). is_lt (R (get_or (x ∷ y ∷ ys) n d) (get_or (y ∷ ys) k d)) ≡ false) e (sorted k d (omega arith) (omega arith))

  pub IsSorted-rest : (x : K) (xs : List K) → IsSorted R (x ∷ xs) → IsSorted R xs
  IsSorted-rest x xs sorted k d low within =
      let e : suc k + 1 ≡ suc (k + 1) = omega arith in
      subst (λ (n : ℕ). is_lt (R (get_or (x ∷ xs) n d) (get_or xs k d)) ≡ false) e (sorted (suc k) d (omega arith) (omega arith))

  pub BeginsFrom-sorted : (x : K) (xs : List K) → IsSorted R (x ∷ xs) → BeginsFrom x xs
  BeginsFrom-sorted x [] sorted = tt
  BeginsFrom-sorted x (y ∷ ys) sorted = sorted 0 x (omega arith) (omega arith)
