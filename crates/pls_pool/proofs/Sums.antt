-- Sums over the views of all seats.
use Rattle.std.proofs.Common.{◌≡◌, ◌≢◌, ℕ, zero, suc, ◌+◌, ◌≤◌, List, [], ◌∷◌, ◌++◌, set, sum_by, sym, ap, arith}
use Rattle.std.proofs.lemmas.List.Sums.{sum_by-cons, sum_by_push}
use mathlib.Core.Option.{some, some-injective, some-ne-none}
use lib.ListN.{get_elem?}

module _ {V : Type 0} (f : V → ℕ) where
  pub sum_set : (vs : List V) (i : ℕ) (v w : V) → get_elem? vs i ≡ some v → sum_by f (set vs i w) + f v ≡ sum_by f vs + f w
  sum_set [] i v w at = absurd (some-ne-none v (sym at))
  sum_set (x ∷ xs) zero v w at = let same = ap f (some-injective x v at) in omega (arith, sum_by-cons f x xs, sum_by-cons f w xs)
  sum_set (x ∷ xs) (suc i) v w at = let rest = sum_set xs i v w at in omega (arith, sum_by-cons f x xs, sum_by-cons f x (set xs i w))

  pub sum_same : (vs : List V) (i : ℕ) (v w : V) → get_elem? vs i ≡ some v → f w ≡ f v → sum_by f (set vs i w) ≡ sum_by f vs
  sum_same vs i v w at same = let now = sum_set vs i v w at in omega arith

  pub sum_here : (vs : List V) (i : ℕ) (v : V) → get_elem? vs i ≡ some v → f v ≤ sum_by f vs
  sum_here [] i v at = absurd (some-ne-none v (sym at))
  sum_here (x ∷ xs) zero v at = let same = ap f (some-injective x v at) in omega (arith, sum_by-cons f x xs)
  sum_here (x ∷ xs) (suc i) v at = let rest = sum_here xs i v at in omega (arith, sum_by-cons f x xs)

  -- where all other seats have nothing, the sum is what one seat has
  pub sum_only : (vs : List V) (i : ℕ) (v : V) → get_elem? vs i ≡ some v → ((j : ℕ) (u : V) → j ≢ i → get_elem? vs j ≡ some u → f u ≡ 0) → sum_by f vs ≡ f v
  sum_only [] i v at none = absurd (some-ne-none v (sym at))
  sum_only (x ∷ xs) zero v at none =
      let same = ap f (some-injective x v at) in
      let rest : sum_by f xs ≡ 0 = all_none xs (λ j u there. none (suc j) u (λ e. absurd (omega arith)) there) in omega (arith, sum_by-cons f x xs)
    where
      all_none : (ys : List V) → ((j : ℕ) (u : V) → get_elem? ys j ≡ some u → f u ≡ 0) → sum_by f ys ≡ 0
      all_none [] all = omega arith
      all_none (y ∷ ys) all = let here = all zero y (λ k. some y) in let more = all_none ys (λ j u there. all (suc j) u there) in omega (arith, sum_by-cons f y ys)
  sum_only (x ∷ xs) (suc i) v at none =
      let rest = sum_only xs i v at (λ j u apart there. none (suc j) u (λ e. apart (omega arith)) there) in
      let here = none zero x (λ e. absurd (omega arith)) (λ k. some x) in omega (arith, sum_by-cons f x xs)

  pub sum_two : (vs : List V) (i j : ℕ) (v u : V) → get_elem? vs i ≡ some v → get_elem? vs j ≡ some u → j ≢ i → f v + f u ≤ sum_by f vs
  sum_two [] i j v u at there apart = absurd (some-ne-none v (sym at))
  sum_two (x ∷ xs) zero zero v u at there apart = absurd (apart (omega arith))
  sum_two (x ∷ xs) zero (suc j) v u at there apart = let same = ap f (some-injective x v at) in let rest = sum_here xs j u there in omega (arith, sum_by-cons f x xs)
  sum_two (x ∷ xs) (suc i) zero v u at there apart = let same = ap f (some-injective x u there) in let rest = sum_here xs i v at in omega (arith, sum_by-cons f x xs)
  sum_two (x ∷ xs) (suc i) (suc j) v u at there apart = let rest = sum_two xs i j v u at there (λ e. apart (ap suc e)) in omega (arith, sum_by-cons f x xs)

-- what is at most something at each seat is so in all
pub sum_le : {V : Type 0} (f g : V → ℕ) (vs : List V) → ((i : ℕ) (v : V) → get_elem? vs i ≡ some v → f v ≤ g v) → sum_by f vs ≤ sum_by g vs
sum_le f g [] each = omega arith
sum_le f g (x ∷ xs) each =
    let here = each zero x (λ k. some x) in
    let rest = sum_le f g xs (λ i v there. each (suc i) v there) in omega (arith, sum_by-cons f x xs, sum_by-cons g x xs)

-- a sum of sums
pub sum_both : {V : Type 0} (f g : V → ℕ) (vs : List V) → sum_by (λ v. f v + g v) vs ≡ sum_by f vs + sum_by g vs
sum_both f g [] = omega arith
sum_both {V} f g (x ∷ xs) = let h : V → ℕ = λ v. f v + g v in let rest = sum_both f g xs in omega (arith, sum_by-cons f x xs, sum_by-cons g x xs, sum_by-cons h x xs)

module _ {V : Type 0} (f : V → ℕ) where
  -- where one seat takes over what another has
  pub sum_joined : (vs : List V) (i j : ℕ) (v w both spent : V) → get_elem? vs i ≡ some v → get_elem? (set vs i both) j ≡ some w → f both ≡ f v + f w → f spent ≡ 0
      → sum_by f (set (set vs i both) j spent) ≡ sum_by f vs
  sum_joined vs i j v w both spent at there adds none = let one = sum_set f vs i v both at in let two = sum_set f (set vs i both) j w spent there in omega arith

  -- where one seat gives a part to a new one
  pub sum_split : (vs : List V) (i : ℕ) (v left right : V) → get_elem? vs i ≡ some v → f left + f right ≡ f v → sum_by f (set vs i left ++ right ∷ []) ≡ sum_by f vs
  sum_split vs i v left right at adds = let one = sum_set f vs i v left at in omega (arith, sum_by_push f (set vs i left) right)
