-- Totals over the passes, where some change.
use Rattle.std.proofs.Common.{◌≡◌, ◌≢◌, ℕ, zero, suc, ◌+◌, ◌≤◌, List, [], ◌∷◌, ◌++◌, set, sym, ap, arith}
use Rattle.pls_archive.specs.Lists.{total}
use mathlib.Core.Option.{some, some-injective, some-ne-none}
use lib.ListN.{get_elem?}

module _ {V : Type 0} (f : V → ℕ) where
  pub total_set : (vs : List V) (i : ℕ) (v w : V) → get_elem? vs i ≡ some v → total f (set vs i w) + f v ≡ total f vs + f w
  total_set [] i v w at = absurd (some-ne-none v (sym at))
  total_set (x ∷ xs) zero v w at = let same = ap f (some-injective x v at) in omega arith
  total_set (x ∷ xs) (suc i) v w at = let rest = total_set xs i v w at in omega arith

  pub total_same : (vs : List V) (i : ℕ) (v w : V) → get_elem? vs i ≡ some v → f w ≡ f v → total f (set vs i w) ≡ total f vs
  total_same vs i v w at same = let now = total_set vs i v w at in omega arith

  pub total_here : (vs : List V) (i : ℕ) (v : V) → get_elem? vs i ≡ some v → f v ≤ total f vs
  total_here [] i v at = absurd (some-ne-none v (sym at))
  total_here (x ∷ xs) zero v at = let same = ap f (some-injective x v at) in omega arith
  total_here (x ∷ xs) (suc i) v at = let rest = total_here xs i v at in omega arith

  pub total_two : (vs : List V) (i j : ℕ) (v u : V) → get_elem? vs i ≡ some v → get_elem? vs j ≡ some u → j ≢ i → f v + f u ≤ total f vs
  total_two [] i j v u at there apart = absurd (some-ne-none v (sym at))
  total_two (x ∷ xs) zero zero v u at there apart = absurd (apart (omega arith))
  total_two (x ∷ xs) zero (suc j) v u at there apart = let same = ap f (some-injective x v at) in let rest = total_here xs j u there in omega arith
  total_two (x ∷ xs) (suc i) zero v u at there apart = let same = ap f (some-injective x u there) in let rest = total_here xs i v at in omega arith
  total_two (x ∷ xs) (suc i) (suc j) v u at there apart = let rest = total_two xs i j v u at there (λ e. apart (ap suc e)) in omega arith

  total_push : (vs : List V) (v : V) → total f (vs ++ v ∷ []) ≡ total f vs + f v
  total_push [] v = omega arith
  total_push (x ∷ xs) v = let rest = total_push xs v in omega arith

  -- where one gives a part to a new one
  pub total_split : (vs : List V) (i : ℕ) (v left right : V) → get_elem? vs i ≡ some v → f left + f right ≡ f v → total f (set vs i left ++ right ∷ []) ≡ total f vs
  total_split vs i v left right at adds = let one = total_set vs i v left at in let two = total_push (set vs i left) right in omega arith

  -- where one takes over what another has
  pub total_joined : (vs : List V) (i j : ℕ) (v w both spent : V) → get_elem? vs i ≡ some v → get_elem? (set vs i both) j ≡ some w → f both ≡ f v + f w → f spent ≡ 0
      → total f (set (set vs i both) j spent) ≡ total f vs
  total_joined vs i j v w both spent at there adds none = let one = total_set vs i v both at in let two = total_set (set vs i both) j w spent there in omega arith
