-- The first and the last of some passes or seats in order of number.
use Rattle.std.proofs.Common.{◌≡◌, ℕ, zero, suc, ◌+◌, ◌≤◌, List, [], ◌∷◌, ◌++◌, length, refl, ap, sym, subst, ◌∙◌, arith, slice_index_or}
use Rattle.std.specs.List.{remove}
use Rattle.std.proofs.lemmas.List.{length-append}
use Rattle.pls_search.specs.Crews.{AreSeated}
use mathlib.Core.Option.{some}
use lib.ListN.{get_elem?}

module _ {T : Type 0} (x : T) where
  at_last : (xs : List T) → get_elem? (xs ++ x ∷ []) (length xs) ≡ some x
  at_last [] = refl
  at_last (y ∷ xs) = at_last xs

  at_first : (xs : List T) (k : ℕ) (y : T) → get_elem? xs k ≡ some y → get_elem? (xs ++ x ∷ []) k ≡ some y
  at_first [] k y found = cc
  at_first (z ∷ xs) zero y found = found
  at_first (z ∷ xs) (suc k) y found = at_first xs k y found

module _ {T : Type 0} (P : ℕ → T → Type 0) where
  -- counted from 0
  pub Seated-from : (all : List T) → AreSeated P all → AreSeated (λ k y. P (0 + k) y) all
  Seated-from all seated k y found = let here : k ≡ 0 + k = omega arith in subst (λ n. P n y) here (seated k y found)

  -- the one with the number 0, and the others
  pub Seated-first :
      (all rest : List T) (x : T) → 1 ≤ length all → x ≡ slice_index_or all 0 x → rest ≡ remove all 0 → AreSeated (λ k y. P (0 + k) y) all
      → P 0 x × AreSeated (λ k y. P (1 + k) y) rest
  Seated-first [] rest x many is left seated = absurd (omega (arith, many))
  Seated-first (y ∷ ys) rest x many is left seated = (
    subst (P 0) (sym is) (seated 0 y refl),
    λ k z found. let here : 0 + suc k ≡ 1 + k = omega arith in subst (λ n. P n z) here (seated (suc k) z (subst (λ xs. get_elem? xs k ≡ some z) left found)),
  )

  -- of those with the numbers 1 to n, the last one, and the others
  pub Seated-last :
      (n : ℕ) (all rest : List T) (x : T) → n ≡ length all → all ≡ rest ++ x ∷ [] → AreSeated (λ k y. P (1 + k) y) all
      → P n x × AreSeated (λ k y. P (1 + k) y) rest
  Seated-last n all rest x count split seated =
      let here = subst (AreSeated (λ k y. P (1 + k) y)) split seated in
      let long = ap length split ∙ length-append rest (x ∷ []) in
      let last : 1 + length rest ≡ n = omega (arith, long, count) in (
        subst (λ k. P k x) last (here (length rest) x (at_last x rest)),
        λ k y found. here k y (at_first x rest k y found),
      )
