-- What holds of each element of a list holds of those that are taken out of it from the last to the first.
use Rattle.std.proofs.Common.{◌≡◌, ℕ, List, [], ◌∷◌, length, refl, sym, subst, arith}
use Rattle.std.specs.Prelude.{slice_index_or}
use Rattle.std.specs.List.{remove}
use mathlib.Core.Option.{some}
use lib.ListN.{get_elem?}

module _ {A : Type 0} (P : ℕ → A → Type 0) where
  -- the only element of a list
  pub only_one : (xs : List A) (a : A) → length xs ≡ 1 → ((i : ℕ) (x : A) → get_elem? xs i ≡ some x → P i x) → a ≡ slice_index_or xs 0 a → P 0 a
  only_one [] a one each first = absurd (omega arith)
  only_one (x ∷ xs) a one each first = subst (P 0) (sym first) (each 0 x refl)

  -- the second one of two, and then the first one
  pub both_ones : (xs : List A) (a b : A) → length xs ≡ 2 → ((i : ℕ) (x : A) → get_elem? xs i ≡ some x → P i x)
      → b ≡ slice_index_or xs 1 b → a ≡ slice_index_or (remove xs 1) 0 a → P 0 a × P 1 b
  both_ones [] a b two each second first = absurd (omega arith)
  both_ones (x ∷ []) a b two each second first = absurd (omega arith)
  both_ones (x ∷ y ∷ xs) a b two each second first = (subst (P 0) (sym first) (each 0 x refl), subst (P 1) (sym second) (each 1 y refl))

  -- four, from the last to the first
  pub four_ones : (xs : List A) (a b c d : A) → length xs ≡ 4 → ((i : ℕ) (x : A) → get_elem? xs i ≡ some x → P i x)
      → d ≡ slice_index_or xs 3 d → c ≡ slice_index_or (remove xs 3) 2 c → b ≡ slice_index_or (remove (remove xs 3) 2) 1 b → a ≡ slice_index_or (remove (remove (remove xs 3) 2) 1) 0 a
      → P 0 a × P 1 b × P 2 c × P 3 d
  four_ones [] a b c d four each fourth third second first = absurd (omega arith)
  four_ones (w ∷ []) a b c d four each fourth third second first = absurd (omega arith)
  four_ones (w ∷ x ∷ []) a b c d four each fourth third second first = absurd (omega arith)
  four_ones (w ∷ x ∷ y ∷ []) a b c d four each fourth third second first = absurd (omega arith)
  four_ones (w ∷ x ∷ y ∷ z ∷ xs) a b c d four each fourth third second first = (
    subst (P 0) (sym first) (each 0 w refl),
    subst (P 1) (sym second) (each 1 x refl),
    subst (P 2) (sym third) (each 2 y refl),
    subst (P 3) (sym fourth) (each 3 z refl),
  )
