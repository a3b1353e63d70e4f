-- What holds of each element of a list holds of each after one more.
use Rattle.std.proofs.Common.{◌≡◌, ℕ, zero, suc, List, [], ◌∷◌, ◌++◌, length, refl, sym, subst, arith}
use Rattle.std.specs.Prelude.{slice_index_or}
use Rattle.std.specs.List.{remove}
use mathlib.Core.Option.{some, some-injective, some-ne-none}
use lib.ListN.{get_elem?}

snoc_each : {A : Type 0} (P : ℕ → A → Type 0) (xs : List A) (x : A) (n : ℕ) → length xs ≡ n → ((i : ℕ) (a : A) → get_elem? xs i ≡ some a → P i a) → P n x
    → (i : ℕ) (a : A) → get_elem? (xs ++ x ∷ []) i ≡ some a → P i a
snoc_each P [] x zero len each last zero a there = subst (P 0) (some-injective x a there) last
snoc_each P [] x zero len each last (suc i) a there = absurd (some-ne-none a (sym there))
snoc_each P [] x (suc n) len each last i a there = absurd (omega arith)
snoc_each P (y ∷ ys) x zero len each last i a there = absurd (omega arith)
snoc_each P (y ∷ ys) x (suc n) len each last zero a there = each zero a there
snoc_each P (y ∷ ys) x (suc n) len each last (suc i) a there = snoc_each (λ j. P (suc j)) ys x n (omega arith) (λ j b at. each (suc j) b at) last i a there

pub each_pushed : {A : Type 0} (P : ℕ → A → Type 0) (xs : List A) (x : A) (n : ℕ) (ys : List A) → length xs ≡ n → ys ≡ xs ++ x ∷ [] → ((i : ℕ) (a : A) → get_elem? xs i ≡ some a → P i a) → P n x
    → (i : ℕ) (a : A) → get_elem? ys i ≡ some a → P i a
each_pushed P xs x n ys len same each last i a there = snoc_each P xs x n len each last i a (subst (λ zs. get_elem? zs i ≡ some a) same there)

module _ {A : Type 0} (P : ℕ → A → Type 0) where
  -- the only element of a list
  pub only_one : (xs : List A) (a : A) → length xs ≡ 1 → ((i : ℕ) (x : A) → get_elem? xs i ≡ some x → P i x) → a ≡ slice_index_or xs 0 a → P 0 a
  only_one [] a one each first = absurd (omega arith)
  only_one (x ∷ xs) a one each first = subst (P 0) (sym first) (each 0 x refl)

  -- the second one of two, and then the first one
  pub both_ones : (xs : List A) (a b : A) → length xs ≡ 2 → ((i : ℕ) (x : A) → get_elem? xs i ≡ some x → P i x)
      → b ≡ slice_index_or xs 1 b → a ≡ slice_index_or (remove xs 1) 0 a → P 0 a × P 1 b
  both_ones [] a b two each second first = absurd (omega arith)
  both_ones (x ∷ []) a b two each second first = absurd (omega arith)
  both_ones (x ∷ y ∷ xs) a b two each second first = (subst (P 0) (sym first) (each 0 x refl), subst (P 1) (sym second) (each 1 y refl))

  -- four, from the last to the first
  pub four_ones : (xs : List A) (a b c d : A) → length xs ≡ 4 → ((i : ℕ) (x : A) → get_elem? xs i ≡ some x → P i x)
      → d ≡ slice_index_or xs 3 d → c ≡ slice_index_or (remove xs 3) 2 c → b ≡ slice_index_or (remove (remove xs 3) 2) 1 b → a ≡ slice_index_or (remove (remove (remove xs 3) 2) 1) 0 a
      → P 0 a × P 1 b × P 2 c × P 3 d
  four_ones [] a b c d four each fourth third second first = absurd (omega arith)
  four_ones (w ∷ []) a b c d four each fourth third second first = absurd (omega arith)
  four_ones (w ∷ x ∷ []) a b c d four each fourth third second first = absurd (omega arith)
  four_ones (w ∷ x ∷ y ∷ []) a b c d four each fourth third second first = absurd (omega arith)
  four_ones (w ∷ x ∷ y ∷ z ∷ xs) a b c d four each fourth third second first = (
    subst (P 0) (sym first) (each 0 w refl),
    subst (P 1) (sym second) (each 1 x refl),
    subst (P 2) (sym third) (each 2 y refl),
    subst (P 3) (sym fourth) (each 3 z refl),
  )
