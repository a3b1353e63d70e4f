-- Cases of a test, and what filters leave.
use Rattle.std.proofs.Common.{◌≡◌, ◌<◌, Bool, true, false, not, if◌then◌else◌, List, [], ◌∷◌, length, map, refl, sym, ap, ◌∙◌, arith}
use Rattle.std.specs.Prelude.{◌||◌}
use Rattle.std.specs.List.{filter, list_any}
use Rattle.pls_archive.specs.Lists.{Every}
use Rattle.pls_archive.proofs.Every.{filter-all}

pub by_test : (Q : Bool → Type 0) (s : Bool) → (s ≡ true → Q true) → (s ≡ false → Q false) → Q s
by_test Q true h k = h refl
by_test Q false h k = k refl

module _ {A : Type 0} (test : A → Bool) where
  -- where none passes, each fails
  pub none-each : (xs : List A) → list_any test xs ≡ false → Every (λ x. not (test x) ≡ true) xs
  none-each [] none = tt
  none-each (x ∷ xs) none =
      (by_test (λ s. (s || list_any test xs) ≡ false → not s ≡ true) (test x) (λ e none. none' none) (λ e none. refl) none, none-each xs (right (test x) none))
    where
      none' : true ≡ false → false ≡ true
      none' e = sym e

      right : (s : Bool) → (s || list_any test xs) ≡ false → list_any test xs ≡ false
      right true e = absurd (let h : true ≡ false = e in cc)
      right false e = e

  -- and the filter leaves all
  pub filter-rest : (xs : List A) → list_any test xs ≡ false → filter (λ x. not (test x)) xs ≡ xs
  filter-rest xs none = filter-all (λ x. not (test x)) xs (none-each xs none)

  -- where one passes, and where each does
  pub any-one : (P : Type 0) (xs : List A) → list_any test xs ≡ true → Every (λ x. test x ≡ true → P) xs → P
  any-one P [] some each = absurd (let h : false ≡ true = some in cc)
  any-one P (x ∷ xs) some each =
      by_test (λ s. test x ≡ s → (s || list_any test xs) ≡ true → P) (test x) (λ e is some. each.0 is) (λ e is some. any-one P xs some each.1) refl some

  pub each-any : (xs : List A) → 0 < length xs → Every (λ x. test x ≡ true) xs → list_any test xs ≡ true
  each-any [] some each = absurd (omega arith)
  each-any (x ∷ xs) some each = ap (λ s. s || list_any test xs) each.0

  pub filter-out : (xs : List A) → Every (λ x. test x ≡ true) xs → filter (λ x. not (test x)) xs ≡ []
  filter-out [] each = refl
  filter-out (x ∷ xs) each = ap (λ s. if not s then x ∷ filter (λ y. not (test y)) xs else filter (λ y. not (test y)) xs) each.0 ∙ filter-out xs each.1

  -- where the filter leaves one, it fails the test
  pub left-one : (P : Type 0) (xs : List A) → 0 < length (filter (λ x. not (test x)) xs) → Every (λ x. test x ≡ false → P) xs → P
  left-one P [] some each = absurd (omega arith)
  left-one P (x ∷ xs) some each =
      by_test (λ s. test x ≡ s → 0 < length (if not s then x ∷ filter (λ y. not (test y)) xs else filter (λ y. not (test y)) xs) → P) (test x)
      (λ e is some. left-one P xs some each.1) (λ e is some. each.0 is) refl some

pub filter-map : {A B : Type 0} (test : B → Bool) (f : A → B) (xs : List A) → map f (filter (λ x. test (f x)) xs) ≡ filter test (map f xs)
filter-map test f [] = refl
filter-map test f (x ∷ xs) =
    by_test (λ s. map f (if s then x ∷ filter (λ y. test (f y)) xs else filter (λ y. test (f y)) xs) ≡ (if s then f x ∷ filter test (map f xs) else filter test (map f xs))) (test (f x))
    (λ passes. ap (λ ys. f x ∷ ys) (filter-map test f xs)) (λ fails. filter-map test f xs)
