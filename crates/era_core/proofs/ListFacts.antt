-- How often a row stands in a list, sums over a list, and a list after one place was written.
use Rattle.std.proofs.Common.{◌≡◌, ◌≢◌, ℕ, zero, suc, ◌+◌, ◌<◌, ◌≤◌, ◌⊎◌, ⊎_elim, inl, inr, cond, List, [], ◌∷◌, ◌++◌, length, set, refl, sym, ap, ◌∙◌, arith, eq-eqb, ne_eqb}
use Rattle.std.proofs.lemmas.Bool.{cases_eq}
use Rattle.era_core.specs.Lists.{times, In, total}
use mathlib.Core.Option.{some, some-injective, some-ne-none}
use lib.ListN.{get_elem?}

pub times-head : (x : ℕ) (xs : List ℕ) → times x (x ∷ xs) ≡ 1 + times x xs
times-head x xs = ap (λ b. cond b 1 0 + times x xs) (eq-eqb x x refl)

pub times-tail : (x y : ℕ) (xs : List ℕ) → x ≢ y → times x (y ∷ xs) ≡ times x xs
times-tail x y xs apart = ap (λ b. cond b 1 0 + times x xs) (ne_eqb x y apart) ∙ omega arith

pub times-append : (x : ℕ) (xs ys : List ℕ) → times x (xs ++ ys) ≡ times x xs + times x ys
times-append x [] ys = omega arith
times-append x (y ∷ xs) ys = let rest = times-append x xs ys in omega arith

pub in-append_left : (x : ℕ) (xs ys : List ℕ) → In x xs → In x (xs ++ ys)
in-append_left x xs ys here = omega (arith, times-append x xs ys)

pub in-append_right : (x : ℕ) (xs ys : List ℕ) → In x ys → In x (xs ++ ys)
in-append_right x xs ys here = omega (arith, times-append x xs ys)

pub in_cases : (x y : ℕ) (xs : List ℕ) → In x (y ∷ xs) → (x ≡ y) ⊎ In x xs
in_cases x y xs here = ⊎_elim (λ e. inl e) (λ apart. inr (omega (arith, times-tail x y xs apart))) (cases_eq x y)

pub in_head : (x : ℕ) (xs : List ℕ) → In x (x ∷ xs)
in_head x xs = omega (arith, times-head x xs)

pub in_tail : (x y : ℕ) (xs : List ℕ) → In x xs → In x (y ∷ xs)
in_tail x y xs here = omega arith

-- a sum after one element was written
pub total-set : {A : Type 0} (f : A → ℕ) (l : List A) (i : ℕ) (a b : A) → get_elem? l i ≡ some a → total f (set l i b) + f a ≡ total f l + f b
total-set f [] i a b at = absurd (some-ne-none a (sym at))
total-set f (x ∷ xs) zero a b at = let same : f x ≡ f a = ap f (some-injective x a at) in omega arith
total-set f (x ∷ xs) (suc i) a b at = let rest = total-set f xs i a b at in omega arith

-- a sum over two lists is the sum over both
pub total-append : {A : Type 0} (f : A → ℕ) (l m : List A) → total f (l ++ m) ≡ total f l + total f m
total-append f [] m = omega arith
total-append f (x ∷ xs) m = let rest = total-append f xs m in omega arith

-- an element of a list is at most the sum
pub total-le : {A : Type 0} (f : A → ℕ) (l : List A) (i : ℕ) (a : A) → get_elem? l i ≡ some a → f a ≤ total f l
total-le f [] i a at = absurd (some-ne-none a (sym at))
total-le f (x ∷ xs) zero a at = let same : f x ≡ f a = ap f (some-injective x a at) in omega arith
total-le f (x ∷ xs) (suc i) a at = let rest = total-le f xs i a at in omega arith

-- two elements at different places are both in a sum
pub total-two : {A : Type 0} (f : A → ℕ) (l : List A) (i j : ℕ) (a b : A) → get_elem? l i ≡ some a → get_elem? l j ≡ some b → i ≢ j → f a + f b ≤ total f l
total-two f [] i j a b at bt apart = absurd (some-ne-none a (sym at))
total-two f (x ∷ xs) zero zero a b at bt apart = absurd (apart refl)
total-two f (x ∷ xs) zero (suc j) a b at bt apart = let same : f x ≡ f a = ap f (some-injective x a at) in let rest = total-le f xs j b bt in omega arith
total-two f (x ∷ xs) (suc i) zero a b at bt apart = let same : f x ≡ f b = ap f (some-injective x b bt) in let rest = total-le f xs i a at in omega arith
total-two f (x ∷ xs) (suc i) (suc j) a b at bt apart = let rest = total-two f xs i j a b at bt (λ e. apart (ap suc e)) in omega arith

-- one sum is at most another where each part is
pub total-le_total : {A : Type 0} (f g : A → ℕ) (l : List A) → ((a : A) → f a ≤ g a) → total f l ≤ total g l
total-le_total f g [] le = omega arith
total-le_total f g (x ∷ xs) le = let one = le x in let rest = total-le_total f g xs le in omega arith

-- a sum of sums
pub total-add : {A : Type 0} (f g h : A → ℕ) (l : List A) → ((a : A) → h a ≡ f a + g a) → total h l ≡ total f l + total g l
total-add f g h [] parts = omega arith
total-add f g h (x ∷ xs) parts = let one = parts x in let rest = total-add f g h xs parts in omega arith

module _ {A : Type 0} where
  -- an element of a list in which one place was written
  pub at_set : (l : List A) (i j : ℕ) (a b : A) → get_elem? (set l i a) j ≡ some b → ((j ≡ i) × (a ≡ b)) ⊎ ((j ≢ i) × (get_elem? l j ≡ some b))
  at_set [] i j a b at = absurd (some-ne-none b (sym at))
  at_set (x ∷ xs) zero zero a b at = inl (refl, some-injective a b at)
  at_set (x ∷ xs) zero (suc j) a b at = inr ((λ e. omega arith), at)
  at_set (x ∷ xs) (suc i) zero a b at = inr ((λ e. omega arith), at)
  at_set (x ∷ xs) (suc i) (suc j) a b at = ⊎_elim (λ t. inl (ap suc t.0, t.1)) (λ t. let apart = t.0 in inr ((λ e. apart (omega arith)), t.1)) (at_set xs i j a b at)

  pub set_here : (l : List A) (i : ℕ) (a b : A) → get_elem? l i ≡ some a → get_elem? (set l i b) i ≡ some b
  set_here [] i a b at = absurd (some-ne-none a (sym at))
  set_here (x ∷ xs) zero a b at = refl
  set_here (x ∷ xs) (suc i) a b at = set_here xs i a b at

  pub set_else : (l : List A) (i j : ℕ) (a : A) → j ≢ i → get_elem? (set l i a) j ≡ get_elem? l j
  set_else [] i j a apart = refl
  set_else (x ∷ xs) zero zero a apart = absurd (apart refl)
  set_else (x ∷ xs) zero (suc j) a apart = refl
  set_else (x ∷ xs) (suc i) zero a apart = refl
  set_else (x ∷ xs) (suc i) (suc j) a apart = set_else xs i j a (λ e. apart (ap suc e))

  -- writing an element where it stands changes nothing
  pub set_again : (l : List A) (i : ℕ) (a : A) → get_elem? l i ≡ some a → set l i a ≡ l
  set_again [] i a at = refl
  set_again (x ∷ xs) zero a at = ap (λ y. y ∷ xs) (sym (some-injective x a at))
  set_again (x ∷ xs) (suc i) a at = ap (λ ys. x ∷ ys) (set_again xs i a at)

  pub at_within : (l : List A) (i : ℕ) (a : A) → get_elem? l i ≡ some a → i < length l
  at_within [] i a at = absurd (some-ne-none a (sym at))
  at_within (x ∷ xs) zero a at = omega arith
  at_within (x ∷ xs) (suc i) a at = let rest = at_within xs i a at in omega arith

  pub at_longer : (l m : List A) (i : ℕ) (a : A) → get_elem? l i ≡ some a → get_elem? (l ++ m) i ≡ some a
  at_longer [] m i a at = absurd (some-ne-none a (sym at))
  at_longer (x ∷ xs) m zero a at = at
  at_longer (x ∷ xs) m (suc i) a at = at_longer xs m i a at

  -- an element of a list with one more at its end
  pub at_push : (l : List A) (a b : A) (j : ℕ) → get_elem? (l ++ a ∷ []) j ≡ some b → (get_elem? l j ≡ some b) ⊎ ((j ≡ length l) × (a ≡ b))
  at_push [] a b zero at = inr (refl, some-injective a b at)
  at_push [] a b (suc j) at = absurd (some-ne-none b (sym at))
  at_push (x ∷ xs) a b zero at = inl at
  at_push (x ∷ xs) a b (suc j) at = ⊎_elim inl (λ t. let e = t.0 in inr (ap suc e, t.1)) (at_push xs a b j at)

  pub at_end : (l : List A) (a : A) → get_elem? (l ++ a ∷ []) (length l) ≡ some a
  at_end [] a = refl
  at_end (x ∷ xs) a = at_end xs a

  -- there is an element at each place below the length
  pub at_below : (l : List A) (i : ℕ) → i < length l → (a : A) × (get_elem? l i ≡ some a)
  at_below [] i below = absurd (omega arith)
  at_below (x ∷ xs) zero below = (x, refl)
  at_below (x ∷ xs) (suc i) below = at_below xs i (omega arith)
