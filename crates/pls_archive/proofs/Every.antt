-- What holds of each element, membership, and sums, over lists that are put together.
use Rattle.std.proofs.Common.{◌≡◌, ◌⊎◌, ℕ, zero, suc, ◌+◌, ◌≤◌, Bool, true, false, Some, slice_get, if◌then◌else◌, List, [], ◌∷◌, ◌++◌, length, map, filter, refl, ap, sym, subst, ◌∙◌, arith, inl, inr}
use Rattle.std.proofs.lemmas.Bool.{cond-true, cond-false}
use Rattle.std.specs.Prelude.{All}
use Rattle.std.specs.List.{flat_map}
use Rattle.std.proofs.lemmas.List.Elements.{All-head, All-tail}
use Rattle.std.proofs.lemmas.Option.{none-some, same_Some}
use Rattle.std.proofs.lemmas.List.{length-append}
use Rattle.pls_archive.specs.Lists.{Every, In, total, how_many, one_if}

module _ {A : Type 0} (P : A → Type 0) where
  pub Every-append : (xs ys : List A) → Every P xs → Every P ys → Every P (xs ++ ys)
  Every-append [] ys first second = second
  Every-append (x ∷ xs) ys first second = (first.0, Every-append xs ys first.1 second)

  pub Every-left : (xs ys : List A) → Every P (xs ++ ys) → Every P xs
  Every-left [] ys h = tt
  Every-left (x ∷ xs) ys h = (h.0, Every-left xs ys h.1)

  pub Every-right : (xs ys : List A) → Every P (xs ++ ys) → Every P ys
  Every-right [] ys h = h
  Every-right (x ∷ xs) ys h = Every-right xs ys h.1

  pub Every-at : (xs : List A) (x : A) → In x xs → Every P xs → P x
  Every-at [] x here h = absurd here
  Every-at (y ∷ xs) x (inl e) h = subst P (sym e) h.0
  Every-at (y ∷ xs) x (inr later) h = Every-at xs x later h.1

  pub Every-get : (xs : List A) (i : ℕ) (x : A) → slice_get xs i ≡ Some x → Every P xs → P x
  Every-get [] i x found h = absurd (none-some x found)
  Every-get (y ∷ xs) zero x found h = subst P (same_Some y x found) h.0
  Every-get (y ∷ xs) (suc i) x found h = Every-get xs i x found h.1

  pub Every-each : (xs : List A) → ((x : A) → P x) → Every P xs
  Every-each [] each = tt
  Every-each (x ∷ xs) each = (each x, Every-each xs each)

  pub Every-filter : (test : A → Bool) (xs : List A) → Every P xs → Every P (filter test xs)
  Every-filter test [] h = tt
  Every-filter test (x ∷ xs) h = split (test x) (Every-filter test xs h.1)
    where
      split : (b : Bool) → Every P (filter test xs) → Every P (if b then x ∷ filter test xs else filter test xs)
      split true rest = (h.0, rest)
      split false rest = rest

pub Every-map : {A : Type 0} (P Q : A → Type 0) → ((x : A) → P x → Q x) → (xs : List A) → Every P xs → Every Q xs
Every-map P Q more [] h = tt
Every-map P Q more (x ∷ xs) h = (more x h.0, Every-map P Q more xs h.1)

module _ {A : Type 0} where
  pub In-left : (x : A) (xs ys : List A) → In x xs → In x (xs ++ ys)
  In-left x [] ys here = absurd here
  In-left x (y ∷ xs) ys (inl e) = inl e
  In-left x (y ∷ xs) ys (inr later) = inr (In-left x xs ys later)

  pub In-right : (x : A) (xs ys : List A) → In x ys → In x (xs ++ ys)
  In-right x [] ys here = here
  In-right x (y ∷ xs) ys here = inr (In-right x xs ys here)

  pub In-append : (x : A) (xs ys : List A) → In x (xs ++ ys) → In x xs ⊎ In x ys
  In-append x [] ys here = inr here
  In-append x (y ∷ xs) ys (inl e) = inl (inl e)
  In-append x (y ∷ xs) ys (inr later) = further (In-append x xs ys later)
    where
      further : In x xs ⊎ In x ys → In x (y ∷ xs) ⊎ In x ys
      further (inl h) = inl (inr h)
      further (inr h) = inr h

  pub total-append : (f : A → ℕ) (xs ys : List A) → total f (xs ++ ys) ≡ total f xs + total f ys
  total-append f [] ys = omega arith
  total-append f (x ∷ xs) ys = let rest = total-append f xs ys in omega arith

  pub total-le : (f g : A → ℕ) → ((x : A) → f x ≤ g x) → (xs : List A) → total f xs ≤ total g xs
  total-le f g below [] = omega arith
  total-le f g below (x ∷ xs) =
      let first = below x in
      let rest = total-le f g below xs in omega arith

  pub total-same : (f g : A → ℕ) → ((x : A) → f x ≡ g x) → (xs : List A) → total f xs ≡ total g xs
  total-same f g same [] = omega arith
  total-same f g same (x ∷ xs) =
      let first = same x in
      let rest = total-same f g same xs in omega arith

  pub total-every : (f g : A → ℕ) (xs : List A) → Every (λ x. f x ≡ g x) xs → total f xs ≡ total g xs
  total-every f g [] same = omega arith
  total-every f g (x ∷ xs) same =
      let first = same.0 in
      let rest = total-every f g xs same.1 in omega arith

  pub total-every_le : (f g : A → ℕ) (xs : List A) → Every (λ x. f x ≤ g x) xs → total f xs ≤ total g xs
  total-every_le f g [] below = omega arith
  total-every_le f g (x ∷ xs) below =
      let first = below.0 in
      let rest = total-every_le f g xs below.1 in omega arith

  pub total-plus : (f g : A → ℕ) (xs : List A) → total (λ x. f x + g x) xs ≡ total f xs + total g xs
  total-plus f g [] = omega arith
  total-plus f g (x ∷ xs) = let rest = total-plus f g xs in omega arith

pub total-map : {A B : Type 0} (f : B → ℕ) (h : A → B) (xs : List A) → total f (map h xs) ≡ total (λ x. f (h x)) xs
total-map f h [] = omega arith
total-map f h (x ∷ xs) = let rest = total-map f h xs in omega arith

pub total-flat_map : {A B : Type 0} (f : B → ℕ) (h : A → List B) (xs : List A) → total f (flat_map h xs) ≡ total (λ x. total f (h x)) xs
total-flat_map f h [] = omega arith
total-flat_map f h (x ∷ xs) =
    let parts = total-append f (h x) (flat_map h xs) in
    let rest = total-flat_map f h xs in omega arith

pub length-flat_map : {A B : Type 0} (h : A → List B) (xs : List A) → length (flat_map h xs) ≡ total (λ x. length (h x)) xs
length-flat_map h [] = omega arith
length-flat_map h (x ∷ xs) =
    let parts = length-append (h x) (flat_map h xs) in
    let rest = length-flat_map h xs in omega arith

-- filters: what passes is kept, and what doesn't is left out
module _ {A : Type 0} (test : A → Bool) where
  pub filter-keep : (x : A) (xs : List A) → test x ≡ true → filter test (x ∷ xs) ≡ x ∷ filter test xs
  filter-keep x xs passes = cond-true (test x) (x ∷ filter test xs) (filter test xs) passes

  pub filter-skip : (x : A) (xs : List A) → test x ≡ false → filter test (x ∷ xs) ≡ filter test xs
  filter-skip x xs fails = cond-false (test x) (x ∷ filter test xs) (filter test xs) fails

  pub filter-all : (xs : List A) → Every (λ x. test x ≡ true) xs → filter test xs ≡ xs
  filter-all [] all = refl
  filter-all (x ∷ xs) all = filter-keep x xs all.0 ∙ ap (λ ys. x ∷ ys) (filter-all xs all.1)

  pub filter-none : (xs : List A) → Every (λ x. test x ≡ false) xs → filter test xs ≡ []
  filter-none [] none = refl
  filter-none (x ∷ xs) none = filter-skip x xs none.0 ∙ filter-none xs none.1

  pub length-filter : (xs : List A) → length (filter test xs) ≡ how_many test xs
  length-filter [] = refl
  length-filter (x ∷ xs) = counted (test x) (length-filter xs)
    where
      counted :
          (b : Bool) → length (filter test xs) ≡ how_many test xs
          → length (if b then x ∷ filter test xs else filter test xs) ≡ one_if b + how_many test xs
      counted true rest = omega arith
      counted false rest = omega arith

  pub total-filter : (f : A → ℕ) (xs : List A) → total f (filter test xs) ≡ total (λ x. if test x then f x else 0) xs
  total-filter f [] = refl
  total-filter f (x ∷ xs) = summed (test x) (total-filter f xs)
    where
      summed :
          (b : Bool) → total f (filter test xs) ≡ total (λ x. if test x then f x else 0) xs
          → total f (if b then x ∷ filter test xs else filter test xs) ≡ (if b then f x else 0) + total (λ x. if test x then f x else 0) xs
      summed true rest = omega arith
      summed false rest = omega arith

pub Every-from_All : {A : Type 0} (P : A → Type 0) (xs : List A) → All P xs → Every P xs
Every-from_All P [] each = tt
Every-from_All P (x ∷ xs) each = (All-head P x xs each, Every-from_All P xs (All-tail P x xs each))
