-- Membership in lists that are mapped, joined and filtered, and at a place.
use Rattle.std.proofs.Common.{◌≡◌, ◌⊎◌, ℕ, zero, suc, ◌<◌, Bool, true, false, if◌then◌else◌, Some, slice_get, List, [], ◌∷◌, length, map, filter, get_or, refl, ap, sym, subst, arith, inl, inr}
use Rattle.std.specs.List.{flat_map}
use Rattle.std.proofs.lemmas.Option.{same_Some}
use Rattle.std.specs.Prelude.{All}
use Rattle.pls_archive.specs.Lists.{In}
use Rattle.pls_archive.proofs.Every.{In-left, In-right, In-append}

module _ {A B : Type 0} where
  pub In-map : (f : A → B) (x : A) (xs : List A) → In x xs → In (f x) (map f xs)
  In-map f x [] none = absurd none
  In-map f x (y ∷ xs) (inl e) = inl (ap f e)
  In-map f x (y ∷ xs) (inr later) = inr (In-map f x xs later)

  pub In-mapped : (f : A → B) (y : B) (xs : List A) → In y (map f xs) → (x : A) × In x xs × (y ≡ f x)
  In-mapped f y [] none = absurd none
  In-mapped f y (x ∷ xs) (inl e) = (x, inl refl, e)
  In-mapped f y (x ∷ xs) (inr later) = let found = In-mapped f y xs later in (found.0, inr found.1, found.2)

  pub In-flat_map : (f : A → List B) (y : B) (x : A) (xs : List A) → In x xs → In y (f x) → In y (flat_map f xs)
  In-flat_map f y x [] none here = absurd none
  In-flat_map f y x (z ∷ xs) (inl e) here = In-left y (f z) (flat_map f xs) (subst (λ (w : A). In y (f w)) e here)
  In-flat_map f y x (z ∷ xs) (inr later) here = In-right y (f z) (flat_map f xs) (In-flat_map f y x xs later here)

  pub In-flat_mapped : (f : A → List B) (y : B) (xs : List A) → In y (flat_map f xs) → (x : A) × In x xs × In y (f x)
  In-flat_mapped f y [] none = absurd none
  In-flat_mapped f y (x ∷ xs) there = first_or_later (In-flat_mapped f y xs) (In-append y (f x) (flat_map f xs) there)
    where
      first_or_later :
          (In y (flat_map f xs) → (z : A) × In z xs × In y (f z)) → In y (f x) ⊎ In y (flat_map f xs)
          → (z : A) × In z (x ∷ xs) × In y (f z)
      first_or_later rest (inl here) = (x, inl refl, here)
      first_or_later rest (inr later) = let found = rest later in (found.0, inr found.1, found.2)

module _ {A : Type 0} where
  pub In-filter : (test : A → Bool) (x : A) (xs : List A) → In x (filter test xs) → In x xs
  In-filter test x [] none = absurd none
  In-filter test x (y ∷ xs) there = split (test y) (In-filter test x xs) there
    where
      split : (b : Bool) → (In x (filter test xs) → In x xs) → In x (if b then y ∷ filter test xs else filter test xs) → In x (y ∷ xs)
      split true rest (inl e) = inl e
      split true rest (inr later) = inr (rest later)
      split false rest later = inr (rest later)

  pub In-slice_get : (x : A) (xs : List A) → In x xs → (k : ℕ) × (slice_get xs k ≡ Some x)
  In-slice_get x [] none = absurd none
  In-slice_get x (y ∷ xs) (inl e) = (zero, ap Some (sym e))
  In-slice_get x (y ∷ xs) (inr later) = let found = In-slice_get x xs later in (suc found.0, found.1)

  pub slice_get-In : (x : A) (xs : List A) (k : ℕ) → slice_get xs k ≡ Some x → In x xs
  slice_get-In x [] k e = cc
  slice_get-In x (y ∷ xs) zero e = inl (sym (same_Some y x e))
  slice_get-In x (y ∷ xs) (suc k) e = inr (slice_get-In x xs k e)

  pub In-get_or : (xs : List A) (k : ℕ) (d : A) → k < length xs → In (get_or xs k d) xs
  In-get_or [] k d within = absurd (omega arith)
  In-get_or (x ∷ xs) zero d within = inl refl
  In-get_or (x ∷ xs) (suc k) d within = inr (In-get_or xs k d (omega arith))

  pub All-In : (P : A → Type 0) (xs : List A) → ((x : A) → In x xs → P x) → All P xs
  All-In P xs each = λ k d within. each (get_or xs k d) (In-get_or xs k d within)
