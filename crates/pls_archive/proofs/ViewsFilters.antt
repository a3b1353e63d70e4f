-- What passes a test, two tests one after the other, and what holds of each element of lists put together.
use Rattle.std.proofs.Common.{◌≡◌, Bool, true, false, ◌&&◌, if◌then◌else◌, List, [], ◌∷◌, filter, flat_map, refl, ap, sym, ◌∙◌}
use Rattle.std.proofs.lemmas.List.Elements.{filter_agree}
use Rattle.pls_archive.specs.Lists.{Every}
use Rattle.pls_archive.proofs.Every.{Every-append}

pub Every-passes : {A : Type 0} (test : A → Bool) (xs : List A) → Every (λ x. test x ≡ true) (filter test xs)
Every-passes test [] = tt
Every-passes test (x ∷ xs) = split (test x) refl (Every-passes test xs)
  where
    split :
        (b : Bool) → test x ≡ b → Every (λ x. test x ≡ true) (filter test xs)
        → Every (λ x. test x ≡ true) (if b then x ∷ filter test xs else filter test xs)
    split true e rest = (e, rest)
    split false e rest = rest

module _ {A : Type 0} (f g : A → Bool) where
  pub filter-both : (xs : List A) → filter (λ x. f x && g x) xs ≡ filter g (filter f xs)
  filter-both [] = refl
  filter-both (x ∷ xs) = ap (λ r. if f x && g x then x ∷ r else r) (filter-both xs) ∙ step (f x) (filter f xs)
    where
      step : (a : Bool) (us : List A) → (if a && g x then x ∷ filter g us else filter g us) ≡ filter g (if a then x ∷ us else us)
      step true us = refl
      step false us = refl

and-turned : (a b : Bool) → (a && b) ≡ (b && a)
and-turned true true = refl
and-turned true false = refl
and-turned false true = refl
and-turned false false = refl

-- the order of the two tests does not matter
pub filter-turned : {A : Type 0} (f g : A → Bool) (xs : List A) → filter g (filter f xs) ≡ filter f (filter g xs)
filter-turned f g xs =
    sym (filter-both f g xs)
    ∙ (filter_agree (λ x. f x && g x) (λ x. g x && f x) (λ x. and-turned (f x) (g x)) xs ∙ filter-both g f xs)

pub Every-paired : {A : Type 0} (P Q : A → Type 0) (xs : List A) → Every P xs → Every Q xs → Every (λ x. P x × Q x) xs
Every-paired P Q [] p q = tt
Every-paired P Q (x ∷ xs) p q = ((p.0, q.0), Every-paired P Q xs p.1 q.1)

pub Every-flat_map :
    {A B : Type 0} (P : B → Type 0) (f : A → List B) (xs : List A) → Every (λ x. Every P (f x)) xs → Every P (flat_map f xs)
Every-flat_map P f [] h = tt
Every-flat_map P f (x ∷ xs) h = Every-append P (f x) (flat_map f xs) h.0 (Every-flat_map P f xs h.1)

-- where what holds of each cannot hold of any, there are none
pub none_from_both :
    {A : Type 0} (P Q : A → Type 0) (xs : List A) → ((x : A) → P x → Q x → ⊥) → Every P xs → Every Q xs → xs ≡ []
none_from_both P Q [] apart p q = refl
none_from_both P Q (x ∷ xs) apart p q = absurd (apart x p.0 q.0)
