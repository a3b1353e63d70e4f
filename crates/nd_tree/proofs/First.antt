-- The first of the best, as a loop finds it.
use Rattle.std.proofs.Common.{◌≡◌, ◌⊎◌, inl, inr, ℕ, zero, suc, ◌+◌, ◌<◌, ◌≤◌, nat_le, Bool, true, false, List, [], ◌∷◌, length, get_or, if◌then◌else◌, All, refl, ap, subst, arith}
use Rattle.std.specs.List.{list_all}
use Rattle.std.proofs.lemmas.Bool.{both_ways, false_from_ne_true, cases_Bool, cases_lt}
use Rattle.std.proofs.lemmas.Bool.Decides.{nat_tests}
use Rattle.std.proofs.lemmas.List.Elements.{All-head, All-tail}
use Rattle.std.proofs.lemmas.List.Folds.{list_all_at}
use Rattle.nd_tree.specs.First.{first_best}

module _ {A : Type 0} (good : A → A → Bool) where
  pub record IsOrder : Type 0 where
    pub total : (a b : A) → good a b ≡ false → good b a ≡ true
    pub transitive : (a b c : A) → good a b ≡ true → good b c ≡ true → good a c ≡ true

  -- of the first n elements the one at this place is the first of the best
  pub record IsFirst (xs : List A) (n best : ℕ) : Type 0 where
    pub within : best < n
    pub at_least : (j : ℕ) (d : A) → j < n → good (get_or xs best d) (get_or xs j d) ≡ true
    pub better : (j : ℕ) (d : A) → j < best → good (get_or xs j d) (get_or xs best d) ≡ false

  list_all-from : (test : A → Bool) (xs : List A) → ((j : ℕ) (d : A) → j < length xs → test (get_or xs j d) ≡ true) → list_all test xs ≡ true
  list_all-from test [] each = refl
  list_all-from test (x ∷ xs) each =
      rw (each 0 x (omega arith)) (list_all-from test xs (λ j d below. each (suc j) d (omega arith)))

  -- the first of the best of the whole list is the one that is at least as good as each after it
  pub IsFirst-first_best : (xs : List A) (best : ℕ) → IsFirst xs (length xs) best → best ≡ first_best good xs
  IsFirst-first_best [] best is = absurd (let within = is.within in omega arith)
  IsFirst-first_best (x ∷ xs) zero is =
      rw (list_all-from (good x) xs (λ j d below. is.at_least (suc j) d (omega arith))) refl
  IsFirst-first_best (x ∷ xs) (suc best) is =
      let within = is.within in
      let worse : list_all (good x) xs ≡ false = list_all_at (good x) xs best x (omega arith) (is.better 0 x (omega arith)) in
      let rest : IsFirst xs (length xs) best = record {
        within = omega arith;
        at_least = λ j d below. is.at_least (suc j) d (omega arith);
        better = λ j d below. is.better (suc j) d (omega arith);
      } in
      rw worse (ap suc (IsFirst-first_best xs best rest))

  -- it is one of the list
  pub first_best-below : (xs : List A) → 0 < length xs → first_best good xs < length xs
  first_best-below [] some = absurd (omega arith)
  first_best-below (x ∷ []) some = omega arith
  first_best-below (x ∷ y ∷ ys) some = either (list_all (good x) (y ∷ ys)) _ _ (first_best-below (y ∷ ys) (omega arith))
    where
      either : (b : Bool) (m n : ℕ) → m < n → (if b then 0 else suc m) < suc n
      either true m n below = omega arith
      either false m n below = omega arith

  module _ (order : IsOrder) where
    itself : (a : A) → good a a ≡ true
    itself a = split (cases_Bool (good a a))
      where
        split : (good a a ≡ true) ⊎ (good a a ≡ false) → good a a ≡ true
        split (inl h) = h
        split (inr h) = order.total a a h

    pub IsFirst-one : (xs : List A) → IsFirst xs 1 0
    IsFirst-one xs = record {
      within = omega arith;
      at_least = λ j d below. let e : 0 ≡ j = omega arith in subst (λ (k : ℕ). good (get_or xs 0 d) (get_or xs k d) ≡ true) e (itself (get_or xs 0 d));
      better = λ j d below. absurd (omega arith);
    }

    up_to : (n j : ℕ) (Q : ℕ → Type 0) → ((k : ℕ) → k < n → Q k) → Q n → j < n + 1 → Q j
    up_to n j Q before here below = split (cases_lt j n)
      where
        split : (j < n) ⊎ (n ≤ j) → Q j
        split (inl less) = before j less
        split (inr more) = let e : n ≡ j = omega arith in subst Q e here

    -- one element more, that is no better
    pub IsFirst-stays :
        (xs : List A) (n best : ℕ) → IsFirst xs n best → ((d : A) → good (get_or xs best d) (get_or xs n d) ≡ true)
        → IsFirst xs (n + 1) best
    IsFirst-stays xs n best is no_better = record {
      within = let within = is.within in omega arith;
      at_least = λ j d below. up_to n j (λ k. good (get_or xs best d) (get_or xs k d) ≡ true) (λ k less. is.at_least k d less) (no_better d) below;
      better = is.better;
    }

    -- one that is better
    pub IsFirst-changes :
        (xs : List A) (n best : ℕ) → IsFirst xs n best → ((d : A) → good (get_or xs best d) (get_or xs n d) ≡ false)
        → IsFirst xs (n + 1) n
    IsFirst-changes xs n best is better = record {
      within = omega arith;
      at_least = λ j d below. up_to n j (λ k. good (get_or xs n d) (get_or xs k d) ≡ true)
          (λ k less. order.transitive _ (get_or xs best d) _ (order.total _ _ (better d)) (is.at_least k d less))
          (itself (get_or xs n d)) below;
      better = λ j d below. false_from_ne_true _ (λ h. both_ways _ (better d)
          (order.transitive (get_or xs best d) (get_or xs j d) (get_or xs n d) (is.at_least j d below) h));
    }

-- the less, and the greater, of what a number is told of each
pub least-IsOrder : {A : Type 0} (key : A → ℕ) → IsOrder (λ (a b : A). nat_le (key a) (key b))
least-IsOrder key = record {
  total = λ a b h. less (key a) (key b) h;
  transitive = λ a b c p q. through (key a) (key b) (key c) p q;
}
  where
    less : (x y : ℕ) → nat_le x y ≡ false → nat_le y x ≡ true
    less x y h = grind (arith, nat_tests)

    through : (x y z : ℕ) → nat_le x y ≡ true → nat_le y z ≡ true → nat_le x z ≡ true
    through x y z p q = grind (arith, nat_tests)

pub greatest-IsOrder : {A : Type 0} (key : A → ℕ) → IsOrder (λ (a b : A). nat_le (key b) (key a))
greatest-IsOrder key =
    let least = least-IsOrder key in
    record { total = λ a b h. least.total b a h; transitive = λ a b c p q. least.transitive c b a q p }

-- two tests that agree on the elements have the same first of the best
module _ {A : Type 0} (good good' : A → A → Bool) (P : A → Type 0) (same : (a b : A) → P a → P b → good a b ≡ good' a b) where
  list_all-same : (x : A) (xs : List A) → P x → All P xs → list_all (good x) xs ≡ list_all (good' x) xs
  list_all-same x [] p all = refl
  list_all-same x (y ∷ ys) p all =
      let first = same x y p (All-head P y ys all) in
      let rest = list_all-same x ys p (All-tail P y ys all) in
      cc

  pub first_best-same : (xs : List A) → All P xs → first_best good xs ≡ first_best good' xs
  first_best-same [] all = refl
  first_best-same (x ∷ xs) all =
      let tests = list_all-same x xs (All-head P x xs all) (All-tail P x xs all) in
      let rest = first_best-same xs (All-tail P x xs all) in
      rw (tests, rest) refl
