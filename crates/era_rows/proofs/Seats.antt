-- The views of the machine, in the order of the seats, beginnings of lists, and elements that a filter kept.
use Rattle.std.proofs.Common.{length, ◌+◌, arith, ◌≡◌, ℕ, zero, suc, Bool, true, false, List, [], ◌∷◌, ◌++◌, map, set, filter, cond, refl, sym, ap, subst, ◌∙◌}
use Rattle.atomic_table.proofs.Lists.{at_longer, at_map}
use Rattle.era_core.specs.Views.{View}
use Rattle.era_rows.specs.Lists.{IsPrefix}
use Rattle.era_rows.specs.Rule.{core_of}
use Rattle.era_rows.specs.declared.views.Knows.{Knows}
use mathlib.Core.Option.{some, some-injective, some-ne-none}
use lib.ListN.{get_elem?}

abbrev pub bit : Bool → ℕ
bit b = cond b 1 0

module _ {E : Type 0} where
  pub core_at : (vs : List (Knows E)) (rest : List View) (i : ℕ) (k : Knows E) → get_elem? vs i ≡ some k → get_elem? (map core_of vs ++ rest) i ≡ some (core_of k)
  core_at vs rest i k at = at_longer (map core_of vs) rest i (core_of k) (at_map core_of vs i k at)

  pub core_set : (vs : List (Knows E)) (rest : List View) (i : ℕ) (k w : Knows E) → get_elem? vs i ≡ some k
      → set (map core_of vs ++ rest) i (core_of w) ≡ map core_of (set vs i w) ++ rest
  core_set [] rest i k w at = absurd (some-ne-none k (sym at))
  core_set (v ∷ vs) rest zero k w at = refl
  core_set (v ∷ vs) rest (suc i) k w at = ap (λ us. core_of v ∷ us) (core_set vs rest i k w at)

pub prefix_at : {A : Type 0} (xs ys : List A) (i : ℕ) (a : A) → IsPrefix xs ys → get_elem? xs i ≡ some a → get_elem? ys i ≡ some a
prefix_at xs ys i a begins at = subst (λ zs. get_elem? zs i ≡ some a) begins.1 (at_longer xs begins.0 i a at)

pub at_filter : {A : Type 0} (f : A → Bool) (xs : List A) (i : ℕ) (a : A) → get_elem? (filter f xs) i ≡ some a → (j : ℕ) × (get_elem? xs j ≡ some a) × (f a ≡ true)
at_filter f [] i a there = absurd (some-ne-none a (sym there))
at_filter {A} f (x ∷ xs) i a there = by_test (at_filter f xs) (f x) refl i there
  where
    by_test : ((n : ℕ) (y : A) → get_elem? (filter f xs) n ≡ some y → (j : ℕ) × (get_elem? xs j ≡ some y) × (f y ≡ true))
        → (b : Bool) → f x ≡ b → (n : ℕ) → get_elem? (cond b (x ∷ filter f xs) (filter f xs)) n ≡ some a → (j : ℕ) × (get_elem? (x ∷ xs) j ≡ some a) × (f a ≡ true)
    by_test rest true e zero at = (0, at, subst (λ y. f y ≡ true) (some-injective x a at) e)
    by_test rest true e (suc n) at = let more = rest n a at in (suc more.0, more.1, more.2)
    by_test rest false e n at = let more = rest n a at in (suc more.0, more.1, more.2)

pub at_behind : {A : Type 0} (xs ys : List A) (i : ℕ) → get_elem? (xs ++ ys) (length xs + i) ≡ get_elem? ys i
at_behind [] ys i = ap (get_elem? ys) (let e : 0 + i ≡ i = omega arith in e)
at_behind (x ∷ xs) ys i = ap (get_elem? (x ∷ xs ++ ys)) (let e : suc (length xs) + i ≡ suc (length xs + i) = omega arith in e) ∙ at_behind xs ys i

-- a filter that keeps no element leaves nothing
pub none_kept : {A : Type 0} (f : A → Bool) (xs : List A) → ((n : ℕ) (a : A) → get_elem? xs n ≡ some a → f a ≡ false) → filter f xs ≡ []
none_kept f [] none = refl
none_kept f (x ∷ xs) none = ap (λ b. cond b (x ∷ filter f xs) (filter f xs)) (none zero x refl) ∙ none_kept f xs (λ n a there. none (suc n) a there)
