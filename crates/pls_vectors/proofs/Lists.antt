-- Lemmas on lists that the standard library lacks.
use Rattle.std.proofs.Common.{◌≡◌, ◌<◌, Bool, true, false, not, ◌&&◌, ◌||◌, if◌then◌else◌, List, [], ◌∷◌, ◌++◌, length, filter, All, AllPairs, refl, ap, ◌∙◌, arith, length-append}
use Rattle.std.specs.List.{list_any}
use Rattle.std.proofs.Math.Seq.{get_or-append_seam}
use Rattle.std.proofs.lemmas.Bool.{both_ways, false_from_ne_true}
use Rattle.std.proofs.lemmas.List.{get_or_append_left}
use Rattle.std.proofs.lemmas.List.Elements.{All-nil, All-cons, All-head, All-tail}
use Rattle.std.proofs.lemmas.List.Folds.{Any-from_list_any, list_any-from_Any, list_any_at}
use Rattle.pls_vectors.proofs.Bool.{or_split}

module _ {X : Type 0} where
  -- a list of one element, or of none
  pub filter-if : (b : Bool) (t : X → Bool) (x : X) → (if b && t x then x ∷ [] else []) ≡ filter t (if b then x ∷ [] else [])
  filter-if true t x = refl
  filter-if false t x = refl

  pub All-if : (Q : X → Type 0) (b : Bool) (x : X) → (b ≡ true → Q x) → All Q (if b then x ∷ [] else [])
  All-if Q true x h = All-cons Q x [] (h refl) (All-nil Q)
  All-if Q false x h = All-nil Q

  pub filter-all : (t : X → Bool) (xs : List X) → All (λ x. t x ≡ true) xs → filter t xs ≡ xs
  filter-all t [] h = refl
  filter-all t (x ∷ xs) h =
      rw (All-head (λ (y : X). t y ≡ true) x xs h) (ap (λ rest. x ∷ rest) (filter-all t xs (All-tail (λ (y : X). t y ≡ true) x xs h)))

  pub list_any-weaker : (t u : X → Bool) → ((x : X) → t x ≡ true → u x ≡ true) → (xs : List X) → list_any t xs ≡ true → list_any u xs ≡ true
  list_any-weaker t u weaker xs h =
      let (k, x, within, at, passes) = Any-from_list_any t xs h in
      list_any-from_Any u xs (k, x, within, at, weaker x passes)

  -- those that pass one test, split by another
  pub list_any-split : (t u : X → Bool) (xs : List X) → (list_any (λ x. t x && not (u x)) xs || list_any (λ x. t x && u x) xs) ≡ list_any t xs
  list_any-split t u [] = refl
  list_any-split t u (x ∷ xs) = or_split (t x) (u x) _ _ ∙ ap (λ rest. t x || rest) (list_any-split t u xs)

  pub All-none : (t : X → Bool) (xs : List X) → list_any t xs ≡ false → All (λ x. t x ≡ false) xs
  All-none t xs none k d within = false_from_ne_true _ (λ h. both_ways _ none (list_any_at t xs k d within h))

  -- of a list with one more element: each pair of those before, and each of those before with the last
  pub AllPairs-before : (R : X → X → Type 0) (xs : List X) (y : X) → AllPairs R (xs ++ y ∷ []) → AllPairs R xs
  AllPairs-before R xs y h i j d before within =
      let lt : i < length xs = omega arith in
      let pair = h i j d before (simp length-append (omega arith)) in
      rw (get_or_append_left xs (y ∷ []) d i lt, get_or_append_left xs (y ∷ []) d j within) at pair

  pub AllPairs-last : (R : X → X → Type 0) (xs : List X) (y : X) → AllPairs R (xs ++ y ∷ []) → All (λ x. R x y) xs
  AllPairs-last R xs y h k d within =
      let pair = h k (length xs) d within (simp length-append (omega arith)) in
      rw (get_or_append_left xs (y ∷ []) d k within, get_or-append_seam xs y [] d) at pair
