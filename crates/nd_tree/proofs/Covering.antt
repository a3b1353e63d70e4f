-- What is covered by what covers.
use Rattle.std.proofs.Common.{◌≡◌, ◌⊎◌, inl, inr, ℤ, Bool, true, false, ◌||◌, Option, Some, None, is_some, List, [], ◌∷◌, refl, sym}
use Rattle.std.specs.Prelude.{IsTrue}
use Rattle.std.specs.List.{list_any}
use Rattle.std.proofs.lemmas.Bool.{or_left, or_right, both_ways, cases_Bool}
use Rattle.pls_vectors.specs.Dominance.{weakly_dominates}
use Rattle.pls_vectors.proofs.Dominance.{weakly_dominates-trans}
use Rattle.pls_archive.specs.declared.point.Point.{Point}
use Rattle.pls_archive.specs.Lists.{Every}
use Rattle.pls_archive.specs.Reply.{some_weakly_dominates}
use Rattle.nd_tree.specs.Questions.{IsCover}

later : (a b : Bool) → a ≡ false → (a || b) ≡ true → b ≡ true
later true b e f = absurd (both_ways true e refl)
later false b e f = f

-- what weakly dominates w does so for each value that w weakly dominates
pub some-covers :
    (points : List Point) (w v : List ℤ) → weakly_dominates w v ≡ true → some_weakly_dominates points w ≡ true → some_weakly_dominates points v ≡ true
some-covers [] w v h some = absurd (both_ways false refl some)
some-covers (p ∷ points) w v h some = split (cases_Bool (weakly_dominates p.value w)) (some-covers points w v h)
  where
    split :
        (weakly_dominates p.value w ≡ true) ⊎ (weakly_dominates p.value w ≡ false)
        → (some_weakly_dominates points w ≡ true → some_weakly_dominates points v ≡ true) → some_weakly_dominates (p ∷ points) v ≡ true
    split (inl g) rest = or_left _ _ (weakly_dominates-trans p.value w v g h)
    split (inr g) rest = or_right _ _ (rest (later (weakly_dominates p.value w) (some_weakly_dominates points w) g some))

pub is_some-cover :
    (points : List Point) (v : List ℤ) (found : Option (List ℤ)) → IsCover (some_weakly_dominates points) v found → is_some found ≡ some_weakly_dominates points v
is_some-cover points v None h = sym h
is_some-cover points v (Some w) h = sym (some-covers points w v h.0 h.1)

-- a remembered value that covers v
pub recent-covers :
    (points : List Point) (v : List ℤ) (recent : List (List ℤ)) → Every (λ w. IsTrue (some_weakly_dominates points w)) recent
    → list_any (λ w. weakly_dominates w v) recent ≡ true → some_weakly_dominates points v ≡ true
recent-covers points v [] all some = absurd (both_ways false refl some)
recent-covers points v (w ∷ recent) all some = split (cases_Bool (weakly_dominates w v)) (recent-covers points v recent all.1)
  where
    split :
        (weakly_dominates w v ≡ true) ⊎ (weakly_dominates w v ≡ false)
        → (list_any (λ u. weakly_dominates u v) recent ≡ true → some_weakly_dominates points v ≡ true) → some_weakly_dominates points v ≡ true
    split (inl g) rest = some-covers points w v g all.0
    split (inr g) rest = rest (later (weakly_dominates w v) (list_any (λ u. weakly_dominates u v) recent) g some)
