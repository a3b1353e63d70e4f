-- What the corners of a box tell of the points that it encloses.
use Rattle.std.proofs.Common.{◌≡◌, ◌<◌, ℤ, Bool, true, false, not, ◌&&◌, ap, List, [], ◌∷◌, length, refl, sym, subst, arith}
use Rattle.std.specs.Prelude.{IsTrue, IsFalse}
use Rattle.std.proofs.lemmas.Bool.{and_parts, and_from, or_left, or_from, both_ways, false_from_ne_true}
use Rattle.pls_vectors.specs.Archive.{dominates}
use Rattle.pls_vectors.specs.Dominance.{weakly_dominates}
use Rattle.pls_vectors.specs.Box.{Box, encloses}
use Rattle.pls_vectors.proofs.Dominance.{weakly_dominates-trans}
use Rattle.pls_archive.specs.declared.point.Point.{Point}
use Rattle.pls_archive.specs.Lists.{Every}
use Rattle.pls_archive.specs.Reply.{some_weakly_dominates, has_value}
use Rattle.nd_tree.specs.Seen.{Encloses}

not_true : (b : Bool) → not b ≡ true → b ≡ false
not_true true h = sym h
not_true false h = refl

module _ (box : Box) (v : List ℤ) where
  -- a nadir that weakly dominates v, and that the enclosed points weakly dominate
  pub told-covered :
      (nadir : List ℤ) → nadir ≡ box.nadir → weakly_dominates nadir v ≡ true
      → (points : List Point) → Encloses box points → 0 < length points
      → IsTrue (weakly_dominates nadir v) × IsTrue (some_weakly_dominates points nadir)
  told-covered nadir e h [] inside some = absurd (omega arith)
  told-covered nadir e h (p ∷ points) inside some = (
    h,
    or_left _ _ (subst (λ (n : List ℤ). weakly_dominates p.value n ≡ true) (sym e) (and_parts (weakly_dominates box.ideal p.value) _ inside.0).1),
  )

  -- where the ideal doesn't weakly dominate v, no enclosed point does
  pub told-not_covered :
      weakly_dominates box.ideal v ≡ false → (points : List Point) → Encloses box points → IsFalse (some_weakly_dominates points v)
  told-not_covered h [] inside = refl
  told-not_covered h (p ∷ points) inside =
      or_from _ _ (false_from_ne_true _ (λ g. both_ways _ h
      (weakly_dominates-trans box.ideal p.value v (and_parts (weakly_dominates box.ideal p.value) _ inside.0).0 g)))
      (told-not_covered h points inside.1)

  -- a value outside is that of no enclosed point
  pub outside-has_value : encloses box v ≡ false → (points : List Point) → Encloses box points → IsFalse (has_value points v)
  outside-has_value h [] inside = refl
  outside-has_value h (p ∷ points) inside =
      let corners = and_parts (weakly_dominates box.ideal p.value) _ inside.0 in
      or_from _ _ (false_from_ne_true _ (λ g.
      let both = and_parts (weakly_dominates p.value v) _ g in
      both_ways _ h (and_from _ _ (weakly_dominates-trans box.ideal p.value v corners.0 both.0)
      (weakly_dominates-trans v p.value box.nadir both.1 corners.1))))
      (outside-has_value h points inside.1)

-- what the corners mean for the points that v dominates
module _ (box : Box) (v : List ℤ) where
  -- where v doesn't weakly dominate the nadir, it dominates no enclosed point
  pub fate-stays : weakly_dominates v box.nadir ≡ false → (points : List Point) → Encloses box points
      → Every (λ p. IsFalse (dominates weakly_dominates v p.value)) points
  fate-stays h [] inside = tt
  fate-stays h (p ∷ points) inside = (
    ap (λ b. b && not (weakly_dominates p.value v))
        (false_from_ne_true _ (λ g. both_ways _ h
        (weakly_dominates-trans v p.value box.nadir g (and_parts (weakly_dominates box.ideal p.value) _ inside.0).1))),
    fate-stays h points inside.1,
  )

  -- where it dominates the ideal, it dominates each
  pub fate-falls : dominates weakly_dominates v box.ideal ≡ true → (points : List Point) → Encloses box points
      → Every (λ p. IsTrue (dominates weakly_dominates v p.value)) points
  fate-falls h [] inside = tt
  fate-falls h (p ∷ points) inside =
      let above = and_parts (weakly_dominates v box.ideal) _ h in
      let corners = and_parts (weakly_dominates box.ideal p.value) _ inside.0 in
      let below : weakly_dominates p.value v ≡ false =
      false_from_ne_true _ (λ g. both_ways _ (not_true _ above.1) (weakly_dominates-trans box.ideal p.value v corners.0 g)) in (
        and_from _ _ (weakly_dominates-trans v box.ideal p.value above.0 corners.0) (ap not below),
        fate-falls h points inside.1,
      )
