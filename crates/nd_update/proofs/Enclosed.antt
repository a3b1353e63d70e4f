-- Boxes that enclose points of which none weakly dominates another.
use Rattle.std.proofs.Common.{◌≡◌, ℕ, ◌≤◌, inl, inr, ⊎_elim, true, List, [], ◌∷◌, length, refl, sym, ap, subst, ◌∙◌, arith, ℤ, IsTrue}
use Rattle.std.proofs.lemmas.Bool.{and_parts, and_from}
use Rattle.pls_vectors.specs.Box.{Box, box_of, grown, encloses}
use Rattle.pls_vectors.specs.Dominance.{weakly_dominates}
use Rattle.pls_vectors.proofs.Boxes.{grown-new, grown-others, weakly_dominates-length}
use Rattle.pls_vectors.proofs.Dominance.{weakly_dominates-refl, weakly_dominates-trans}
use Rattle.pls_archive.specs.declared.point.Point.{Point}
use Rattle.pls_archive.specs.Lists.{Every, In, how_many, one_if}
use Rattle.pls_archive.proofs.Every.{Every-at, Every-map}
use Rattle.pls_archive.proofs.Same.{how_many-In}
use Rattle.nd_rows.specs.Nodes.{Placed, points_with, coverings, Encloses}
use Rattle.nd_update.specs.Insertion.{grown_by, box_around}

pub Every-In : {A : Type 0} (P : A → Type 0) (xs : List A) → ((x : A) → In x xs → P x) → Every P xs
Every-In P [] each = tt
Every-In P (x ∷ xs) each = (each x (inl refl), Every-In P xs (λ y here. each y (inr here)))

how_many-all : {A : Type 0} (xs : List A) (test : A → _) → Every (λ x. test x ≡ true) xs → how_many test xs ≡ length xs
how_many-all [] test each = refl
how_many-all (x ∷ xs) test each = let one = ap one_if each.0 in let rest = how_many-all xs test each.1 in omega arith

-- Each point is weakly dominated by itself alone, and there are two
module _ (points : List Point) (two : 2 ≤ length points) (once : Every (λ (p : Point). coverings points p.value ≤ 1) points) (p : Point) (here : In p points) where
  -- no point weakly dominates all
  covers_none : Every (λ (q : Point). weakly_dominates p.value q.value ≡ true) points → ⊥
  covers_none each = by_first points two once here each
    where
      by_first : (points : List Point) → 2 ≤ length points → Every (λ (p : Point). coverings points p.value ≤ 1) points → In p points → Every (λ (q : Point). weakly_dominates p.value q.value ≡ true) points → ⊥
      by_first [] two once here each = here
      by_first (x ∷ []) two once here each = omega arith
      by_first (x ∷ y ∷ points) two once (inl e) each =
          let first = ap one_if (subst (λ (q : Point). weakly_dominates q.value y.value ≡ true) e each.1.0) in
          let itself = ap one_if (weakly_dominates-refl y.value) in
          let few = once.1.0 in omega arith
      by_first (x ∷ y ∷ points) two once (inr later) each =
          let itself = ap one_if (weakly_dominates-refl x.value) in
          let other = how_many-In (λ (q : Point). weakly_dominates q.value x.value) p (y ∷ points) later each.0 in
          let few = once.0 in omega arith

  -- and none is weakly dominated by all
  covered_by_none : Every (λ (q : Point). weakly_dominates q.value p.value ≡ true) points → ⊥
  covered_by_none each =
      let all = how_many-all points (λ (q : Point). weakly_dominates q.value p.value) each in
      let few = Every-at (λ (q : Point). coverings points q.value ≤ 1) points p here once in omega arith

-- so no point is at a corner of their box
pub encloses-apart : (b : Box) (points : List Point) → Every (λ (p : Point). IsTrue (encloses b p.value)) points → 2 ≤ length points → Every (λ (p : Point). coverings points p.value ≤ 1) points → Encloses b points
encloses-apart b points all two once = record {
  all = all;
  corners = Every-In _ points (λ p here corner. absurd (⊎_elim
      (λ ideal. covers_none points two once p here
      (Every-map (λ (q : Point). IsTrue (encloses b q.value)) (λ (q : Point). weakly_dominates p.value q.value ≡ true) (λ q inside. subst (λ (x : List ℤ). weakly_dominates x q.value ≡ true) (sym ideal) (and_parts (weakly_dominates b.ideal q.value) _ inside).0) points all))
      (λ nadir. covered_by_none points two once p here
      (Every-map (λ (q : Point). IsTrue (encloses b q.value)) (λ (q : Point). weakly_dominates q.value p.value ≡ true) (λ q inside. subst (λ (x : List ℤ). weakly_dominates q.value x ≡ true) (sym nadir) (and_parts (weakly_dominates b.ideal q.value) _ inside).1) points all))
      corner));
}

-- the box of one value
pub encloses-one : (p : Point) → Encloses (box_of p.value) (p ∷ [])
encloses-one p = record { all = (and_from _ _ (weakly_dominates-refl p.value) (weakly_dominates-refl p.value), tt); corners = ((λ corner. refl), tt) }

-- A box that encloses a value of so many parts is one of so many parts.
module _ (b : Box) (w : List ℤ) (inside : IsTrue (encloses b w)) where
  pub is_box : IsTrue (weakly_dominates b.ideal b.nadir)
  is_box = let parts = and_parts (weakly_dominates b.ideal w) _ inside in weakly_dominates-trans b.ideal w b.nadir parts.0 parts.1

  pub box_parts : length b.ideal ≡ length w
  box_parts = weakly_dominates-length b.ideal w (and_parts (weakly_dominates b.ideal w) _ inside).0

-- a box grown by points of so many parts encloses them, and what it enclosed
pub grown_by-all : (b : Box) (w : List ℤ) (placed : List Placed) → IsTrue (encloses b w) → Every (λ (p : Point). length p.value ≡ length w) (points_with placed)
    → ((x : List ℤ) → IsTrue (encloses b x) → IsTrue (encloses (grown_by b placed) x)) × Every (λ (p : Point). IsTrue (encloses (grown_by b placed) p.value)) (points_with placed)
grown_by-all b w [] inside parts = ((λ x is. is), tt)
grown_by-all b w (p ∷ placed) inside parts =
    let is = is_box b w inside in
    let long = parts.0 ∙ sym (box_parts b w inside) in
    let rest = grown_by-all (grown b p.point.value) w placed (grown-others b is p.point.value long w inside) parts.1 in
    ((λ x here. rest.0 x (grown-others b is p.point.value long x here)), (rest.0 p.point.value (grown-new b is p.point.value long), rest.1))

pub around-all : (d : ℕ) (placed : List Placed) → Every (λ (p : Point). length p.value ≡ d) (points_with placed) → Every (λ (p : Point). IsTrue (encloses (box_around placed) p.value)) (points_with placed)
around-all d [] parts = tt
around-all d (p ∷ placed) parts =
    let v = p.point.value in
    let itself : IsTrue (encloses (box_of v) v) = and_from _ _ (weakly_dominates-refl v) (weakly_dominates-refl v) in
    let all = grown_by-all (box_of v) v placed itself (Every-map (λ (q : Point). length q.value ≡ d) (λ (q : Point). length q.value ≡ length v) (λ q is. is ∙ sym parts.0) (points_with placed) parts.1) in
    (all.0 v itself, all.1)

-- the box around points that are apart
pub encloses-around : (d : ℕ) (placed : List Placed) → Every (λ (p : Point). length p.value ≡ d) (points_with placed) → Every (λ (p : Point). coverings (points_with placed) p.value ≤ 1) (points_with placed) → Encloses (box_around placed) (points_with placed)
encloses-around d [] parts once = record { all = tt; corners = tt }
encloses-around d (p ∷ []) parts once = encloses-one p.point
encloses-around d (p ∷ q ∷ placed) parts once = encloses-apart (box_around (p ∷ q ∷ placed)) (points_with (p ∷ q ∷ placed)) (around-all d (p ∷ q ∷ placed) parts) (omega arith) once
