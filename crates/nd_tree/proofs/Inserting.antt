-- What comes of one more point below a node.
use Rattle.std.proofs.Common.{◌≡◌, ◌⊎◌, inl, inr, ℕ, zero, suc, ◌<◌, ◌≤◌, max, Bool, true, false, not, List, [], ◌∷◌, ◌++◌, length, get_or, set, refl, ap, sym, ◌∙◌, arith}
use Rattle.std.specs.Prelude.{IsTrue}
use Rattle.std.proofs.lemmas.Bool.{and_parts, cases_Bool}
use Rattle.std.proofs.lemmas.List.{length-set}
use Rattle.pls_vectors.specs.Box.{Box, encloses}
use Rattle.pls_vectors.specs.Dominance.{weakly_dominates}
use Rattle.pls_archive.specs.declared.point.Point.{Point}
use Rattle.pls_archive.specs.Lists.{Every, one_if, how_many, AsOften}
use Rattle.pls_archive.proofs.Every.{Every-left, Every-right, Every-map, total-append}
use Rattle.pls_archive.proofs.ValueOrder.{length-weakly_dominates}
use Rattle.nd_tree.specs.Seen.{Seen, all_points, all_nodes, longest_of, Encloses, AreEnclosed, AreChildren}
use Rattle.nd_tree.specs.Insertion.{point_at, HaveEqualParts}

-- a child has fewer nodes below it than its parent
pub child-below : (nodes : List Seen) (k : ℕ) (d : Seen) → k < length nodes → (get_or nodes k d).below < all_nodes nodes
child-below [] k d below = absurd (omega arith)
child-below (s ∷ nodes) zero d below = omega arith
child-below (s ∷ nodes) (suc k) d below = let rest = child-below nodes k d (omega arith) in omega arith

pub child-longest : (nodes : List Seen) (k : ℕ) (d : Seen) → k < length nodes → (get_or nodes k d).longest ≤ longest_of nodes
child-longest [] k d below = absurd (omega arith)
child-longest (s ∷ nodes) zero d below = omega arith
child-longest (s ∷ nodes) (suc k) d below = let rest = child-longest nodes k d (omega arith) in omega arith

-- what holds of all points holds of those below a child
pub every-child :
    (P : Point → Type 0) (nodes : List Seen) (k : ℕ) (d : Seen) → k < length nodes → Every P (all_points nodes) → Every P (get_or nodes k d).points
every-child P [] k d below all = absurd (omega arith)
every-child P (s ∷ nodes) zero d below all = Every-left P s.points (all_points nodes) all
every-child P (s ∷ nodes) (suc k) d below all = every-child P nodes k d (omega arith) (Every-right P s.points (all_points nodes) all)

-- one child has one point more
pub often-set :
    (p : Point) (nodes : List Seen) (k : ℕ) (new d : Seen) → k < length nodes → AsOften (p ∷ (get_or nodes k d).points) new.points
    → AsOften (p ∷ all_points nodes) (all_points (set nodes k new))
often-set p [] k new d below often test = absurd (omega arith)
often-set p (s ∷ nodes) zero new d below often test =
    let before = total-append (λ x. one_if (test x)) s.points (all_points nodes) in
    let after = total-append (λ x. one_if (test x)) new.points (all_points nodes) in
    let here = often test in omega arith
often-set p (s ∷ nodes) (suc k) new d below often test =
    let before = total-append (λ x. one_if (test x)) s.points (all_points nodes) in
    let after = total-append (λ x. one_if (test x)) s.points (all_points (set nodes k new)) in
    let rest = often-set p nodes k new d (omega arith) often test in omega arith

pub longest-grown :
    (nodes : List Seen) (k m : ℕ) (new d : Seen) → k < length nodes → new.longest ≤ max (get_or nodes k d).longest m
    → longest_of (set nodes k new) ≤ max (longest_of nodes) m
longest-grown [] k m new d below less = absurd (omega arith)
longest-grown (s ∷ nodes) zero m new d below less = omega arith
longest-grown (s ∷ nodes) (suc k) m new d below less = let rest = longest-grown nodes k m new d (omega arith) less in omega arith

pub enclosed-grown :
    (boxes : List Box) (nodes : List Seen) (k : ℕ) (b : Box) (new : Seen) → AreEnclosed boxes nodes → Encloses b new.points
    → AreEnclosed (set boxes k b) (set nodes k new)
enclosed-grown [] [] k b new h inside = tt
enclosed-grown [] (s ∷ nodes) k b new h inside = absurd h
enclosed-grown (x ∷ boxes) [] k b new h inside = absurd h
enclosed-grown (x ∷ boxes) (s ∷ nodes) zero b new h inside = (inside, h.1)
enclosed-grown (x ∷ boxes) (s ∷ nodes) (suc k) b new h inside = (h.0, enclosed-grown boxes nodes k b new h.1 inside)

pub occupied-set :
    (nodes : List Seen) (k : ℕ) (new : Seen) → Every (λ s. 0 < length s.points) nodes → 0 < length new.points
    → Every (λ s. 0 < length s.points) (set nodes k new)
occupied-set [] k new all some = tt
occupied-set (s ∷ nodes) zero new all some = (some, all.1)
occupied-set (s ∷ nodes) (suc k) new all some = (all.0, occupied-set nodes k new all.1 some)

-- what holds of each element does so in any order
module _ {A : Type 0} where
  none_fails : (test : A → Bool) (xs : List A) → Every (λ x. IsTrue (test x)) xs → how_many (λ x. not (test x)) xs ≡ 0
  none_fails test [] all = refl
  none_fails test (x ∷ xs) all = let here = ap (λ b. one_if (not b)) all.0 in let rest = none_fails test xs all.1 in omega arith

  all_pass : (test : A → Bool) (xs : List A) → how_many (λ x. not (test x)) xs ≡ 0 → Every (λ x. IsTrue (test x)) xs
  all_pass test [] none = tt
  all_pass test (x ∷ xs) none = split (cases_Bool (test x)) (all_pass test xs)
    where
      split :
          (test x ≡ true) ⊎ (test x ≡ false) → (how_many (λ y. not (test y)) xs ≡ 0 → Every (λ y. IsTrue (test y)) xs)
          → Every (λ y. IsTrue (test y)) (x ∷ xs)
      split (inl h) rest = (h, rest (let here = ap (λ b. one_if (not b)) h in omega arith))
      split (inr h) rest = absurd (let here = ap (λ b. one_if (not b)) h in omega arith)

  pub every-often :
      (test : A → Bool) (xs ys : List A) → AsOften xs ys → Every (λ x. IsTrue (test x)) xs → Every (λ x. IsTrue (test x)) ys
  every-often test xs ys often all = all_pass test ys (sym (often (λ x. not (test x))) ∙ none_fails test xs all)

  how_many-all : (xs : List A) → how_many (λ _. true) xs ≡ length xs
  how_many-all [] = refl
  how_many-all (x ∷ xs) = let rest = how_many-all xs in omega arith

  pub length-often : (xs ys : List A) → AsOften xs ys → length xs ≡ length ys
  length-often xs ys often = sym (how_many-all xs) ∙ (often (λ _. true) ∙ how_many-all ys)

  pub often-push : (xs : List A) (x : A) → AsOften (x ∷ xs) (xs ++ x ∷ [])
  often-push xs x test = let all = total-append (λ y. one_if (test y)) xs (x ∷ []) in omega arith

-- a box of points has as many parts as they have
pub length-box :
    (n : ℕ) (b : Box) (points : List Point) → 0 < length points → Encloses b points → Every (λ q. length q.value ≡ n) points → length b.ideal ≡ n
length-box n b [] some inside all = absurd (omega arith)
length-box n b (p ∷ points) some inside all =
    length-weakly_dominates b.ideal p.value (and_parts (weakly_dominates b.ideal p.value) _ inside.0).0 ∙ all.0

pub equal-parts :
    (n : ℕ) (points : List Point) → 0 < length points → Every (λ q. length q.value ≡ n) points
    → (length (point_at points 0).value ≡ n) × HaveEqualParts points
equal-parts n [] some all = absurd (omega arith)
equal-parts n (p ∷ points) some all =
    (all.0, Every-map (λ (q : Point). length q.value ≡ n) (λ (q : Point). length q.value ≡ length p.value) (λ q e. e ∙ sym all.0) (p ∷ points) all)

-- a node whose child at one place has the new point, in its grown box
pub formed-grown :
    (boxes : List Box) (nodes : List Seen) (k : ℕ) (b : Box) (new d : Seen) (p : Point) → AreChildren boxes nodes → k < length nodes
    → AsOften (p ∷ (get_or nodes k d).points) new.points → IsTrue (encloses b p.value) → Encloses b (get_or nodes k d).points
    → AreChildren (set boxes k b) (set nodes k new)
formed-grown boxes nodes k b new d p formed below often here inside = record {
  some = let some = formed.some in let lens = length-set nodes k new in omega arith;
  enclosed = enclosed-grown boxes nodes k b new formed.enclosed
      (every-often (λ (q : Point). encloses b q.value) (p ∷ (get_or nodes k d).points) new.points often (here, inside));
  occupied = occupied-set nodes k new formed.occupied (let long = length-often (p ∷ (get_or nodes k d).points) new.points often in omega arith);
}
