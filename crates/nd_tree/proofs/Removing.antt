-- What is removed below the children of a node, child by child.
use Rattle.std.proofs.Common.{◌≡◌, ℕ, zero, suc, ◌+◌, ◌-◌, ◌^◌, ◌<◌, ◌≤◌, min, if◌then◌else◌, ℤ, Bool, true, false, not, List, [], ◌∷◌, ◌++◌, length, take, drop, get_or, filter, set, refl, ap, sym, subst, ◌∙◌, arith}
use Rattle.std.specs.Prelude.{IsTrue, IsFalse}
use Rattle.std.proofs.lemmas.List.{append_assoc, append-nil, length-append, take_more_set, get_or-set_other, length-set, take_all}
use Rattle.std.proofs.lemmas.List.Elements.{filter-append}
use Rattle.pls_vectors.specs.Archive.{dominates}
use Rattle.pls_vectors.specs.Dominance.{weakly_dominates}
use Rattle.pls_vectors.specs.Box.{Box}
use Rattle.pls_archive.specs.declared.point.Point.{Point}
use Rattle.pls_archive.specs.Lists.{Every, one_if, how_many}
use Rattle.pls_archive.proofs.Every.{Every-filter, filter-all, filter-none, total-append}
use Rattle.nd_tree.specs.Seen.{Seen, all_points, longest_of, Encloses, AreEnclosed}
use Rattle.nd_tree.proofs.Siblings.{all_points-more, enclosed-at}

abbrev pub dominated : List ℤ → Point → Bool
dominated v q = dominates weakly_dominates v q.value

abbrev pub spared : List ℤ → Point → Bool
spared v q = not (dominates weakly_dominates v q.value)

-- what is told of all points: none of them is dominated, or each is
module _ (v : List ℤ) where
  pub spared-all : (points : List Point) → Every (λ p. IsFalse (dominated v p)) points → filter (spared v) points ≡ points
  spared-all points h = filter-all (spared v) points (each points h)
    where
      each : (ps : List Point) → Every (λ p. IsFalse (dominated v p)) ps → Every (λ p. spared v p ≡ true) ps
      each [] g = tt
      each (p ∷ ps) g = (ap not g.0, each ps g.1)

  pub spared-none : (points : List Point) → Every (λ p. IsTrue (dominated v p)) points → filter (spared v) points ≡ []
  spared-none points h = filter-none (spared v) points (each points h)
    where
      each : (ps : List Point) → Every (λ p. IsTrue (dominated v p)) ps → Every (λ p. spared v p ≡ false) ps
      each [] g = tt
      each (p ∷ ps) g = (ap not g.0, each ps g.1)

  pub dominated-none : (points : List Point) → Every (λ p. IsFalse (dominated v p)) points → how_many (dominated v) points ≡ 0
  dominated-none [] h = refl
  dominated-none (p ∷ points) h = let here = ap one_if h.0 in let rest = dominated-none points h.1 in omega arith

  pub dominated-all : (points : List Point) → Every (λ p. IsTrue (dominated v p)) points → how_many (dominated v) points ≡ length points
  dominated-all [] h = refl
  dominated-all (p ∷ points) h = let here = ap one_if h.0 in let rest = dominated-all points h.1 in omega arith

  -- the points that are dominated, and those that are not, are all
  pub dominated-spared : (points : List Point) → how_many (dominated v) points + length (filter (spared v) points) ≡ length points
  dominated-spared [] = refl
  dominated-spared (p ∷ points) = split (dominated v p) (dominated-spared points)
    where
      split :
          (b : Bool) → how_many (dominated v) points + length (filter (spared v) points) ≡ length points
          → (one_if b + how_many (dominated v) points) + length (if not b then p ∷ filter (spared v) points else filter (spared v) points)
          ≡ length (p ∷ points)
      split true rest = omega arith
      split false rest = omega arith

pub all_points-push : (nodes : List Seen) (s : Seen) → all_points (nodes ++ s ∷ []) ≡ all_points nodes ++ s.points
all_points-push [] s = append-nil s.points
all_points-push (x ∷ nodes) s =
    ap (λ points. x.points ++ points) (all_points-push nodes s) ∙ sym (append_assoc x.points (all_points nodes) s.points)

pub longest-set :
    (nodes : List Seen) (k : ℕ) (new d : Seen) → k < length nodes → new.longest ≤ (get_or nodes k d).longest
    → longest_of (set nodes k new) ≤ longest_of nodes
longest-set [] k new d below less = absurd (omega arith)
longest-set (s ∷ nodes) zero new d below less = omega arith
longest-set (s ∷ nodes) (suc k) new d below less = let rest = longest-set nodes k new d (omega arith) less in omega arith

pub enclosed-set :
    (boxes : List Box) (nodes : List Seen) (k : ℕ) (b : Box) (new : Seen) → AreEnclosed boxes nodes → k < length nodes
    → Encloses (get_or boxes k b) new.points → AreEnclosed boxes (set nodes k new)
enclosed-set [] [] k b new h below inside = absurd (omega arith)
enclosed-set [] (s ∷ nodes) k b new h below inside = absurd h
enclosed-set (x ∷ boxes) [] k b new h below inside = absurd h
enclosed-set (x ∷ boxes) (s ∷ nodes) zero b new h below inside = (inside, h.1)
enclosed-set (x ∷ boxes) (s ∷ nodes) (suc k) b new h below inside = (h.0, enclosed-set boxes nodes k b new h.1 (omega arith) inside)

-- After the first k children: they have what v spares of their points, the others are as before, and so many points are gone.
pub record IsRemoving (v : List ℤ) (boxes : List Box) (before nodes : List Seen) (k removed : ℕ) : Type 0 where
  pub lens : length nodes ≡ length before
  pub left : all_points (take k nodes) ≡ filter (spared v) (all_points (take k before))
  pub rest : (j : ℕ) → k ≤ j → (d : Seen) → get_or nodes j d ≡ get_or before j d
  pub counted : removed ≡ min (how_many (dominated v) (all_points (take k before))) (2 ^ 64 - 1)
  pub shorter : longest_of nodes ≤ longest_of before
  pub enclosed : AreEnclosed boxes nodes

module _ (v : List ℤ) (boxes : List Box) (before : List Seen) where
  pub removing-begins : AreEnclosed boxes before → IsRemoving v boxes before before 0 0
  removing-begins h = record {
    lens = refl;
    left = refl;
    rest = λ j past d. refl;
    counted = refl;
    shorter = omega arith;
    enclosed = h;
  }

  module _ (nodes : List Seen) (k removed : ℕ) (is : IsRemoving v boxes before nodes k removed) (below : k < length nodes) (s : Seen) (at : s ≡ get_or nodes k s) where
    there : get_or before k s ≡ s
    there = sym (is.rest k (omega arith) s) ∙ sym at

    more : all_points (take (k + 1) before) ≡ all_points (take k before) ++ s.points
    more = all_points-more before k s (let lens = is.lens in omega arith) there

    left-more : (points : List Point) → points ≡ filter (spared v) s.points → all_points (take k nodes) ++ points ≡ filter (spared v) (all_points (take (k + 1) before))
    left-more points e =
        ap (λ ps. ps ++ points) is.left
        ∙ (ap (λ ps. filter (spared v) (all_points (take k before)) ++ ps) e
        ∙ (sym (filter-append (spared v) (all_points (take k before)) s.points) ∙ ap (filter (spared v)) (sym more)))

    counted-more : how_many (dominated v) (all_points (take (k + 1) before)) ≡ how_many (dominated v) (all_points (take k before)) + how_many (dominated v) s.points
    counted-more = ap (how_many (dominated v)) more ∙ total-append (λ x. one_if (dominated v x)) (all_points (take k before)) s.points

    -- a child that stays
    pub removing-stays : Every (λ p. IsFalse (dominated v p)) s.points → IsRemoving v boxes before nodes (k + 1) removed
    removing-stays none = record {
      lens = is.lens;
      left = all_points-more nodes k s below (sym at) ∙ left-more s.points (sym (spared-all v s.points none));
      rest = λ j past d. is.rest j (omega arith) d;
      counted = let none' = dominated-none v s.points none in let c = is.counted in let m = counted-more in omega arith;
      shorter = is.shorter;
      enclosed = is.enclosed;
    }

    -- one that has what is spared of its points
    pub removing-changes :
        (new : Seen) (gone removed' : ℕ) → new.points ≡ filter (spared v) s.points → new.longest ≤ s.longest
        → gone ≡ min (how_many (dominated v) s.points) (2 ^ 64 - 1) → removed' ≡ min (removed + gone) (2 ^ 64 - 1)
        → IsRemoving v boxes before (set nodes k new) (k + 1) removed'
    removing-changes new gone removed' points longest e f = record {
      lens = length-set nodes k new ∙ is.lens;
      left = ap all_points (take_more_set nodes k new below) ∙ (all_points-push (take k nodes) new ∙ left-more new.points points);
      rest = λ j past d. get_or-set_other nodes k j new d (λ same. absurd (omega arith)) ∙ is.rest j (omega arith) d;
      counted = let c = is.counted in let m = counted-more in omega arith;
      shorter =
          let less = longest-set nodes k new s below (subst (λ (x : Seen). new.longest ≤ x.longest) at longest) in
          let before-shorter = is.shorter in omega arith;
      enclosed = enclosed-set boxes nodes k box new is.enclosed below
          (subst (Encloses (get_or boxes k box)) (sym points) (Every-filter _ (spared v) s.points
          (subst (λ (x : Seen). Encloses (get_or boxes k box) x.points) (sym at) (enclosed-at boxes nodes is.enclosed k below box s))));
    }
      where
        box : Box
        box = record { ideal = v; nadir = v }

  pub removing-same :
      (nodes others : List Seen) (k m n : ℕ) → others ≡ nodes → n ≡ m → IsRemoving v boxes before nodes k m → IsRemoving v boxes before others k n
  removing-same nodes others k m n e f is =
      subst (λ (xs : List Seen). IsRemoving v boxes before xs k n) (sym e) (subst (λ (r : ℕ). IsRemoving v boxes before nodes k r) (sym f) is)

  -- after all
  pub removing-ends :
      (nodes : List Seen) (k removed : ℕ) → IsRemoving v boxes before nodes k removed → length nodes ≤ k
      → (all_points nodes ≡ filter (spared v) (all_points before)) × (removed ≡ min (how_many (dominated v) (all_points before)) (2 ^ 64 - 1))
  removing-ends nodes k removed is past =
      let all : take k before ≡ before = take_all k before (let lens = is.lens in omega arith) in (
        sym (ap all_points (take_all k nodes past)) ∙ (is.left ∙ ap (λ xs. filter (spared v) (all_points xs)) all),
        is.counted ∙ ap (λ xs. min (how_many (dominated v) (all_points xs)) (2 ^ 64 - 1)) all,
      )

-- an only child
pub only_child :
    (nodes others : List Seen) (s : Seen) → nodes ≡ others ++ s ∷ [] → length nodes ≡ 1
    → (all_points nodes ≡ s.points) × (s.longest ≤ longest_of nodes)
only_child nodes [] s e one = (ap all_points e ∙ append-nil s.points, subst (λ (xs : List Seen). s.longest ≤ longest_of xs) (sym e) (omega arith))
only_child nodes (x ∷ others) s e one =
    absurd (let long = ap length e in let all = length-append others (s ∷ []) in omega arith)

-- a list without the child at one place, which has no point
module _ where
  pub enclosed-cut :
      (boxes : List Box) (nodes : List Seen) (k : ℕ) → AreEnclosed boxes nodes → k < length nodes
      → AreEnclosed (take k boxes ++ drop (suc k) boxes) (take k nodes ++ drop (suc k) nodes)
  enclosed-cut [] [] k h below = absurd (omega arith)
  enclosed-cut [] (s ∷ nodes) k h below = absurd h
  enclosed-cut (b ∷ boxes) [] k h below = absurd h
  enclosed-cut (b ∷ boxes) (s ∷ nodes) zero h below = h.1
  enclosed-cut (b ∷ boxes) (s ∷ nodes) (suc k) h below = (h.0, enclosed-cut boxes nodes k h.1 (omega arith))

  pub all_points-cut :
      (nodes : List Seen) (k : ℕ) (d : Seen) → k < length nodes → (get_or nodes k d).points ≡ []
      → all_points (take k nodes ++ drop (suc k) nodes) ≡ all_points nodes
  all_points-cut [] k d below none = absurd (omega arith)
  all_points-cut (s ∷ nodes) zero d below none = sym (ap (λ points. points ++ all_points nodes) none)
  all_points-cut (s ∷ nodes) (suc k) d below none = ap (λ points. s.points ++ points) (all_points-cut nodes k d (omega arith) none)

  pub longest-cut : (nodes : List Seen) (k : ℕ) → k < length nodes → longest_of (take k nodes ++ drop (suc k) nodes) ≤ longest_of nodes
  longest-cut [] k below = absurd (omega arith)
  longest-cut (s ∷ nodes) zero below = omega arith
  longest-cut (s ∷ nodes) (suc k) below = let rest = longest-cut nodes k (omega arith) in omega arith

  pub take-cut : {A : Type 0} (xs : List A) (k : ℕ) → k < length xs → take k (take k xs ++ drop (suc k) xs) ≡ take k xs
  take-cut [] k below = absurd (omega arith)
  take-cut (x ∷ xs) zero below = refl
  take-cut (x ∷ xs) (suc k) below = ap (λ ys. x ∷ ys) (take-cut xs k (omega arith))

  pub every-more : {A : Type 0} (P : A → Type 0) (nodes : List A) (k : ℕ) (d : A) → k < length nodes → Every P (take k nodes) → P (get_or nodes k d) → Every P (take (k + 1) nodes)
  every-more {A} P nodes k d below h here =
      let next : suc k ≡ k + 1 = omega arith in subst (λ (n : ℕ). Every P (take n nodes)) next (more nodes k below h here)
    where
      more : (xs : List A) (j : ℕ) → j < length xs → Every P (take j xs) → P (get_or xs j d) → Every P (take (suc j) xs)
      more [] j less g p = absurd (omega arith)
      more (x ∷ xs) zero less g p = (p, tt)
      more (x ∷ xs) (suc j) less g p = (g.0, more xs j (omega arith) g.1 p)
