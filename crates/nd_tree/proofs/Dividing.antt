-- The children into which a leaf is divided, group by group.
use Rattle.std.proofs.Common.{◌≡◌, ℕ, zero, suc, ◌+◌, ◌<◌, ◌≤◌, List, [], ◌∷◌, ◌++◌, length, map, take, get_or, refl, ap, sym, subst, ◌∙◌, arith}
use Rattle.std.specs.Prelude.{All}
use Rattle.std.specs.List.{concat, range_with_len, sum_by}
use Rattle.std.proofs.lemmas.List.{append_assoc, append-nil, length-append, map-append, take_all}
use Rattle.std.proofs.lemmas.List.FromFn.{length-range_with_len}
use Rattle.std.proofs.lemmas.List.Sums.{sum_by-cons}
use Rattle.std.proofs.lemmas.List.Folds.{concat-append}
use Rattle.std.proofs.lemmas.List.Sorted.{sum_by-IsPermutation, length_permutation}
use Rattle.std.proofs.lemmas.List.Elements.{All-head, All-tail}
use Rattle.std.proofs.Math.Seq.{take-suc, get_or-append_seam}
use Rattle.pls_vectors.specs.Box.{Box}
use Rattle.pls_vectors.specs.Solution.{no_items}
use Rattle.pls_archive.specs.declared.point.Point.{Point}
use Rattle.pls_archive.specs.Lists.{Every, total, one_if, how_many, AsOften}
use Rattle.pls_archive.proofs.Every.{Every-append, total-map}
use Rattle.nd_tree.specs.Seen.{Seen, all_points, longest_of, Encloses, AreEnclosed, AreChildren}
use Rattle.nd_tree.specs.Split.{places}
use Rattle.nd_tree.specs.Insertion.{point_at, AreGroups}
use Rattle.nd_tree.proofs.Removing.{all_points-push}

enclosed-push :
    (boxes : List Box) (nodes : List Seen) (b : Box) (s : Seen) → AreEnclosed boxes nodes → Encloses b s.points
    → AreEnclosed (boxes ++ b ∷ []) (nodes ++ s ∷ [])
enclosed-push [] [] b s h inside = (inside, tt)
enclosed-push [] (x ∷ nodes) b s h inside = absurd h
enclosed-push (x ∷ boxes) [] b s h inside = absurd h
enclosed-push (x ∷ boxes) (y ∷ nodes) b s h inside = (h.0, enclosed-push boxes nodes b s h.1 inside)

longest-push : (nodes : List Seen) (s : Seen) (n : ℕ) → longest_of nodes ≤ n → s.longest ≤ n → longest_of (nodes ++ s ∷ []) ≤ n
longest-push [] s n h less = omega arith
longest-push (x ∷ nodes) s n h less = let rest = longest-push nodes s n (omega arith) less in omega arith

total-sum_by : {A : Type 0} (f : A → ℕ) (xs : List A) → total f xs ≡ sum_by f xs
total-sum_by f [] = refl
total-sum_by f (x ∷ xs) = let rest = total-sum_by f xs in let whole = sum_by-cons f x xs in omega arith

-- the first g groups, as children
pub record IsDividing (points : List Point) (groups : List (List ℕ)) (boxes : List Box) (nodes : List Seen) (g : ℕ) : Type 0 where
  pub lens : length nodes ≡ g
  pub left : all_points nodes ≡ map (λ (k : ℕ). point_at points k) (concat (take g groups))
  pub enclosed : AreEnclosed boxes nodes
  pub occupied : Every (λ s. 0 < length s.points) nodes
  pub few : longest_of nodes ≤ length points

pub dividing-begins : (points : List Point) (groups : List (List ℕ)) → IsDividing points groups [] [] 0
dividing-begins points groups = record { lens = refl; left = refl; enclosed = tt; occupied = tt; few = omega arith }

-- one group more
pub dividing-goes_on :
    (points : List Point) (groups : List (List ℕ)) (boxes : List Box) (nodes : List Seen) (g : ℕ) → IsDividing points groups boxes nodes g
    → g < length groups → (b : Box) (s : Seen) → s.points ≡ map (λ (k : ℕ). point_at points k) (get_or groups g [])
    → s.longest ≤ length points → 0 < length s.points → Encloses b s.points
    → IsDividing points groups (boxes ++ b ∷ []) (nodes ++ s ∷ []) (g + 1)
dividing-goes_on points groups boxes nodes g is below b s e few some inside = record {
  lens = let lens = is.lens in let long = length-append nodes (s ∷ []) in omega arith;
  left = all_points-push nodes s
      ∙ (ap (λ ps. ps ++ s.points) is.left
      ∙ (ap (λ ps. map (λ (k : ℕ). point_at points k) (concat (take g groups)) ++ ps) e
      ∙ (sym (map-append (λ (k : ℕ). point_at points k) (concat (take g groups)) (get_or groups g []))
      ∙ ap (λ ks. map (λ (k : ℕ). point_at points k) ks) (sym more))));
  enclosed = enclosed-push boxes nodes b s is.enclosed inside;
  occupied = Every-append (λ (x : Seen). 0 < length x.points) nodes (s ∷ []) is.occupied (some, tt);
  few = longest-push nodes s (length points) is.few few;
}
  where
    more : concat (take (g + 1) groups) ≡ concat (take g groups) ++ get_or groups g []
    more =
        let next : g + 1 ≡ suc g = omega arith in
        ap (λ (n : ℕ). concat (take n groups)) next
        ∙ (ap concat (take-suc groups g [] below)
        ∙ (concat-append (take g groups) (get_or groups g [] ∷ [])
        ∙ ap (λ ks. concat (take g groups) ++ ks) (append-nil (get_or groups g []))))

-- the points at all places are the points
places-total :
    (f : Point → ℕ) (before points : List Point)
    → total (λ k. f (point_at (before ++ points) k)) (range_with_len (length before) (length points)) ≡ total f points
places-total f before [] = refl
places-total f before (p ∷ points) =
    let d : Point = record { value = []; sol = no_items 0 } in
    let first = ap f (get_or-append_seam before p points d) in
    let next = length-append before (p ∷ []) in
    let whole = append_assoc before (p ∷ []) points in
    let rest = subst (λ (xs : List Point). total (λ k. f (point_at xs k)) (range_with_len (length (before ++ p ∷ [])) (length points)) ≡ total f points) whole
    (places-total f (before ++ p ∷ []) points) in
    let rest' = subst (λ (n : ℕ). total (λ k. f (point_at (before ++ p ∷ points) k)) (range_with_len n (length points)) ≡ total f points) next rest in
    omega arith

-- after all groups each point is below one child
pub divided-often :
    (points : List Point) (groups : List (List ℕ)) (boxes : List Box) (nodes : List Seen) (g : ℕ) → IsDividing points groups boxes nodes g
    → length groups ≤ g → AreGroups points groups → AsOften points (all_points nodes)
divided-often points groups boxes nodes g is past made test =
    let f : ℕ → ℕ = λ k. one_if (test (point_at points k)) in
    sym (places-total (λ p. one_if (test p)) [] points)
    ∙ (total-sum_by f (places (length points))
    ∙ (sym (sum_by-IsPermutation f (places (length points)) (concat groups) made.once)
    ∙ (sym (total-sum_by f (concat groups))
    ∙ (sym (total-map (λ p. one_if (test p)) (λ (k : ℕ). point_at points k) (concat groups))
    ∙ sym (ap (how_many test) (is.left ∙ ap (λ gs. map (λ (k : ℕ). point_at points k) (concat gs)) (take_all g groups past)))))))

pub divided-children :
    (points : List Point) (groups : List (List ℕ)) (boxes : List Box) (nodes : List Seen) (g : ℕ) → IsDividing points groups boxes nodes g
    → 2 ≤ g → AreChildren boxes nodes
divided-children points groups boxes nodes g is several = record {
  some = let lens = is.lens in omega arith;
  enclosed = is.enclosed;
  occupied = is.occupied;
}

-- no group has more places than there are
length-in-concat : (groups : List (List ℕ)) (g : ℕ) → g < length groups → length (get_or groups g []) ≤ length (concat groups)
length-in-concat [] g below = absurd (omega arith)
length-in-concat (x ∷ groups) zero below = let all = length-append x (concat groups) in omega arith
length-in-concat (x ∷ groups) (suc g) below =
    let rest = length-in-concat groups g (omega arith) in
    let all = length-append x (concat groups) in omega arith

pub length-group :
    (points : List Point) (groups : List (List ℕ)) (g : ℕ) → AreGroups points groups → g < length groups
    → length (get_or groups g []) ≤ length points
length-group points groups g made below =
    let one = length-in-concat groups g below in
    let same = length_permutation (places (length points)) (concat groups) made.once in
    let long = length-range_with_len 0 (length points) in omega arith

-- what holds of all points holds of those at these places
pub every-at_places :
    (P : Point → Type 0) (points : List Point) → Every P points → (ks : List ℕ) → All (λ k. k < length points) ks
    → Every P (map (λ (k : ℕ). point_at points k) ks)
every-at_places P points all [] below = tt
every-at_places P points all (k ∷ ks) below =
    (at points all k (All-head (λ (j : ℕ). j < length points) k ks below), every-at_places P points all ks (All-tail (λ (j : ℕ). j < length points) k ks below))
  where
    at : (xs : List Point) → Every P xs → (j : ℕ) → j < length xs → P (point_at xs j)
    at [] h j less = absurd (omega arith)
    at (x ∷ xs) h zero less = h.0
    at (x ∷ xs) h (suc j) less = at xs h.1 j (omega arith)
