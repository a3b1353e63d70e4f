-- A leaf that has too many points is divided: none is lost, and each new leaf has 1 to 20 of them in its box.
use Rattle.std.proofs.Common.{◌≡◌, ◌≢◌, ℕ, suc, ◌+◌, ◌<◌, ◌≤◌, nat_le, if◌then◌else◌, List, [], ◌∷◌, ◌++◌, length, refl, sym, ap, subst, ◌∙◌, arith, ℤ, All}
use Rattle.std.specs.List.{concat}
use Rattle.std.specs.List.Sorted.{IsPermutation}
use Rattle.std.proofs.lemmas.Bool.{leb-true, leb-false}
use Rattle.std.proofs.lemmas.List.{length-map}
use Rattle.era_core.specs.Lists.{times}
use Rattle.era_core.specs.Versions.{Cell}
use Rattle.era_core.proofs.ListFacts.{times-append, times-tail, times-head}
use Rattle.pls_vectors.specs.Box.{Box}
use Rattle.pls_vectors.specs.Dominance.{weakly_dominates}
use Rattle.pls_archive.specs.declared.point.Point.{Point}
use Rattle.pls_archive.specs.Lists.{Every, total, one_if}
use Rattle.pls_archive.proofs.Every.{total-append, total-map, Every-append, Every-map, Every-from_All}
use Rattle.pls_archive.proofs.ViewsFilters.{Every-paired}
use Rattle.nd_tree.specs.Split.{value_at, places, split}
use Rattle.nd_tree.proofs.Splitting.{count-split, some-split, once-split, below-split}
use Rattle.nd_rows.specs.Nodes.{Placed, Nodes, leaf, inner, heads, rows_of, rows_with, points_of, points_with, coverings, Encloses, AreBoxed, AreFormed}
use Rattle.nd_rows.specs.Layout.{IsPointRow}
use Rattle.nd_update.specs.Insertion.{box_around, at_places, values_with, group_leaves, divided}
use Rattle.nd_update.specs.Naming.{AreKept}
use Rattle.nd_update.proofs.Filters.{by_test}
use Rattle.nd_update.proofs.Groups.{Every-places, length-places, total-groups, total-group, others}
use Rattle.nd_update.proofs.Enclosed.{encloses-around}

-- points that stand in a row
pub times-rows : (x : ℕ) (placed : List Placed) → times x (rows_with placed) ≡ total (λ (p : Placed). times x (p.row ∷ [])) placed
times-rows x [] = refl
times-rows x (p ∷ placed) = let rest = times-rows x placed in omega arith

pub Every-points : (P : Point → Type 0) (placed : List Placed) → Every P (points_with placed) → Every (λ (p : Placed). P p.point) placed
Every-points P [] each = tt
Every-points P (p ∷ placed) each = (each.0, Every-points P placed each.1)

pub points-Every : (P : Point → Type 0) (placed : List Placed) → Every (λ (p : Placed). P p.point) placed → Every P (points_with placed)
points-Every P [] each = tt
points-Every P (p ∷ placed) each = (each.0, points-Every P placed each.1)

module _ (new : ℕ) (placed : List Placed) where
  abbrev group_at : List ℕ → List Placed
  group_at ks = at_places placed ks

  -- the leaves of groups
  heads-groups : (groups : List (List ℕ)) → length (heads (group_leaves new placed groups)) ≡ length groups
  heads-groups [] = refl
  heads-groups (ks ∷ groups) = ap suc (heads-groups groups)

  points-groups : (f : Point → ℕ) (groups : List (List ℕ)) → total f (points_of (group_leaves new placed groups)) ≡ total (λ ks. total (λ (p : Placed). f p.point) (group_at ks)) groups
  points-groups f [] = refl
  points-groups f (ks ∷ groups) =
      let here = total-map f (λ (p : Placed). p.point) (group_at ks) in
      let rest = points-groups f groups in
      let both = total-append f (points_with (group_at ks)) (points_of (group_leaves new placed groups)) in omega arith

  rows-groups : (x : ℕ) → x ≢ new → (groups : List (List ℕ)) → times x (rows_of (group_leaves new placed groups)) ≡ total (λ ks. total (λ (p : Placed). times x (p.row ∷ [])) (group_at ks)) groups
  rows-groups x other [] = refl
  rows-groups x other (ks ∷ groups) =
      let first = times-tail x new (rows_with (group_at ks) ++ rows_of (group_leaves new placed groups)) other in
      let here = times-rows x (group_at ks) in
      let rest = rows-groups x other groups in
      let both = times-append x (rows_with (group_at ks)) (rows_of (group_leaves new placed groups)) in omega arith

  fresh-groups : (groups : List (List ℕ)) → times new (rows_of (group_leaves new placed groups)) ≡ length groups + total (λ ks. total (λ (p : Placed). times new (p.row ∷ [])) (group_at ks)) groups
  fresh-groups [] = refl
  fresh-groups (ks ∷ groups) =
      let first = times-head new (rows_with (group_at ks) ++ rows_of (group_leaves new placed groups)) in
      let here = times-rows new (group_at ks) in
      let rest = fresh-groups groups in
      let both = times-append new (rows_with (group_at ks)) (rows_of (group_leaves new placed groups)) in omega arith

  each-groups : (P : Point → Type 0) → Every P (points_with placed) → (groups : List (List ℕ)) → Every P (points_of (group_leaves new placed groups))
  each-groups P each [] = tt
  each-groups P each (ks ∷ groups) =
      Every-append P (points_with (group_at ks)) (points_of (group_leaves new placed groups))
      (points-Every P (group_at ks) (Every-places (λ (p : Placed). P p.point) placed ks (Every-points P placed each))) (each-groups P each groups)

  kept-groups : (objectives : ℕ) (cells : List Cell) → Every (λ (p : Placed). p.row ≢ new → IsPointRow objectives cells p) placed → (groups : List (List ℕ)) → AreKept new objectives cells (group_leaves new placed groups)
  kept-groups objectives cells each [] = tt
  kept-groups objectives cells each (ks ∷ groups) =
      ((λ other. absurd (other refl)), Every-places (λ (p : Placed). p.row ≢ new → IsPointRow objectives cells p) placed ks each, kept-groups objectives cells each groups)

  formed-groups : (objectives : ℕ) (groups : List (List ℕ)) → Every (λ ks. (1 ≤ length (group_at ks)) × (length (group_at ks) ≤ 20)) groups → AreFormed objectives (group_leaves new placed groups)
  formed-groups objectives [] each = tt
  formed-groups objectives (ks ∷ groups) each = (each.0.0, each.0.1, formed-groups objectives groups each.1)

  boxed-groups : (groups : List (List ℕ)) → Every (λ ks. Encloses (box_around (group_at ks)) (points_with (group_at ks))) groups → AreBoxed (group_leaves new placed groups)
  boxed-groups [] each = tt
  boxed-groups (ks ∷ groups) each = (each.0, boxed-groups groups each.1)

-- Points of d parts.
module _ (new d : ℕ) (some : 2 ≤ d) (few : d ≤ 4) (b : Box) (placed : List Placed) (later : Nodes) (parts : Every (λ (p : Point). length p.value ≡ d) (points_with placed)) where
  abbrev groups : List (List ℕ)
  groups = split (values_with placed)

  first-parts : 20 < length placed → length (value_at (values_with placed) 0) ≡ d
  first-parts many = by_first placed many parts
    where
      by_first : (placed : List Placed) → 20 < length placed → Every (λ (p : Point). length p.value ≡ d) (points_with placed) → length (value_at (values_with placed) 0) ≡ d
      by_first [] many parts = absurd (omega arith)
      by_first (p ∷ placed) many parts = parts.0

  length-values : length (values_with placed) ≡ length placed
  length-values = length-map placed (λ (p : Placed). p.point.value)

  fewer : 20 < length placed → length (value_at (values_with placed) 0) < length (values_with placed)
  fewer many = let n = first-parts many in let m = length-values in omega arith

  once : 20 < length placed → IsPermutation (places (length placed)) (concat groups)
  once many = subst (λ (n : ℕ). IsPermutation (places n) (concat groups)) length-values (once-split (values_with placed) (fewer many))

  pub many_groups : 20 < length placed → length groups ≡ d + 1
  many_groups many = count-split (values_with placed) (fewer many) ∙ ap (λ n. n + 1) (first-parts many)

  length-group : 20 < length placed → Every (λ ks. length (at_places placed ks) ≡ length ks) groups
  length-group many =
      Every-map (λ ks. All (λ k. k < length (values_with placed)) ks) (λ ks. length (at_places placed ks) ≡ length ks)
      (λ ks below. length-places placed ks (subst (λ n. Every (λ k. k < n) ks) length-values (Every-from_All (λ k. k < length (values_with placed)) ks below)))
      groups (Every-from_All (λ ks. All (λ k. k < length (values_with placed)) ks) groups (below-split (values_with placed) (fewer many)))

  total-lengths : 20 < length placed → total length groups ≡ length placed
  total-lengths many =
      let counted = total-groups (λ p. 1) placed groups (once many) in
      sym (same groups (length-group many)) ∙ counted ∙ ones placed
    where
      ones : {A : Type 0} (xs : List A) → total (λ x. 1) xs ≡ length xs
      ones [] = refl
      ones (x ∷ xs) = let rest = ones xs in omega arith

      same : (groups : List (List ℕ)) → Every (λ ks. length (at_places placed ks) ≡ length ks) groups → total (λ ks. total (λ p. 1) (at_places placed ks)) groups ≡ total length groups
      same [] each = refl
      same (ks ∷ groups) each = let rest = same groups each.1 in let here = each.0 in let n = ones (at_places placed ks) in omega arith

  formed-all : 20 < length placed → length placed ≤ 21 → Every (λ ks. (1 ≤ length (at_places placed ks)) × (length (at_places placed ks) ≤ 20)) groups
  formed-all many most =
      let nonempty = Every-from_All (λ ks. 0 < length ks) groups (some-split (values_with placed) (fewer many)) in
      let all = total-lengths many in
      let n = many_groups many in
      Every-map (λ ks. (length (at_places placed ks) ≡ length ks) × ((0 < length ks) × (length ks + length groups ≤ total length groups + 1))) (λ ks. (1 ≤ length (at_places placed ks)) × (length (at_places placed ks) ≤ 20))
      (λ ks h. let same = h.0 in let one = h.1.0 in let left = h.1.1 in (omega arith, omega arith)) groups
      (Every-paired (λ ks. length (at_places placed ks) ≡ length ks) (λ ks. (0 < length ks) × (length ks + length groups ≤ total length groups + 1)) groups (length-group many)
      (Every-paired (λ ks. 0 < length ks) (λ ks. length ks + length groups ≤ total length groups + 1) groups nonempty (others groups nonempty)))

  -- each group of 21 points has one, and leaves one to another
  pub few-groups : length placed ≡ 21 → Every (λ ks. (0 < length ks) × (length ks ≤ 20)) groups
  few-groups full =
      let many : 20 < length placed = omega arith in
      let nonempty = Every-from_All (λ ks. 0 < length ks) groups (some-split (values_with placed) (fewer many)) in
      let all = total-lengths many in
      let n = many_groups many in
      Every-map (λ ks. (0 < length ks) × (length ks + length groups ≤ total length groups + 1)) (λ ks. (0 < length ks) × (length ks ≤ 20)) (λ ks h. (h.0, (let left = h.1 in omega arith))) groups
      (Every-paired (λ ks. 0 < length ks) (λ ks. length ks + length groups ≤ total length groups + 1) groups nonempty (others groups nonempty))

  -- the points of the groups, by counts
  pub points-divided : (f : Point → ℕ) → total f (points_of (divided new b placed later)) ≡ total f (points_with placed) + total f (points_of later)
  points-divided f =
      by_test (λ s. nat_le (length placed) 20 ≡ s → total f (points_of (if s then leaf new b placed later else inner new b (group_leaves new placed groups) later)) ≡ total f (points_with placed) + total f (points_of later)) (nat_le (length placed) 20)
      (λ fits is. total-append f (points_with placed) (points_of later))
      (λ full is.
      let all = points-groups new placed f groups in
      let same = total-groups (λ (p : Placed). f p.point) placed groups (once (leb-false (length placed) 20 is)) in
      let placed' = total-map f (λ (p : Placed). p.point) placed in
      let both = total-append f (points_of (group_leaves new placed groups)) (points_of later) in omega arith) refl

  pub each-divided : (P : Point → Type 0) → Every P (points_with placed) → Every P (points_of later) → Every P (points_of (divided new b placed later))
  each-divided P each rest =
      by_test (λ s. Every P (points_of (if s then leaf new b placed later else inner new b (group_leaves new placed groups) later))) (nat_le (length placed) 20)
      (λ fits. Every-append P (points_with placed) (points_of later) each rest)
      (λ full. Every-append P (points_of (group_leaves new placed groups)) (points_of later) (each-groups new placed P each groups) rest)

  pub heads-divided : length (heads (divided new b placed later)) ≡ suc (length (heads later))
  heads-divided =
      by_test (λ s. length (heads (if s then leaf new b placed later else inner new b (group_leaves new placed groups) later)) ≡ suc (length (heads later))) (nat_le (length placed) 20) (λ fits. refl) (λ full. refl)

  pub rows-divided : (x : ℕ) → x ≢ new → times x (rows_of (divided new b placed later)) ≡ times x (rows_with placed) + times x (rows_of later)
  rows-divided x other =
      by_test (λ s. nat_le (length placed) 20 ≡ s → times x (rows_of (if s then leaf new b placed later else inner new b (group_leaves new placed groups) later)) ≡ times x (rows_with placed) + times x (rows_of later)) (nat_le (length placed) 20)
      (λ fits is. times-tail x new (rows_with placed ++ rows_of later) other ∙ times-append x (rows_with placed) (rows_of later))
      (λ full is.
      let first = times-tail x new (rows_of (group_leaves new placed groups) ++ rows_of later) other in
      let all = rows-groups new placed x other groups in
      let same = total-groups (λ (p : Placed). times x (p.row ∷ [])) placed groups (once (leb-false (length placed) 20 is)) in
      let placed' = times-rows x placed in
      let both = times-append x (rows_of (group_leaves new placed groups)) (rows_of later) in omega arith) refl

  -- one row is to be written, and d + 1 for the groups
  pub fresh-divided : times new (rows_of (divided new b placed later)) ≤ d + 2 + times new (rows_with placed) + times new (rows_of later)
  fresh-divided =
      by_test (λ s. nat_le (length placed) 20 ≡ s → times new (rows_of (if s then leaf new b placed later else inner new b (group_leaves new placed groups) later)) ≤ d + 2 + times new (rows_with placed) + times new (rows_of later)) (nat_le (length placed) 20)
      (λ fits is. let first = times-head new (rows_with placed ++ rows_of later) in let both = times-append new (rows_with placed) (rows_of later) in omega arith)
      (λ full is.
      let many = leb-false (length placed) 20 is in
      let first = times-head new (rows_of (group_leaves new placed groups) ++ rows_of later) in
      let all = fresh-groups new placed groups in
      let n = many_groups many in
      let same = total-groups (λ (p : Placed). times new (p.row ∷ [])) placed groups (once many) in
      let placed' = times-rows new placed in
      let both = times-append new (rows_of (group_leaves new placed groups)) (rows_of later) in omega arith) refl

  pub kept-divided : (objectives : ℕ) (cells : List Cell) → Every (λ (p : Placed). p.row ≢ new → IsPointRow objectives cells p) placed → AreKept new objectives cells later → AreKept new objectives cells (divided new b placed later)
  kept-divided objectives cells each rest =
      by_test (λ s. AreKept new objectives cells (if s then leaf new b placed later else inner new b (group_leaves new placed groups) later)) (nat_le (length placed) 20)
      (λ fits. ((λ other. absurd (other refl)), each, rest))
      (λ full. ((λ other. absurd (other refl)), kept-groups new placed objectives cells each groups, rest))

  pub formed-divided : 1 ≤ length placed → length placed ≤ 21 → AreFormed d later → AreFormed d (divided new b placed later)
  formed-divided one most rest =
      by_test (λ s. nat_le (length placed) 20 ≡ s → AreFormed d (if s then leaf new b placed later else inner new b (group_leaves new placed groups) later)) (nat_le (length placed) 20)
      (λ fits is. (one, leb-true (length placed) 20 is, rest))
      (λ full is.
      let many = leb-false (length placed) 20 is in
      let n = many_groups many in
      let kids = heads-groups new placed groups in
      (omega arith, omega arith, omega arith, formed-groups new placed d groups (formed-all many most), rest)) refl

  -- each group in its box, where the points are apart
  pub boxed-divided : Encloses b (points_with placed) → Every (λ (p : Point). coverings (points_with placed) p.value ≤ 1) (points_with placed) → AreBoxed later → AreBoxed (divided new b placed later)
  boxed-divided box apart rest =
      by_test (λ s. nat_le (length placed) 20 ≡ s → AreBoxed (if s then leaf new b placed later else inner new b (group_leaves new placed groups) later)) (nat_le (length placed) 20)
      (λ fits is. (box, rest))
      (λ full is.
      let many = leb-false (length placed) 20 is in (
        record { all = each-groups new placed _ box.all groups; corners = each-groups new placed _ box.corners groups },
        boxed-groups new placed groups
            (Every-map (λ ks. (v : List ℤ) → coverings (points_with (at_places placed ks)) v ≤ coverings (points_with placed) v) (λ ks. Encloses (box_around (at_places placed ks)) (points_with (at_places placed ks)))
            (λ ks fewer. encloses-around d (at_places placed ks)
            (points-Every _ (at_places placed ks) (Every-places (λ (p : Placed). length p.point.value ≡ d) placed ks (Every-points _ placed parts)))
            (points-Every _ (at_places placed ks) (Every-map (λ (p : Placed). coverings (points_with placed) p.point.value ≤ 1) (λ (p : Placed). coverings (points_with (at_places placed ks)) p.point.value ≤ 1)
            (λ p one. let less = fewer p.point.value in omega arith) (at_places placed ks) (Every-places (λ (p : Placed). coverings (points_with placed) p.point.value ≤ 1) placed ks (Every-points _ placed apart)))))
            groups (among many groups (λ v. coverings-group v many))),
        rest,
      )) refl
    where
      coverings-group : (v : List ℤ) → 20 < length placed → Every (λ ks. coverings (points_with (at_places placed ks)) v ≤ coverings (points_with placed) v) groups
      coverings-group v many =
          let f : Point → ℕ = λ (q : Point). one_if (weakly_dominates q.value v) in
          let all = total-groups (λ (p : Placed). f p.point) placed groups (once many) in
          let placed' = total-map f (λ (p : Placed). p.point) placed in
          Every-map (λ ks. total (λ (p : Placed). f p.point) (at_places placed ks) ≤ total (λ js. total (λ (p : Placed). f p.point) (at_places placed js)) groups) (λ ks. coverings (points_with (at_places placed ks)) v ≤ coverings (points_with placed) v)
          (λ ks low. let here = total-map f (λ (p : Placed). p.point) (at_places placed ks) in omega arith) groups (total-group (λ (p : Placed). f p.point) placed groups)

      among : 20 < length placed → (lists : List (List ℕ)) → ((v : List ℤ) → Every (λ ks. coverings (points_with (at_places placed ks)) v ≤ coverings (points_with placed) v) lists)
          → Every (λ ks. (v : List ℤ) → coverings (points_with (at_places placed ks)) v ≤ coverings (points_with placed) v) lists
      among many [] each = tt
      among many (ks ∷ lists) each = ((λ v. (each v).0), among many lists (λ v. (each v).1))
