-- The tree with a new point: its points, rows, forms and boxes, and what stays written.
use Rattle.std.proofs.Common.{◌≡◌, ◌≢◌, ℕ, zero, suc, ◌+◌, ◌<◌, ◌≤◌, ⊎_elim, nat_le, if◌then◌else◌, eq-eqb, ne_eqb, List, [], ◌∷◌, ◌++◌, length, refl, sym, ap, subst, ◌∙◌, arith, length-append, ℤ, IsTrue}
use Rattle.std.specs.Prelude.{◌==◌}
use Rattle.std.proofs.lemmas.Bool.{cases_eq, eqb-true}
use Rattle.era_core.specs.Lists.{times}
use Rattle.era_core.specs.Versions.{Cell}
use Rattle.era_core.proofs.ListFacts.{times-append, times-tail, times-head}
use Rattle.pls_vectors.specs.Box.{Box, grown, encloses}
use Rattle.pls_vectors.specs.Dominance.{weakly_dominates}
use Rattle.pls_vectors.proofs.Boxes.{grown-new, grown-others}
use Rattle.pls_archive.specs.declared.point.Point.{Point}
use Rattle.pls_archive.specs.Lists.{Every, total, one_if}
use Rattle.pls_archive.proofs.Every.{total-append, Every-append, Every-map, Every-left, Every-right}
use Rattle.nd_tree.specs.Split.{split}
use Rattle.nd_tree.proofs.Joining.{closest-below}
use Rattle.nd_rows.specs.Nodes.{Placed, Nodes, no_nodes, leaf, inner, heads, rows_of, rows_with, points_of, points_with, coverings, Encloses, AreBoxed, AreFormed}
use Rattle.nd_rows.specs.Layout.{IsPointRow}
use Rattle.nd_update.specs.Insertion.{boxes_of, values_with, group_leaves, leaf_box, place_among, new_placed, with_point, known_row, way}
use Rattle.nd_update.specs.Naming.{AreKept}
use Rattle.nd_update.proofs.Filters.{by_test}
use Rattle.nd_update.proofs.RemovedRows.{some_points}
use Rattle.nd_update.proofs.Enclosed.{encloses-apart, encloses-one, is_box, box_parts}
use Rattle.nd_update.proofs.Division.{points-divided, each-divided, heads-divided, rows-divided, fresh-divided, kept-divided, formed-divided, boxed-divided}

points-push : (placed : List Placed) (q : Placed) → points_with (placed ++ q ∷ []) ≡ points_with placed ++ q.point ∷ []
points-push [] q = refl
points-push (x ∷ placed) q = ap (λ xs. x.point ∷ xs) (points-push placed q)

rows-push : (placed : List Placed) (q : Placed) → rows_with (placed ++ q ∷ []) ≡ rows_with placed ++ q.row ∷ []
rows-push [] q = refl
rows-push (x ∷ placed) q = ap (λ xs. x.row ∷ xs) (rows-push placed q)

length-boxes : (ns : Nodes) → length (boxes_of ns) ≡ length (heads ns)
length-boxes no_nodes = refl
length-boxes (leaf r b placed later) = ap suc (length-boxes later)
length-boxes (inner r b kids later) = ap suc (length-boxes later)

-- the value goes to one of the nodes
pub place-below : (v : List ℤ) (kids : Nodes) → 0 < length (heads kids) → place_among v kids < length (heads kids)
place-below v kids some = let n = length-boxes kids in let low = closest-below (boxes_of kids) v (omega arith) in omega arith

-- A point of d parts.
module _ (new : ℕ) (p : Point) (d : ℕ) (some : 2 ≤ d) (few : d ≤ 4) (own : length p.value ≡ d) where
  abbrev HasParts : Point → Type 0
  HasParts q = length q.value ≡ d

  pushed-each : (P : Point → Type 0) (placed : List Placed) → Every P (points_with placed) → P p → Every P (points_with (placed ++ new_placed new p ∷ []))
  pushed-each P placed each mine = subst (Every P) (sym (points-push placed (new_placed new p))) (Every-append P (points_with placed) (p ∷ []) each (mine, tt))

  pushed-total : (f : Point → ℕ) (placed : List Placed) → total f (points_with (placed ++ new_placed new p ∷ [])) ≡ f p + total f (points_with placed)
  pushed-total f placed =
      let moved = ap (total f) (points-push placed (new_placed new p)) in
      let parts = total-append f (points_with placed) (p ∷ []) in omega arith

  pub each-with : (P : Point → Type 0) (ns : Nodes) (k : ℕ) → Every HasParts (points_of ns) → Every P (points_of ns) → P p → Every P (points_of (with_point new p ns k))
  each-with P no_nodes k parts each mine = (mine, tt)
  each-with P (leaf r b placed later) zero parts each mine =
      each-divided new d some few (leaf_box b placed p.value) (placed ++ new_placed new p ∷ []) later (pushed-each HasParts placed (Every-left HasParts (points_with placed) (points_of later) parts) own) P
      (pushed-each P placed (Every-left P (points_with placed) (points_of later) each) mine) (Every-right P (points_with placed) (points_of later) each)
  each-with P (leaf r b placed later) (suc k) parts each mine =
      Every-append P (points_with placed) _ (Every-left P (points_with placed) (points_of later) each)
      (each-with P later k (Every-right HasParts (points_with placed) (points_of later) parts) (Every-right P (points_with placed) (points_of later) each) mine)
  each-with P (inner r b kids later) zero parts each mine =
      Every-append P _ (points_of later) (each-with P kids (place_among p.value kids) (Every-left HasParts (points_of kids) (points_of later) parts) (Every-left P (points_of kids) (points_of later) each) mine)
      (Every-right P (points_of kids) (points_of later) each)
  each-with P (inner r b kids later) (suc k) parts each mine =
      Every-append P (points_of kids) _ (Every-left P (points_of kids) (points_of later) each)
      (each-with P later k (Every-right HasParts (points_of kids) (points_of later) parts) (Every-right P (points_of kids) (points_of later) each) mine)

  -- one point more
  pub points-with : (f : Point → ℕ) (ns : Nodes) (k : ℕ) → Every HasParts (points_of ns) → total f (points_of (with_point new p ns k)) ≡ f p + total f (points_of ns)
  points-with f no_nodes k parts = refl
  points-with f (leaf r b placed later) zero parts =
      let all = points-divided new d some few (leaf_box b placed p.value) (placed ++ new_placed new p ∷ []) later (pushed-each HasParts placed (Every-left HasParts (points_with placed) (points_of later) parts) own) f in
      let one = pushed-total f placed in
      let both = total-append f (points_with placed) (points_of later) in omega arith
  points-with f (leaf r b placed later) (suc k) parts =
      let rest = points-with f later k (Every-right HasParts (points_with placed) (points_of later) parts) in
      let both = total-append f (points_with placed) (points_of later) in
      let all = total-append f (points_with placed) (points_of (with_point new p later k)) in omega arith
  points-with f (inner r b kids later) zero parts =
      let below = points-with f kids (place_among p.value kids) (Every-left HasParts (points_of kids) (points_of later) parts) in
      let both = total-append f (points_of kids) (points_of later) in
      let all = total-append f (points_of (with_point new p kids (place_among p.value kids))) (points_of later) in omega arith
  points-with f (inner r b kids later) (suc k) parts =
      let rest = points-with f later k (Every-right HasParts (points_of kids) (points_of later) parts) in
      let both = total-append f (points_of kids) (points_of later) in
      let all = total-append f (points_of kids) (points_of (with_point new p later k)) in omega arith

  -- a row on the way is known, or still to be written
  known-row : (x r : ℕ) → x ≢ new → times x (known_row new r) ≡ times x (r ∷ [])
  known-row x r other =
      by_test (λ s. (r == new) ≡ s → times x (if s then [] else r ∷ []) ≡ times x (r ∷ [])) (r == new)
      (λ same is. let none = times-tail x r [] (λ e. other (e ∙ eqb-true r new is)) in omega arith) (λ apart is. refl) refl

  known-one : (r : ℕ) → length (known_row new r) + times new (r ∷ []) ≡ 1
  known-one r =
      ⊎_elim (λ e. let here = ap (λ s. length (if s then [] else r ∷ [])) (eq-eqb r new e) in let one = times-head new [] in let same = ap (λ n. times new (n ∷ [])) e in omega arith)
      (λ apart. let here = ap (λ s. length (if s then [] else r ∷ [])) (ne_eqb r new apart) in let none = times-tail new r [] (λ e. apart (sym e)) in omega arith) (cases_eq r new)

  known-none : (r : ℕ) → times new (known_row new r) ≡ 0
  known-none r =
      ⊎_elim (λ e. ap (λ s. times new (if s then [] else r ∷ [])) (eq-eqb r new e))
      (λ apart. ap (λ s. times new (if s then [] else r ∷ [])) (ne_eqb r new apart) ∙ times-tail new r [] (λ e. apart (sym e))) (cases_eq r new)

  pub way-known : (ns : Nodes) (k : ℕ) → times new (way new p.value ns k) ≡ 0
  way-known no_nodes k = refl
  way-known (leaf r b placed later) zero = known-none r
  way-known (leaf r b placed later) (suc k) = way-known later k
  way-known (inner r b kids later) zero =
      let here = known-none r in let below = way-known kids (place_among p.value kids) in let both = times-append new (known_row new r) (way new p.value kids (place_among p.value kids)) in omega arith
  way-known (inner r b kids later) (suc k) = way-known later k

  -- the rows that were there are there still, or were on the way
  pub way-rows : (x : ℕ) → x ≢ new → (ns : Nodes) (k : ℕ) → Every HasParts (points_of ns) → times x (rows_of (with_point new p ns k)) + times x (way new p.value ns k) ≡ times x (rows_of ns)
  way-rows x other no_nodes k parts = let one = times-tail x new (new ∷ []) other in let two = times-tail x new [] other in omega arith
  way-rows x other (leaf r b placed later) zero parts =
      let all = rows-divided new d some few (leaf_box b placed p.value) (placed ++ new_placed new p ∷ []) later (pushed-each HasParts placed (Every-left HasParts (points_with placed) (points_of later) parts) own) x other in
      let moved = ap (times x) (rows-push placed (new_placed new p)) in
      let one = times-append x (rows_with placed) (new ∷ []) in
      let none = times-tail x new [] other in
      let known = known-row x r other in
      let both = times-append x (rows_with placed) (rows_of later) in omega arith
  way-rows x other (leaf r b placed later) (suc k) parts =
      let rest = way-rows x other later k (Every-right HasParts (points_with placed) (points_of later) parts) in
      let both = times-append x (rows_with placed) (rows_of later) in
      let all = times-append x (rows_with placed) (rows_of (with_point new p later k)) in omega arith
  way-rows x other (inner r b kids later) zero parts =
      let below = way-rows x other kids (place_among p.value kids) (Every-left HasParts (points_of kids) (points_of later) parts) in
      let first = times-tail x new (rows_of (with_point new p kids (place_among p.value kids)) ++ rows_of later) other in
      let known = known-row x r other in
      let gone = times-append x (known_row new r) (way new p.value kids (place_among p.value kids)) in
      let both = times-append x (rows_of kids) (rows_of later) in
      let all = times-append x (rows_of (with_point new p kids (place_among p.value kids))) (rows_of later) in omega arith
  way-rows x other (inner r b kids later) (suc k) parts =
      let rest = way-rows x other later k (Every-right HasParts (points_of kids) (points_of later) parts) in
      let both = times-append x (rows_of kids) (rows_of later) in
      let all = times-append x (rows_of kids) (rows_of (with_point new p later k)) in omega arith

  -- to be written are a row for each node on the way, one for the point, and d + 1 for groups
  pub fresh-with : (ns : Nodes) (k : ℕ) → Every HasParts (points_of ns)
      → times new (rows_of (with_point new p ns k)) ≤ times new (rows_of ns) + length (way new p.value ns k) + (d + 2)
  fresh-with no_nodes k parts = let one = times-head new (new ∷ []) in let two = times-head new [] in omega arith
  fresh-with (leaf r b placed later) zero parts =
      let all = fresh-divided new d some few (leaf_box b placed p.value) (placed ++ new_placed new p ∷ []) later (pushed-each HasParts placed (Every-left HasParts (points_with placed) (points_of later) parts) own) in
      let moved = ap (times new) (rows-push placed (new_placed new p)) in
      let one = times-append new (rows_with placed) (new ∷ []) in
      let head = times-head new [] in
      let known = known-one r in
      let both = times-append new (rows_with placed) (rows_of later) in omega arith
  fresh-with (leaf r b placed later) (suc k) parts =
      let rest = fresh-with later k (Every-right HasParts (points_with placed) (points_of later) parts) in
      let both = times-append new (rows_with placed) (rows_of later) in
      let all = times-append new (rows_with placed) (rows_of (with_point new p later k)) in omega arith
  fresh-with (inner r b kids later) zero parts =
      let below = fresh-with kids (place_among p.value kids) (Every-left HasParts (points_of kids) (points_of later) parts) in
      let first = times-head new (rows_of (with_point new p kids (place_among p.value kids)) ++ rows_of later) in
      let known = known-one r in
      let gone = length-append (known_row new r) (way new p.value kids (place_among p.value kids)) in
      let both = times-append new (rows_of kids) (rows_of later) in
      let all = times-append new (rows_of (with_point new p kids (place_among p.value kids))) (rows_of later) in omega arith
  fresh-with (inner r b kids later) (suc k) parts =
      let rest = fresh-with later k (Every-right HasParts (points_of kids) (points_of later) parts) in
      let both = times-append new (rows_of kids) (rows_of later) in
      let all = times-append new (rows_of kids) (rows_of (with_point new p later k)) in omega arith

  -- as many nodes side by side
  pub heads-with : (ns : Nodes) (k : ℕ) → k < length (heads ns) → Every HasParts (points_of ns) → length (heads (with_point new p ns k)) ≡ length (heads ns)
  heads-with no_nodes k low parts = absurd (omega arith)
  heads-with (leaf r b placed later) zero low parts =
      heads-divided new d some few (leaf_box b placed p.value) (placed ++ new_placed new p ∷ []) later (pushed-each HasParts placed (Every-left HasParts (points_with placed) (points_of later) parts) own)
  heads-with (leaf r b placed later) (suc k) low parts = ap suc (heads-with later k (omega arith) (Every-right HasParts (points_with placed) (points_of later) parts))
  heads-with (inner r b kids later) zero low parts = refl
  heads-with (inner r b kids later) (suc k) low parts = ap suc (heads-with later k (omega arith) (Every-right HasParts (points_of kids) (points_of later) parts))

  -- a tree with the point has a root that is to be written
  pub heads-root : (ns : Nodes) → length (heads ns) ≤ 1 → Every HasParts (points_of ns) → heads (with_point new p ns 0) ≡ new ∷ []
  heads-root no_nodes one parts = refl
  heads-root (leaf r b placed later) one parts =
      by_test (λ s. heads (if s then leaf new (leaf_box b placed p.value) (placed ++ new_placed new p ∷ []) later else inner new (leaf_box b placed p.value) (group_leaves new (placed ++ new_placed new p ∷ []) (split (values_with (placed ++ new_placed new p ∷ [])))) later) ≡ new ∷ [])
      (nat_le (length (placed ++ new_placed new p ∷ [])) 20) (λ fits. ap (λ xs. new ∷ xs) (alone (heads later) (omega arith))) (λ full. ap (λ xs. new ∷ xs) (alone (heads later) (omega arith)))
    where
      alone : (xs : List ℕ) → length xs ≤ 0 → xs ≡ []
      alone [] none = refl
      alone (x ∷ xs) none = absurd (omega arith)
  heads-root (inner r b kids later) one parts = ap (λ xs. new ∷ xs) (alone (heads later) (omega arith))
    where
      alone : (xs : List ℕ) → length xs ≤ 0 → xs ≡ []
      alone [] none = refl
      alone (x ∷ xs) none = absurd (omega arith)

  pub formed-with : (ns : Nodes) (k : ℕ) → AreFormed d ns → Every HasParts (points_of ns) → AreFormed d (with_point new p ns k)
  formed-with no_nodes k formed parts = (omega arith, omega arith, tt)
  formed-with (leaf r b placed later) zero formed parts =
      let n = length-append placed (new_placed new p ∷ []) in
      let most = formed.1 in
      formed-divided new d some few (leaf_box b placed p.value) (placed ++ new_placed new p ∷ []) later (pushed-each HasParts placed (Every-left HasParts (points_with placed) (points_of later) parts) own)
      (omega arith) (omega arith) formed.2
  formed-with (leaf r b placed later) (suc k) formed parts = (formed.0, formed.1, formed-with later k formed.2 (Every-right HasParts (points_with placed) (points_of later) parts))
  formed-with (inner r b kids later) zero formed parts =
      let first = Every-left HasParts (points_of kids) (points_of later) parts in
      let k = place_among p.value kids in
      let two = formed.0 in
      let most = formed.1 in
      let room = formed.2 in
      let same = heads-with kids k (place-below p.value kids (omega arith)) first in
      (omega arith, omega arith, omega arith, formed-with kids k formed.3 first, formed.4)
  formed-with (inner r b kids later) (suc k) formed parts =
      (formed.0, formed.1, formed.2, formed.3, formed-with later k formed.4 (Every-right HasParts (points_of kids) (points_of later) parts))

  -- what is known stays written
  pub kept-with : (objectives : ℕ) (cells : List Cell) (ns : Nodes) (k : ℕ) → Every HasParts (points_of ns) → AreKept new objectives cells ns → AreKept new objectives cells (with_point new p ns k)
  kept-with objectives cells no_nodes k parts kept = ((λ other. absurd (other refl)), ((λ other. absurd (other refl)), tt), tt)
  kept-with objectives cells (leaf r b placed later) zero parts kept =
      kept-divided new d some few (leaf_box b placed p.value) (placed ++ new_placed new p ∷ []) later (pushed-each HasParts placed (Every-left HasParts (points_with placed) (points_of later) parts) own) objectives cells
      (Every-append (λ (q : Placed). q.row ≢ new → IsPointRow objectives cells q) placed (new_placed new p ∷ []) kept.1 ((λ other. absurd (other refl)), tt)) kept.2
  kept-with objectives cells (leaf r b placed later) (suc k) parts kept =
      (kept.0, kept.1, kept-with objectives cells later k (Every-right HasParts (points_with placed) (points_of later) parts) kept.2)
  kept-with objectives cells (inner r b kids later) zero parts kept =
      ((λ other. absurd (other refl)), kept-with objectives cells kids (place_among p.value kids) (Every-left HasParts (points_of kids) (points_of later) parts) kept.1, kept.2)
  kept-with objectives cells (inner r b kids later) (suc k) parts kept =
      (kept.0, kept.1, kept-with objectives cells later k (Every-right HasParts (points_of kids) (points_of later) parts) kept.2)

  -- the points and the new one are weakly dominated by one of `all` at most
  module _ (all : List Point) where
    pub record AreAlone (points : List Point) : Type 0 where
      pub among : (w : List ℤ) → one_if (weakly_dominates p.value w) + coverings points w ≤ coverings all w
      pub alone : Every (λ (q : Point). coverings all q.value ≤ 1) points
      pub itself : coverings all p.value ≤ 1

    alone-left : (xs ys : List Point) → AreAlone (xs ++ ys) → AreAlone xs
    alone-left xs ys is = record {
      among = λ w. let both = total-append (λ (q : Point). one_if (weakly_dominates q.value w)) xs ys in let low = is.among w in omega arith;
      alone = Every-left _ xs ys is.alone;
      itself = is.itself;
    }

    alone-right : (xs ys : List Point) → AreAlone (xs ++ ys) → AreAlone ys
    alone-right xs ys is = record {
      among = λ w. let both = total-append (λ (q : Point). one_if (weakly_dominates q.value w)) xs ys in let low = is.among w in omega arith;
      alone = Every-right _ xs ys is.alone;
      itself = is.itself;
    }

    -- a grown box
    module _ (b : Box) (points after : List Point) (box : Encloses b points) (parts : Every HasParts points) (alone : AreAlone points) where
      is_grown : 0 < length points → (IsTrue (encloses (grown b p.value) p.value)) × Every (λ (q : Point). IsTrue (encloses (grown b p.value) q.value)) points
      is_grown some = by_first points some box.all parts
        where
          by_first : (points : List Point) → 0 < length points → Every (λ (q : Point). IsTrue (encloses b q.value)) points → Every HasParts points
              → (IsTrue (encloses (grown b p.value) p.value)) × Every (λ (q : Point). IsTrue (encloses (grown b p.value) q.value)) points
          by_first [] some inside parts = absurd (omega arith)
          by_first (x ∷ points) some inside parts =
              let is = is_box b x.value inside.0 in
              let long : length p.value ≡ length b.ideal = own ∙ sym (box_parts b x.value inside.0 ∙ parts.0) in (
                grown-new b is p.value long,
                Every-map (λ (q : Point). IsTrue (encloses b q.value)) (λ (q : Point). IsTrue (encloses (grown b p.value) q.value)) (λ q here. grown-others b is p.value long q.value here) (x ∷ points) inside,
              )

      encloses-grown : 0 < length points
          → ((P : Point → Type 0) → Every P points → P p → Every P after) → ((f : Point → ℕ) → total f after ≡ f p + total f points) → Encloses (grown b p.value) after
      encloses-grown some each sums =
          let inside = is_grown some in
          encloses-apart (grown b p.value) after (each (λ (q : Point). IsTrue (encloses (grown b p.value) q.value)) inside.1 inside.0)
          (let n = length-total after in let m = length-total points in let e = sums (λ q. 1) in omega arith)
          (each (λ (q : Point). coverings after q.value ≤ 1)
          (Every-map (λ (q : Point). coverings all q.value ≤ 1) (λ (q : Point). coverings after q.value ≤ 1) (λ q one. once q.value one) points alone.alone)
          (once p.value alone.itself))
        where
          length-total : (xs : List Point) → total (λ q. 1) xs ≡ length xs
          length-total [] = refl
          length-total (x ∷ xs) = let rest = length-total xs in omega arith

          once : (w : List ℤ) → coverings all w ≤ 1 → coverings after w ≤ 1
          once w one = let e = sums (λ (q : Point). one_if (weakly_dominates q.value w)) in let low = alone.among w in omega arith

    pub boxed-with : (ns : Nodes) (k : ℕ) → AreFormed d ns → AreBoxed ns → Every HasParts (points_of ns) → AreAlone (points_of ns) → AreBoxed (with_point new p ns k)
    boxed-with no_nodes k formed boxed parts alone = (encloses-one p, tt)
    boxed-with (leaf r b placed later) zero formed boxed parts alone =
        let first = Every-left HasParts (points_with placed) (points_of later) parts in
        let mine = alone-left (points_with placed) (points_of later) alone in
        boxed-divided new d some few (leaf_box b placed p.value) (placed ++ new_placed new p ∷ []) later (pushed-each HasParts placed first own)
        (grows placed formed.0 boxed.0 first mine)
        (pushed-each (λ (q : Point). coverings (points_with (placed ++ new_placed new p ∷ [])) q.value ≤ 1) placed
        (Every-map (λ (q : Point). coverings all q.value ≤ 1) (λ (q : Point). coverings (points_with (placed ++ new_placed new p ∷ [])) q.value ≤ 1) (λ q one. once mine q.value one) (points_with placed) mine.alone) (once mine p.value mine.itself))
        boxed.1
      where
        once : AreAlone (points_with placed) → (w : List ℤ) → coverings all w ≤ 1 → coverings (points_with (placed ++ new_placed new p ∷ [])) w ≤ 1
        once mine w one = let e = pushed-total (λ (q : Point). one_if (weakly_dominates q.value w)) placed in let low = mine.among w in omega arith

        grows : (placed : List Placed) → 1 ≤ length placed → Encloses b (points_with placed) → Every HasParts (points_with placed) → AreAlone (points_with placed) → Encloses (leaf_box b placed p.value) (points_with (placed ++ new_placed new p ∷ []))
        grows [] one box parts mine = absurd (omega arith)
        grows (x ∷ placed) one box parts mine =
            encloses-grown b (points_with (x ∷ placed)) (points_with ((x ∷ placed) ++ new_placed new p ∷ [])) box parts mine (omega arith)
            (λ P each own. pushed-each P (x ∷ placed) each own) (λ f. pushed-total f (x ∷ placed))
    boxed-with (leaf r b placed later) (suc k) formed boxed parts alone =
        (boxed.0, boxed-with later k formed.2 boxed.1 (Every-right HasParts (points_with placed) (points_of later) parts) (alone-right (points_with placed) (points_of later) alone))
    boxed-with (inner r b kids later) zero formed boxed parts alone =
        let first = Every-left HasParts (points_of kids) (points_of later) parts in
        let mine = alone-left (points_of kids) (points_of later) alone in
        let k = place_among p.value kids in (
          encloses-grown b (points_of kids) (points_of (with_point new p kids k)) boxed.0 first mine (some_points d kids formed.3 (let two = formed.0 in omega arith))
              (λ P each own. each-with P kids k first each own) (λ f. points-with f kids k first),
          boxed-with kids k formed.3 boxed.1 first mine,
          boxed.2,
        )
    boxed-with (inner r b kids later) (suc k) formed boxed parts alone =
        (boxed.0, boxed.1, boxed-with later k formed.4 boxed.2 (Every-right HasParts (points_of kids) (points_of later) parts) (alone-right (points_of kids) (points_of later) alone))
