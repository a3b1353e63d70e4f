-- The tree after an update: what holds of it, of the written one, and of the archive that it stands for.
use Rattle.std.proofs.Common.{◌≡◌, ◌≢◌, ℕ, zero, suc, ◌+◌, ◌-◌, ◌^◌, ◌<◌, ◌≤◌, ◌⊎◌, inl, inr, ⊎_elim, min, Bool, true, false, not, if◌then◌else◌, List, [], ◌∷◌, ◌++◌, length, filter, refl, sym, ap, ap₂, subst, ◌∙◌, arith, length-append, eq-eqb, ℤ, true≢false}
use Rattle.std.specs.Prelude.{◌&&◌, ◌==◌}
use Rattle.std.proofs.lemmas.Bool.{and_parts, cases_eq, false_from_ne_true, eqb-true}
use Rattle.era_core.specs.Lists.{times, In, without}
use Rattle.era_core.specs.Versions.{Cell, Copy}
use Rattle.era_core.proofs.BatchFacts.{times-without_gone, times-without_kept}
use Rattle.era_core.proofs.ListFacts.{times-append}
use Rattle.pls_vectors.specs.Archive.{dominates}
use Rattle.pls_vectors.specs.Box.{Box}
use Rattle.pls_vectors.specs.Dominance.{weakly_dominates}
use Rattle.pls_vectors.specs.declared.range.Decision.TheVariants.{AllCover, CoversAll, Apart, Mixed}
use Rattle.pls_vectors.proofs.Dominance.{weakly_dominates-refl, weakly_dominates-trans}
use Rattle.pls_archive.specs.declared.call.Entry.{Entry}
use Rattle.pls_archive.specs.declared.point.Point.{Point}
use Rattle.pls_archive.specs.History.{submissions}
use Rattle.pls_archive.specs.Lists.{Every, AsOften, how_many, one_if, total}
use Rattle.pls_archive.specs.Reply.{members, some_weakly_dominates, point_weakly_dominates}
use Rattle.pls_archive.proofs.Every.{Every-append, Every-map, Every-filter, Every-left, Every-right, total-append, length-filter}
use Rattle.pls_archive.proofs.Histories.{submissions-append}
use Rattle.pls_archive.proofs.ListArchive.{added-due, added-grows}
use Rattle.pls_archive.proofs.ViewsFilters.{Every-paired}
use Rattle.nd_rows.specs.Nodes.{Placed, Nodes, no_nodes, leaf, inner, heads, rows_of, rows_with, points_of, points_with, coverings, Encloses, AreBoxed, AreFormed, IsEmptyLeaf, AreApart, is_mixed, undecided, necessary}
use Rattle.nd_rows.specs.Layout.{IsPointRow, AreWritten, StandsFor}
use Rattle.nd_rows.specs.Entries.{IsRight, added}
use Rattle.nd_update.specs.Removal.{without_dominated, changed_rows, dropped, is_cut, cut_rows}
use Rattle.nd_update.specs.Insertion.{updated, way, replaced}
use Rattle.nd_update.specs.Naming.{names_of}
use Rattle.nd_update.specs.Updates.{removed_from, MayUpdate, copied, IsUpdate, IsWritten, IsNewTree, Updates, IsWrittenTree, StandsForMore}
use Rattle.nd_update.proofs.Filters.{by_test, none-each}
use Rattle.nd_update.proofs.Removal.{stays, points-without, boxed-without, formed-without, heads-without}
use Rattle.nd_update.proofs.RemovedRows.{dropped-rows, fresh-without, changed_cut, changed-dropped, dropped-known, some_points}
use Rattle.nd_update.proofs.Enclosed.{encloses-one}
use Rattle.nd_update.proofs.Kept.{kept-without}
use Rattle.nd_update.proofs.Insertion.{each-with, points-with, way-rows, way-known, fresh-with, heads-root, formed-with, kept-with, AreAlone, boxed-with}
use Rattle.nd_update.proofs.Naming.{points-named, boxed-named, formed-named, rows-named, names-new, written-named, kept-alike}

zero_or : (n : ℕ) → (n ≡ 0) ⊎ (0 < n)
zero_or zero = inl refl
zero_or (suc n) = inr (omega arith)

off : (s : Bool) → not s ≡ true → s ≡ false
off true e = sym e
off false e = refl

-- the points of what is written have so many parts
parts-placed : (objectives : ℕ) (cells : List Cell) (placed : List Placed) → Every (IsPointRow objectives cells) placed → Every (λ (q : Point). length q.value ≡ objectives) (points_with placed)
parts-placed objectives cells [] each = tt
parts-placed objectives cells (p ∷ placed) each = (each.0.value.parts, parts-placed objectives cells placed each.1)

parts-written : (objectives : ℕ) (cells : List Cell) (ns : Nodes) → AreWritten objectives cells ns → Every (λ (q : Point). length q.value ≡ objectives) (points_of ns)
parts-written objectives cells no_nodes written = tt
parts-written objectives cells (leaf r b placed later) written = Every-append _ (points_with placed) (points_of later) (parts-placed objectives cells placed written.2) (parts-written objectives cells later written.3)
parts-written objectives cells (inner r b kids later) written = Every-append _ (points_of kids) (points_of later) (parts-written objectives cells kids written.2) (parts-written objectives cells later written.3)

-- counts that are as great as they can be
every-counted : {A : Type 0} (test : A → Bool) (xs : List A) → how_many test xs ≡ length xs → Every (λ x. test x ≡ true) xs
every-counted test [] all = tt
every-counted test (x ∷ xs) all =
    by_test (λ s. one_if s + how_many test xs ≡ suc (length xs) → (s ≡ true) × Every (λ y. test y ≡ true) xs) (test x)
    (λ passes all. (refl, every-counted test xs (omega arith))) (λ fails all. absurd (let few = at_most xs in omega arith)) all
  where
    at_most : (ys : List _) → how_many test ys ≤ length ys
    at_most [] = omega arith
    at_most (y ∷ ys) = let rest = at_most ys in by_test (λ s. one_if s + how_many test ys ≤ suc (length ys)) (test y) (λ passes. omega arith) (λ fails. omega arith)

counted-every : {A : Type 0} (test : A → Bool) (xs : List A) → Every (λ x. test x ≡ true) xs → how_many test xs ≡ length xs
counted-every test [] each = refl
counted-every test (x ∷ xs) each = let one = ap one_if each.0 in let rest = counted-every test xs each.1 in omega arith

none-counted : {A : Type 0} (test : A → Bool) (xs : List A) → Every (λ x. test x ≡ false) xs → how_many test xs ≡ 0
none-counted test [] each = refl
none-counted test (x ∷ xs) each = let none = ap one_if each.0 in let rest = none-counted test xs each.1 in omega arith

fewer-filter : {A : Type 0} (test keep : A → Bool) (xs : List A) → how_many test (filter keep xs) ≤ how_many test xs
fewer-filter test keep [] = omega arith
fewer-filter test keep (x ∷ xs) =
    let rest = fewer-filter test keep xs in
    by_test (λ s. how_many test (if s then x ∷ filter keep xs else filter keep xs) ≤ one_if (test x) + how_many test xs) (keep x) (λ passes. omega arith) (λ fails. omega arith)

filter-each : {A : Type 0} (keep : A → Bool) (xs : List A) → Every (λ x. keep x ≡ true) (filter keep xs)
filter-each keep [] = tt
filter-each keep (x ∷ xs) =
    by_test (λ s. keep x ≡ s → Every (λ y. keep y ≡ true) (if s then x ∷ filter keep xs else filter keep xs)) (keep x)
    (λ passes is. (is, filter-each keep xs)) (λ fails is. filter-each keep xs) refl

filter-alike : {A : Type 0} (f g : A → Bool) (xs : List A) → Every (λ x. f x ≡ g x) xs → filter f xs ≡ filter g xs
filter-alike f g [] each = refl
filter-alike f g (x ∷ xs) each = ap₂ (λ s ys. if s then x ∷ ys else ys) each.0 (filter-alike f g xs each.1)

pub uncovered-each : (points : List Point) (v : List ℤ) → some_weakly_dominates points v ≡ false → Every (λ (q : Point). weakly_dominates q.value v ≡ false) points
uncovered-each points v none = Every-map (λ (q : Point). not (weakly_dominates q.value v) ≡ true) (λ (q : Point). weakly_dominates q.value v ≡ false) (λ q is. off _ is) points (none-each (λ (q : Point). weakly_dominates q.value v) points none)

-- a question about the value needs the rows that are cut
module _ (objectives : ℕ) (v : List ℤ) where
  -- where no enclosed point covers the value, the nadir does not
  pub uncovered_nadir : (b : Box) (points : List Point) → 0 < length points → Encloses b points → Every (λ (q : Point). weakly_dominates q.value v ≡ false) points → weakly_dominates b.nadir v ≡ false
  uncovered_nadir b [] some box none = absurd (omega arith)
  uncovered_nadir b (q ∷ points) some box none =
      false_from_ne_true _ (λ h. true≢false (sym (weakly_dominates-trans q.value b.nadir v (and_parts (weakly_dominates b.ideal q.value) _ box.all.0).1 h) ∙ none.0))

  mixed_cut : (b : Box) (points : List Point) → 0 < length points → Encloses b points → Every (λ (q : Point). weakly_dominates q.value v ≡ false) points → is_cut b v ≡ true → is_mixed b v ≡ true
  mixed_cut b points some box none cut =
      let parts = and_parts (weakly_dominates v b.nadir) _ cut in
      decided (weakly_dominates b.nadir v) (weakly_dominates v b.ideal) (weakly_dominates b.ideal v) (weakly_dominates v b.nadir) (uncovered_nadir b points some box none) (off _ parts.1) parts.0
    where
      decided : (n i a o : Bool) → n ≡ false → i ≡ false → o ≡ true → undecided (if n then AllCover else if i then CoversAll else if not a && not o then Apart else Mixed) ≡ true
      decided true i a o p q r = absurd (true≢false p)
      decided false true a o p q r = absurd (true≢false q)
      decided false false true o p q r = refl
      decided false false false true p q r = refl
      decided false false false false p q r = absurd (true≢false (sym r))

  pub cut-necessary : (ns : Nodes) → AreFormed objectives ns → AreBoxed ns → Every (λ (q : Point). weakly_dominates q.value v ≡ false) (points_of ns) → (x : ℕ) → In x (cut_rows v ns) → In x (necessary v ns)
  cut-necessary no_nodes formed boxed none x here = here
  cut-necessary (leaf r b placed later) formed boxed none x here =
      let rest = cut-necessary later formed.2 boxed.1 (Every-right _ (points_with placed) (points_of later) none) x in
      let mine = times-append x (if is_cut b v then r ∷ [] else []) (cut_rows v later) in
      let all = times-append x (if is_mixed b v then rows_with placed else []) (necessary v later) in
      let one : times x (if is_cut b v then r ∷ [] else []) ≤ times x (r ∷ []) = by_test (λ s. times x (if s then r ∷ [] else []) ≤ times x (r ∷ [])) (is_cut b v) (λ cut. omega arith) (λ whole. omega arith) in
      ⊎_elim (λ e. let none' : times x (cut_rows v later) ≡ 0 = e in omega arith) (λ some. let below = rest some in omega arith) (zero_or (times x (cut_rows v later)))
  cut-necessary (inner r b kids later) formed boxed none x here =
      let first = Every-left _ (points_of kids) (points_of later) none in
      let below = cut-necessary kids formed.3 boxed.1 first x in
      let rest = cut-necessary later formed.4 boxed.2 (Every-right _ (points_of kids) (points_of later) none) x in
      let mine = times-append x (if is_cut b v then r ∷ cut_rows v kids else []) (cut_rows v later) in
      let all = times-append x (if is_mixed b v then necessary v kids else []) (necessary v later) in
      ⊎_elim
      (λ e. by_test (λ s. is_cut b v ≡ s → times x ((if s then r ∷ cut_rows v kids else []) ++ cut_rows v later) ≡ times x (if s then r ∷ cut_rows v kids else []) + times x (cut_rows v later) → 0 < times x ((if s then r ∷ cut_rows v kids else []) ++ cut_rows v later) → In x (necessary v (inner r b kids later))) (is_cut b v)
      (λ cut is mine here.
      let mixed = ap (λ s. times x (if s then necessary v kids else [])) (mixed_cut b (points_of kids) (some_points objectives kids formed.3 (let two = formed.0 in omega arith)) boxed.0 first is) in
      ⊎_elim (λ none'. omega arith) (λ some. let h = below some in omega arith) (zero_or (times x (cut_rows v kids))))
      (λ whole is mine here. absurd (omega arith)) refl mine here)
      (λ some. let h = rest some in omega arith) (zero_or (times x (cut_rows v later)))

-- An update that may be.
module _ (objectives new : ℕ) (p : Point) (c : Copy) (t : Nodes) (may : MayUpdate objectives new p c t) where
  abbrev v : List ℤ
  v = p.value

  some : 2 ≤ objectives
  some = may.some

  few : objectives ≤ 4
  few = may.few

  abbrev rest : Nodes
  rest = without_dominated new v t

  abbrev left : List Point
  left = filter (stays v) (points_of t)

  parts-all : Every (λ (q : Point). length q.value ≡ objectives) (points_of t)
  parts-all = parts-written objectives c.cells t may.is_tree.written

  parts-rest : Every (λ (q : Point). length q.value ≡ objectives) (points_of rest)
  parts-rest = subst (Every (λ (q : Point). length q.value ≡ objectives)) (sym (points-without v new t)) (Every-filter _ (stays v) (points_of t) parts-all)

  no_new : times new (rows_of t) ≡ 0
  no_new = ap (times new) (sym may.is_tree.rows_are) ∙ may.no_row

  none_over : Every (λ (q : Point). weakly_dominates q.value v ≡ false) (points_of t)
  none_over = uncovered-each (points_of t) v may.uncovered

  alone-all : Every (λ (q : Point). coverings (points_of t) q.value ≡ 1) (points_of t)
  alone-all =
      Every-map (λ (q : Point). (coverings (points_of t) q.value == 1) ≡ true) (λ (q : Point). coverings (points_of t) q.value ≡ 1) (λ q is. eqb-true _ _ is) (points_of t)
      (every-counted (λ (q : Point). coverings (points_of t) q.value == 1) (points_of t) may.is_tree.apart)

  -- those that stay and the new one are apart
  abbrev all : List Point
  all = p ∷ points_of rest

  alone-rest : Every (λ (q : Point). coverings all q.value ≤ 1) (points_of rest)
  alone-rest =
      subst (λ points. Every (λ (q : Point). coverings (p ∷ points) q.value ≤ 1) points) (sym (points-without v new t))
      (Every-map (λ (q : Point). (stays v q ≡ true) × (coverings (points_of t) q.value ≡ 1)) (λ (q : Point). coverings (p ∷ left) q.value ≤ 1)
      (λ q h. let one = h.1 in let under = ap one_if (off _ h.0) in let fewer = fewer-filter (λ (r : Point). weakly_dominates r.value q.value) (stays v) (points_of t) in omega arith) left
      (Every-paired (λ (q : Point). stays v q ≡ true) (λ (q : Point). coverings (points_of t) q.value ≡ 1) left (filter-each (stays v) (points_of t)) (Every-filter _ (stays v) (points_of t) alone-all)))

  alone-new : coverings all v ≤ 1
  alone-new =
      let none = none-counted (λ (q : Point). weakly_dominates q.value v) (points_of rest)
      (subst (Every (λ (q : Point). weakly_dominates q.value v ≡ false)) (sym (points-without v new t)) (Every-filter _ (stays v) (points_of t) none_over)) in
      let itself = ap one_if (weakly_dominates-refl v) in omega arith

  are_alone : AreAlone new p objectives some few may.parts all (points_of rest)
  are_alone = record { among = λ w. omega arith; alone = alone-rest; itself = alone-new }

  abbrev after : Nodes
  after = updated new p t

  counts : (f : Point → ℕ) → total f (points_of after) ≡ f p + total f left
  counts f = points-with new p objectives some few may.parts f rest 0 parts-rest ∙ ap (λ points. f p + total f points) (points-without v new t)

  apart-after : AreApart (points_of after)
  apart-after =
      counted-every (λ (q : Point). coverings (points_of after) q.value == 1) (points_of after)
      (each-with new p objectives some few may.parts (λ (q : Point). (coverings (points_of after) q.value == 1) ≡ true) rest 0 parts-rest
      (Every-map (λ (q : Point). (0 < coverings all q.value) × (coverings all q.value ≤ 1)) (λ (q : Point). (coverings (points_of after) q.value == 1) ≡ true) (λ q h. one q.value h.0 h.1) (points_of rest)
      (Every-paired (λ (q : Point). 0 < coverings all q.value) (λ (q : Point). coverings all q.value ≤ 1) (points_of rest) (some_cover (points_of rest)) alone-rest))
      (one v (let itself = ap one_if (weakly_dominates-refl v) in omega arith) alone-new))
    where
      one : (w : List ℤ) → 0 < coverings all w → coverings all w ≤ 1 → (coverings (points_of after) w == 1) ≡ true
      one w low high =
          let e = points-with new p objectives some few may.parts (λ (q : Point). one_if (weakly_dominates q.value w)) rest 0 parts-rest in
          eq-eqb (coverings (points_of after) w) 1 (omega arith)

      more_cover : (xs : List Point) (y : Point) → Every (λ (q : Point). 0 < coverings xs q.value) xs → Every (λ (q : Point). 0 < coverings (y ∷ xs) q.value) xs
      more_cover xs y each = Every-map (λ (q : Point). 0 < coverings xs q.value) (λ (q : Point). 0 < coverings (y ∷ xs) q.value) (λ q low. omega arith) xs each

      itself_covers : (xs : List Point) → Every (λ (q : Point). 0 < coverings xs q.value) xs
      itself_covers [] = tt
      itself_covers (x ∷ xs) = ((let one = ap one_if (weakly_dominates-refl x.value) in omega arith), more_cover xs x (itself_covers xs))

      some_cover : (xs : List Point) → Every (λ (q : Point). 0 < coverings (p ∷ xs) q.value) xs
      some_cover xs = more_cover xs p (itself_covers xs)

  -- the empty tree, and every other one
  is_empty : (t : Nodes) → IsEmptyLeaf t → (r : ℕ) × (b : Box) × (t ≡ leaf r b [] no_nodes)
  is_empty no_nodes empty = absurd empty
  is_empty (leaf r b placed later) empty = (r, b, ap₂ (λ ps ns. leaf r b ps ns) empty.0 empty.1)
  is_empty (inner r b kids later) empty = absurd empty

  formed-after : AreFormed objectives after
  formed-after =
      ⊎_elim
      (λ empty. let e = is_empty t empty in subst (λ (s : Nodes). AreFormed objectives (updated new p s)) (sym e.2) (omega arith, omega arith, tt))
      (λ formed. formed-with new p objectives some few may.parts rest 0 (formed-without v new objectives t formed) parts-rest) may.is_tree.formed

  boxed-after : AreBoxed after
  boxed-after =
      ⊎_elim
      (λ empty. let e = is_empty t empty in subst (λ (s : Nodes). AreBoxed (updated new p s)) (sym e.2) (encloses-one p, tt))
      (λ formed. boxed-with new p objectives some few may.parts all rest 0 (formed-without v new objectives t formed) (boxed-without v new t may.is_tree.boxed) parts-rest are_alone) may.is_tree.formed

  rows-after : (x : ℕ) → x ≢ new → times x (rows_of after) + times x (replaced new v t) ≡ times x (rows_of t)
  rows-after x other =
      let first = dropped-rows v new x other t in
      let second = way-rows new p objectives some few may.parts x other rest 0 parts-rest in
      let both = times-append x (dropped v t) (way new v rest 0) in omega arith

  known-after : times new (replaced new v t) ≡ 0
  known-after =
      let first = dropped-known v new t no_new in
      let second = way-known new p objectives some few may.parts rest 0 in
      let both = times-append new (dropped v t) (way new v rest 0) in omega arith

  few-after : times new (rows_of after) ≤ length (copied objectives new p t) + (objectives + 2)
  few-after =
      let first = fresh-without v new t no_new in
      let second = fresh-with new p objectives some few may.parts rest 0 parts-rest in
      let both = length-append (changed_rows new v t) (way new v rest 0) in omega arith

  once-after : (x : ℕ) → times x (copied objectives new p t) ≤ times x (rows_of t)
  once-after x =
      let both = times-append x (changed_rows new v t) (way new v rest 0) in
      let fewer = changed-dropped v new x t in
      ⊎_elim
      (λ e. let none = dropped-known v new t no_new in let no_way = way-known new p objectives some few may.parts rest 0 in
      let one = ap (λ n. times n (changed_rows new v t)) e in let two = ap (λ n. times n (way new v rest 0)) e in let three = ap (λ n. times n (dropped v t)) e in omega arith)
      (λ other. let first = dropped-rows v new x other t in let second = way-rows new p objectives some few may.parts x other rest 0 parts-rest in omega arith)
      (cases_eq x new)

  cut-after : (x : ℕ) → times x (changed_rows new v t) ≤ times x (cut_rows v t)
  cut-after x =
      ⊎_elim
      (λ empty. let e = is_empty t empty in subst (λ (s : Nodes). times x (changed_rows new v s) ≤ times x (cut_rows v s)) (sym e.2) (omega arith))
      (λ formed. changed_cut v new objectives x t formed may.is_tree.boxed) may.is_tree.formed

  needed-after : (x : ℕ) → In x (cut_rows v t) → In x (necessary v t)
  needed-after x =
      ⊎_elim
      (λ empty. let e = is_empty t empty in subst (λ (s : Nodes). In x (cut_rows v s) → In x (necessary v s)) (sym e.2) (leaf_needed e.0 e.1))
      (λ formed. cut-necessary objectives v t formed may.is_tree.boxed none_over x) may.is_tree.formed
    where
      leaf_needed : (r : ℕ) (b : Box) → In x ((if is_cut b v then r ∷ [] else []) ++ []) → In x (r ∷ ((if is_mixed b v then [] else []) ++ []))
      leaf_needed r b here =
          by_test (λ s. In x ((if s then r ∷ [] else []) ++ []) → In x (r ∷ ((if is_mixed b v then [] else []) ++ []))) (is_cut b v)
          (λ cut here. omega arith) (λ whole here. absurd (omega arith)) here

  pub is_update : IsUpdate objectives new p c t after
  is_update = record {
    rooted = heads-root new p objectives some few may.parts rest (let fewer = heads-without v new t in let one = ap length may.is_tree.rooted in omega arith) parts-rest;
    points = λ test. let parts = total-append (λ x. one_if (test x)) left (p ∷ []) in let all = counts (λ x. one_if (test x)) in omega arith;
    formed = formed-after;
    boxed = boxed-after;
    apart = apart-after;
    rows = rows-after;
    known = known-after;
    kept = kept-with new p objectives some few may.parts objectives c.cells rest 0 parts-rest (kept-without new objectives c.cells v t may.is_tree.written no_new);
    few = few-after;
    once = once-after;
    cut = cut-after;
    needed = needed-after;
  }

  -- the written tree
  module _ (named : Nodes) (cells : List Cell) (root : ℕ) (is : IsWritten objectives new p c t named cells) (rooted : heads named ≡ root ∷ []) where
    abbrev names : List ℕ
    names = names_of new after named

    in_tree : (x : ℕ) → x ≢ new → times x (rows_of after) ≤ times x c.rows
    in_tree x other = let parts = rows-after x other in let same = ap (times x) may.is_tree.rows_are in omega arith

    once-named : (x : ℕ) → times x (rows_of named) ≤ 1
    once-named x =
        let different = is.different x in
        ⊎_elim
        (λ e. let all = names-new new after named is.is_named in let there = ap (λ n. times n (rows_of named)) e in let same = ap (λ n. times n names) e in omega arith)
        (λ other. let all = rows-named new x other after named is.is_named in let old = in_tree x other in let once = may.is_tree.once x in
        ⊎_elim (λ none. let e : times x names ≡ 0 = none in omega arith) (λ some. let gone = is.unused x some in omega arith) (zero_or (times x names)))
        (cases_eq x new)

    gone-named : (x : ℕ) → times x (replaced new v t) ≡ times x (without (rows_of named) c.rows)
    gone-named x =
        ⊎_elim
        (λ e. let none = known-after in let there = ap (λ n. times n (replaced new v t)) e in let fewer = without_le x (rows_of named) c.rows in let no = may.no_row in let same = ap (λ n. times n c.rows) e in omega arith)
        (λ other. let all = rows-named new x other after named is.is_named in let parts = rows-after x other in let same = ap (times x) may.is_tree.rows_are in let once = may.is_tree.once x in
        ⊎_elim
        (λ none. let e : times x (rows_of named) ≡ 0 = none in let kept = times-without_kept x (rows_of named) c.rows e in omega arith)
        (λ some. let out = times-without_gone x (rows_of named) c.rows some in
        ⊎_elim (λ none. let e : times x names ≡ 0 = none in omega arith) (λ new_one. let unused = is.unused x new_one in omega arith) (zero_or (times x names)))
        (zero_or (times x (rows_of named))))
        (cases_eq x new)
      where
        without_le : (x : ℕ) (gone xs : List ℕ) → times x (without gone xs) ≤ times x xs
        without_le x gone xs =
            ⊎_elim (λ none. let e : times x gone ≡ 0 = none in let kept = times-without_kept x gone xs e in omega arith) (λ some. let out = times-without_gone x gone xs some in omega arith) (zero_or (times x gone))

    pub is_new_tree : IsNewTree objectives new p c t named (record { root = root; rows = rows_of named; cells = cells })
    is_new_tree = record {
      is_tree = record {
        rooted = rooted;
        rows_are = refl;
        once = once-named;
        written = written-named new objectives cells after named is.is_named
            (kept-alike new objectives c.cells cells after (λ x here other. is.stays x (let fewer = in_tree x other in omega arith)) is_update.kept) is.written;
        formed = inr (formed-named new objectives after named is.is_named formed-after);
        boxed = boxed-named new after named is.is_named boxed-after;
        apart = subst AreApart (sym (points-named new after named is.is_named)) apart-after;
      };
      points = points-named new after named is.is_named;
      gone = gone-named;
    }

  -- the archive
  module _ (entries : List Entry) (caller stamp : ℕ) (often : AsOften (members (submissions entries)) (points_of t)) where
    abbrev entry : Entry
    entry = added caller stamp p (removed_from (points_of t) p)

    dominates-same : Every (λ (q : Point). dominates point_weakly_dominates p q ≡ weakly_dominates v q.value) (points_of t)
    dominates-same = Every-map (λ (q : Point). weakly_dominates q.value v ≡ false) (λ (q : Point). dominates point_weakly_dominates p q ≡ weakly_dominates v q.value)
        (λ q under. ap (λ s. weakly_dominates v q.value && not s) under ∙ strict (weakly_dominates v q.value)) (points_of t) none_over
      where
        strict : (s : Bool) → (s && true) ≡ s
        strict true = refl
        strict false = refl

    due : IsRight objectives entry entries
    due = record {
      due = added-due (submissions entries) (points_of t) often p (removed_from (points_of t) p) may.uncovered
          (ap (λ n. min n (2 ^ 32 - 1)) (sym (length-filter (λ (q : Point). weakly_dominates v q.value) (points_of t))
          ∙ ap length (sym (filter-alike (dominates point_weakly_dominates p) (λ (q : Point). weakly_dominates v q.value) (points_of t) dominates-same))));
      parts = may.parts;
    }

    more : AsOften (members (submissions (entries ++ entry ∷ []))) (points_of after)
    more test =
        ap (λ points. how_many test (members points)) (submissions-append entries (entry ∷ []))
        ∙ added-grows (submissions entries) (points_of t) often p may.uncovered test
        ∙ ap (λ points. how_many test (points ++ p ∷ []))
        (filter-alike (λ (q : Point). not (dominates point_weakly_dominates p q)) (stays v) (points_of t)
        (Every-map (λ (q : Point). dominates point_weakly_dominates p q ≡ weakly_dominates v q.value) (λ (q : Point). not (dominates point_weakly_dominates p q) ≡ stays v q) (λ q same. ap not same) (points_of t) dominates-same))
        ∙ is_update.points test

    pub stands_for_more : (new_copy : Copy) (named : Nodes) → IsNewTree objectives new p c t named new_copy → IsRight objectives entry entries × StandsFor objectives new_copy (entries ++ entry ∷ [])
    stands_for_more new_copy named is = (due, (named, is.is_tree, subst (AsOften (members (submissions (entries ++ entry ∷ [])))) (sym is.points) more))

pub updates : Updates
updates = λ objectives new p c t may. is_update objectives new p c t may

pub is_written_tree : IsWrittenTree
is_written_tree = λ objectives new p c t named cells root may is rooted. is_new_tree objectives new p c t may named cells root is rooted

pub stands_for : StandsForMore
stands_for = λ objectives new p c new_copy t named entries caller stamp may often is. stands_for_more objectives new p c t may entries caller stamp often new_copy named is
