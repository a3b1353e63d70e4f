-- The point at a leaf: what the pass has written there is the leaf with the point, or an inner node with a leaf for each group; and
-- then the whole tree stands in its rows.
use Rattle.std.proofs.Common.{◌≡◌, ◌≢◌, ℕ, zero, suc, ◌+◌, ◌<◌, ◌≤◌, inl, ⊎_elim, if◌then◌else◌, List, [], ◌∷◌, ◌++◌, length, take, drop, refl, sym, ap, ap₂, subst, ◌∙◌, arith, append-nil, length-append}
use Rattle.std.proofs.lemmas.Bool.{cases_eq, le-leb, lt-leb}
use Rattle.era_core.specs.Lists.{times, In}
use Rattle.era_core.specs.Versions.{Cell, look_up}
use Rattle.era_core.proofs.ListFacts.{times-append, times-head, times-tail, in_tail, in-append_left}
use Rattle.era_rows.specs.Known.{known_words}
use Rattle.era_rows.specs.Passes.{known_of, marked_of}
use Rattle.era_rows.specs.declared.pass.Pass.{Pass}
use Rattle.era_rows.specs.declared.rows.Rows.{Rows}
use Rattle.era_rows.specs.declared.law.Law.{Ghosts}
use Rattle.pls_archive.specs.declared.call.Entry.{Entry}
use Rattle.pls_archive.specs.declared.point.Point.{Point}
use Rattle.pls_archive.specs.Lists.{Every}
use Rattle.pls_archive.proofs.Every.{Every-append, Every-map}
use Rattle.pls_vectors.specs.Box.{Box, box_of}
use Rattle.nd_tree.specs.Split.{split}
use Rattle.nd_rows.specs.declared.layout.TheConstants.{INNER, IDEAL}
use Rattle.nd_rows.specs.Nodes.{Placed, Nodes, no_nodes, leaf, inner, heads, rows_of, rows_with}
use Rattle.nd_rows.specs.Layout.{IsLinkRow, IsBoxRow, IsPointRow, AreWritten}
use Rattle.nd_update.specs.Building.{Does}
use Rattle.nd_update.specs.Insertion.{at_places, box_around, values_with, leaf_box, group_leaves, divided, new_placed, with_point, updated}
use Rattle.nd_update.specs.Naming.{ArePlacedNamed, AreNamed, names_of}
use Rattle.nd_update.specs.Removal.{without_dominated}
use Rattle.nd_update.specs.FilledLeaves.{AreGroupLeaves, leaves_in, IsPut, values_box}
use Rattle.nd_update.specs.Inserted.{IsInserted}
use Rattle.nd_update.specs.Ways.{touched}
use Rattle.nd_update.proofs.Alike.{points-alike}
use Rattle.nd_update.proofs.Descending.{IsFocused}
use Rattle.nd_update.proofs.Descent.{continues_still}
use Rattle.nd_update.proofs.Division.{points-Every, rows-divided}
use Rattle.nd_update.proofs.Filling.{around-values, box_still, taken_apart, still_words, rows_push}
use Rattle.nd_update.proofs.Groups.{Every-places}
use Rattle.nd_update.proofs.Naming.{rows-named, names-new}
use Rattle.nd_update.proofs.Places.{names_written}

-- ---- points that were named

module _ (new : ℕ) where
  named_append : (xs ys xs' ys' : List Placed) → ArePlacedNamed new xs ys → ArePlacedNamed new xs' ys' → ArePlacedNamed new (xs ++ xs') (ys ++ ys')
  named_append [] [] xs' ys' are next = next
  named_append [] (q ∷ ys) xs' ys' are next = absurd are
  named_append (p ∷ xs) [] xs' ys' are next = absurd are
  named_append (p ∷ xs) (q ∷ ys) xs' ys' are next = (are.0, are.1, named_append xs ys xs' ys' are.2 next)

  named_one : (k : ℕ) (xs ys : List Placed) → ArePlacedNamed new xs ys → ArePlacedNamed new (take 1 (drop k xs)) (take 1 (drop k ys))
  named_one zero [] [] are = tt
  named_one (suc k) [] [] are = tt
  named_one k [] (q ∷ ys) are = absurd are
  named_one k (p ∷ xs) [] are = absurd are
  named_one zero (p ∷ xs) (q ∷ ys) are = (are.0, are.1, tt)
  named_one (suc k) (p ∷ xs) (q ∷ ys) are = named_one k xs ys are.2

  named_places : (ks : List ℕ) (xs ys : List Placed) → ArePlacedNamed new xs ys → ArePlacedNamed new (at_places xs ks) (at_places ys ks)
  named_places [] xs ys are = tt
  named_places (k ∷ ks) xs ys are = named_append (take 1 (drop k xs)) (take 1 (drop k ys)) (at_places xs ks) (at_places ys ks) (named_one k xs ys are) (named_places ks xs ys are)

  named_values : (xs ys : List Placed) → ArePlacedNamed new xs ys → values_with ys ≡ values_with xs
  named_values [] [] are = refl
  named_values [] (q ∷ ys) are = absurd are
  named_values (p ∷ xs) [] are = absurd are
  named_values (p ∷ xs) (q ∷ ys) are = ap₂ (λ (x : Point) vs. x.value ∷ vs) are.1 (named_values xs ys are.2)

  named_long : (d : ℕ) (xs ys : List Placed) → ArePlacedNamed new xs ys → Every (λ (q : Placed). length q.point.value ≡ d) ys → Every (λ (q : Placed). length q.point.value ≡ d) xs
  named_long d [] [] are each = tt
  named_long d [] (q ∷ ys) are each = absurd are
  named_long d (p ∷ xs) [] are each = absurd are
  named_long d (p ∷ xs) (q ∷ ys) are each = (subst (λ (x : Point). length x.value ≡ d) are.1 each.0, named_long d xs ys are.2 each.1)

  named_count : (xs ys : List Placed) → ArePlacedNamed new xs ys → length ys ≡ length xs
  named_count [] [] are = refl
  named_count [] (q ∷ ys) are = absurd are
  named_count (p ∷ xs) [] are = absurd are
  named_count (p ∷ xs) (q ∷ ys) are = ap suc (named_count xs ys are.2)

  named_around : (xs ys : List Placed) → ArePlacedNamed new xs ys → box_around ys ≡ box_around xs
  named_around xs ys are = around-values ys ∙ ap values_box (named_values xs ys are) ∙ sym (around-values xs)

  -- the leaves of the groups
  module _ (objectives : ℕ) (cells : List Cell) (xs ys : List Placed) (are : ArePlacedNamed new xs ys) where
    pub groups_named : (leaves : List ℕ) (groups : List (List ℕ)) → AreGroupLeaves objectives cells ys leaves groups → AreNamed new (group_leaves new xs groups) (leaves_in leaves ys groups)
    groups_named [] [] is = tt
    groups_named [] (ks ∷ groups) is = absurd is
    groups_named (row ∷ leaves) [] is = absurd is
    groups_named (row ∷ leaves) (ks ∷ groups) is =
        let here = named_places ks xs ys are in (inl refl, named_around (at_places xs ks) (at_places ys ks) here, here, groups_named leaves groups is.1)

module _ (objectives : ℕ) (cells : List Cell) (ys : List Placed) where
  groups_heads : (leaves : List ℕ) (groups : List (List ℕ)) → AreGroupLeaves objectives cells ys leaves groups → heads (leaves_in leaves ys groups) ≡ leaves
  groups_heads [] [] is = refl
  groups_heads [] (ks ∷ groups) is = absurd is
  groups_heads (row ∷ leaves) [] is = absurd is
  groups_heads (row ∷ leaves) (ks ∷ groups) is = ap (λ xs. row ∷ xs) (groups_heads leaves groups is.1)

  groups_written : Every (IsPointRow objectives cells) ys → (leaves : List ℕ) (groups : List (List ℕ)) → AreGroupLeaves objectives cells ys leaves groups → AreWritten objectives cells (leaves_in leaves ys groups)
  groups_written each [] [] is = tt
  groups_written each [] (ks ∷ groups) is = absurd is
  groups_written each (row ∷ leaves) [] is = absurd is
  groups_written each (row ∷ leaves) (ks ∷ groups) is = (is.0.links, is.0.boxed, Every-places (IsPointRow objectives cells) ys ks each, groups_written each leaves groups is.1)

  -- rows of these leaves are the leaves, and what is below them whatever row they have
  groups_rows : (x other : ℕ) → x ≢ other → (leaves : List ℕ) (groups : List (List ℕ)) → AreGroupLeaves objectives cells ys leaves groups
      → times x (rows_of (leaves_in leaves ys groups)) ≡ times x leaves + times x (rows_of (group_leaves other ys groups))
  groups_rows x other apart [] [] is = refl
  groups_rows x other apart [] (ks ∷ groups) is = absurd is
  groups_rows x other apart (row ∷ leaves) [] is = absurd is
  groups_rows x other apart (row ∷ leaves) (ks ∷ groups) is =
      let rest = groups_rows x other apart leaves groups is.1 in
      let a = times-append x (rows_with (at_places ys ks)) (rows_of (leaves_in leaves ys groups)) in
      let b = times-append x (rows_with (at_places ys ks)) (rows_of (group_leaves other ys groups)) in
      let c = times-tail x other (rows_with (at_places ys ks) ++ rows_of (group_leaves other ys groups)) apart in omega arith

divided_fits : (new : ℕ) (b : Box) (placed : List Placed) (later : Nodes) → length placed ≤ 20 → divided new b placed later ≡ leaf new b placed later
divided_fits new b placed later few = ap (λ s. if s then leaf new b placed later else inner new b (group_leaves new placed (split (values_with placed))) later) (le-leb (length placed) 20 few)

divided_full : (new : ℕ) (b : Box) (placed : List Placed) (later : Nodes) → 20 < length placed → divided new b placed later ≡ inner new b (group_leaves new placed (split (values_with placed))) later
divided_full new b placed later many = ap (λ s. if s then leaf new b placed later else inner new b (group_leaves new placed (split (values_with placed))) later) (lt-leb (length placed) 20 many)

next_other : (x : ℕ) → x ≢ suc x
next_other x e = omega (arith, e)

-- ---- the point is put into the leaf

module _ {L : Type 0} {G : Ghosts L Entry} (r : Rows L Entry) (objectives : ℕ) (point : Point) (t : Nodes) (p q : Pass L Entry G) (row root steps at : ℕ) (leaves : List ℕ) (one : Does r (at ∷ leaves) [] (row ∷ at ∷ leaves) p q)
    (some : 2 ≤ objectives) (few : objectives ≤ 4) (long : length point.value ≡ objectives) where
  abbrev new : ℕ
  new = r.rows

  abbrev now : List Cell
  now = known_words (known_of q)

  abbrev here_placed : Placed
  here_placed = record { row = at; point = point }

  module _ (r₀ : ℕ) (b₀ b : Box) (placed₀ placed : List Placed) (outer outside : List ℕ) (is : IsFocused objectives r.rows point t (known_of p) (marked_of p) row root steps (leaf r₀ b₀ placed₀ no_nodes) (leaf row b placed no_nodes) outer outside)
      (put : IsPut objectives (known_words (known_of q)) row placed point at leaves) (kept : (k : ℕ) → IDEAL ≤ k → look_up (known_words (known_of q)) row k ≡ look_up (known_words (known_of p)) row k) where
    abbrev all : List Placed
    all = placed ++ here_placed ∷ []

    abbrev all₀ : List Placed
    all₀ = placed₀ ++ new_placed new point ∷ []

    abbrev box₀ : Box
    box₀ = leaf_box b₀ placed₀ point.value

    abbrev before : Nodes
    before = leaf row b placed no_nodes

    abbrev before₀ : Nodes
    before₀ = touched new point.value (leaf r₀ b₀ placed₀ no_nodes)

    are_all : ArePlacedNamed new all₀ all
    are_all = named_append new placed₀ placed (new_placed new point ∷ []) (here_placed ∷ []) is.is_named.2 (inl refl, refl, tt)

    boxed : IsBoxRow objectives now row b
    boxed = box_still objectives (known_words (known_of p)) now row b kept (there placed₀ placed is.is_named.2 is.is_named.1 is.node.nodes.written.1 is.boxed)
      where
        there : (xs ys : List Placed) → ArePlacedNamed new xs ys → b ≡ leaf_box b₀ xs point.value → (0 < length ys → IsBoxRow objectives (known_words (known_of p)) row b)
            → (length ys ≡ 0 → IsBoxRow objectives (known_words (known_of p)) row (box_of point.value)) → IsBoxRow objectives (known_words (known_of p)) row b
        there [] [] are e full empty = subst (IsBoxRow objectives (known_words (known_of p)) row) (sym e) (empty refl)
        there [] (y ∷ ys) are e full empty = full (omega arith)
        there (x ∷ xs) [] are e full empty = absurd are
        there (x ∷ xs) (y ∷ ys) are e full empty = full (omega arith)

    row_apart : (x : ℕ) → In x (rows_with placed) → x ≢ row
    row_apart x here same =
        let once = is.node.nodes.once row in
        let head = times-head row (rows_with placed ++ []) in
        let both = times-append row (rows_with placed) [] in
        let e = ap (λ y. times y (rows_with placed)) same in omega (arith, once, head, both, e, here)

    placed_apart : (x : ℕ) → In x (rows_with placed) → times x (row ∷ at ∷ leaves) ≡ 0
    placed_apart x here =
        times-tail x row (at ∷ leaves) (row_apart x here)
        ∙ taken_apart r (at ∷ leaves) [] (row ∷ at ∷ leaves) p q one x (is.node.nodes.readable x (in_tail x row (rows_with placed ++ []) (in-append_left x (rows_with placed) [] here)))

    points : Every (IsPointRow objectives now) all
    points =
        Every-append (IsPointRow objectives now) placed (here_placed ∷ [])
        (points-alike objectives (known_words (known_of p)) now placed (λ x here. still_words r (at ∷ leaves) [] (row ∷ at ∷ leaves) p q one objectives x (placed_apart x here)) is.node.nodes.written.2)
        (put.point, tt)

    all_long : Every (λ (y : Placed). length y.point.value ≡ objectives) all
    all_long = Every-map (IsPointRow objectives now) (λ (y : Placed). length y.point.value ≡ objectives) (λ y has. has.value.parts) all points

    all_long₀ : Every (λ (y : Placed). length y.point.value ≡ objectives) all₀
    all_long₀ = named_long new objectives all₀ all are_all all_long

    rows_all : (x : ℕ) → times x (rows_with all) ≡ times x (rows_with placed) + times x (at ∷ [])
    rows_all x = ap (times x) (rows_push placed here_placed) ∙ times-append x (rows_with placed) (at ∷ [])

    rows_before : (x : ℕ) → times x (rows_of before) ≡ times x (row ∷ []) + times x (rows_with placed)
    rows_before x = let both = times-append x (rows_with placed) [] in omega arith

    -- rows that were known before
    rows₀ : (x : ℕ) → x ≢ new → times x (rows_of (divided new box₀ all₀ no_nodes)) ≡ times x (rows_of before₀)
    rows₀ x other =
        let all = rows-divided new objectives some few box₀ all₀ no_nodes (points-Every (λ (y : Point). length y.value ≡ objectives) all₀ all_long₀) x other in
        let push = ap (times x) (rows_push placed₀ (new_placed new point)) in
        let both = times-append x (rows_with placed₀) (new ∷ []) in
        let none = times-tail x new [] other in
        let head = times-tail x new (rows_with placed₀ ++ []) other in
        let end = times-append x (rows_with placed₀) [] in omega arith

    -- what stands in the row now
    record IsLanded (ms : Nodes) : Type 0 where
      pub is_named : AreNamed new (with_point new point (leaf r₀ b₀ placed₀ no_nodes) 0) ms
      pub rooted : heads ms ≡ row ∷ []
      pub written : AreWritten objectives now ms
      pub rows : (x : ℕ) → times x (rows_of ms) ≡ times x (rows_of before) + times x (at ∷ leaves)

    fits : length placed < 20 → IsLanded (leaf row b all no_nodes)
    fits low =
        let links = put.fits low in
        let same = named_count new all₀ all are_all in
        let both = length-append placed (here_placed ∷ []) in
        record {
          is_named = subst (λ ns. AreNamed new ns (leaf row b all no_nodes)) (sym (divided_fits new box₀ all₀ no_nodes (omega arith))) (inl refl, is.is_named.1, are_all, tt);
          rooted = refl;
          written = (links.1, (λ full. boxed), points, tt);
          rows = λ x.
              let a = rows_all x in
              let c = rows_before x in
              let d = times-append x (rows_with all) [] in
              let e = ap (λ xs. times x (at ∷ xs)) links.0 in omega arith;
        }

    full : length placed ≡ 20 → IsLanded (inner row b (leaves_in leaves all (split (values_with all))) no_nodes)
    full many =
        let groups = split (values_with all) in
        let div = put.full many in
        let same = named_count new all₀ all are_all in
        let both = length-append placed (here_placed ∷ []) in
        let values = ap (λ vs. split vs) (named_values new all₀ all are_all) in
        record {
          is_named = subst (λ ns. AreNamed new ns (inner row b (leaves_in leaves all groups) no_nodes)) (sym (divided_full new box₀ all₀ no_nodes (omega arith)))
              (inl refl, is.is_named.1, subst (λ ks. AreNamed new (group_leaves new all₀ ks) (leaves_in leaves all groups)) values (groups_named new objectives now all₀ all are_all leaves groups div.leaves_are), tt);
          rooted = refl;
          written = (subst (IsLinkRow now INNER row) (sym (groups_heads objectives now all leaves groups div.leaves_are)) div.links, boxed, groups_written objectives now all points leaves groups div.leaves_are, tt);
          rows = λ x.
              let other : x ≢ suc x = next_other x in
              let a = rows_all x in
              let c = rows_before x in
              let d = times-append x (rows_of (leaves_in leaves all groups)) [] in
              let e = groups_rows objectives now all x (suc x) other leaves groups div.leaves_are in
              let f = rows-divided (suc x) objectives some few b all no_nodes (points-Every (λ (y : Point). length y.value ≡ objectives) all all_long) x other in
              let g = ap (λ ns. times x (rows_of ns)) (divided_full (suc x) b all no_nodes (omega arith)) in
              let h = times-tail x (suc x) (rows_of (group_leaves (suc x) all groups) ++ []) other in
              let i = times-append x (rows_of (group_leaves (suc x) all groups)) [] in omega arith;
        }

    -- the names are those before, and the rows that were taken
    names : (ms : Nodes) → IsLanded ms → (x : ℕ) → times x (names_of new (with_point new point (leaf r₀ b₀ placed₀ no_nodes) 0) ms) ≡ times x (names_of new before₀ before) + times x (at ∷ leaves)
    names ms land x =
        ⊎_elim
        (λ e. subst (λ y. times y (names_of new (with_point new point (leaf r₀ b₀ placed₀ no_nodes) 0) ms) ≡ times y (names_of new before₀ before) + times y (at ∷ leaves)) (sym e)
        (let a = names-new new (divided new box₀ all₀ no_nodes) ms land.is_named in let c = names-new new before₀ before is.is_named in let d = land.rows new in omega arith))
        (λ other. let a = rows-named new x other (divided new box₀ all₀ no_nodes) ms land.is_named in let c = rows-named new x other before₀ before is.is_named in let d = land.rows x in let e = rows₀ x other in omega arith)
        (cases_eq x new)

    outside_apart : (x : ℕ) → In x outside → times x (row ∷ at ∷ leaves) ≡ 0
    outside_apart x here =
        let other : x ≢ row = λ same. (let apart = is.apart row in let e = ap (λ y. times y outside) same in let mine = rows_before row in let head = times-head row [] in omega (arith, apart, e, mine, head, here)) in
        times-tail x row (at ∷ leaves) other ∙ taken_apart r (at ∷ leaves) [] (row ∷ at ∷ leaves) p q one x (is.beside x here)

    landed_leaf : (ms : Nodes) → IsLanded ms → IsInserted r.rows objectives point t now (known_of q).core.fresh (marked_of q) root
    landed_leaf ms land =
        let goes =
        continues_still objectives new point (without_dominated new point.value t) (known_words (known_of p)) now (leaf r₀ b₀ placed₀ no_nodes) row root outer outside
        (λ x out. still_words r (at ∷ leaves) [] (row ∷ at ∷ leaves) p q one objectives x (outside_apart x out)) is.goes in
        let whole = goes ms land.is_named land.rooted in
        record {
          named = whole.0;
          is_named = whole.1;
          written = names_written new objectives now (updated new point t) whole.0 whole.1 (whole.4 now (λ x out k w there. there) land.written);
          rooted = whole.2;
          taken_are = λ x.
              let f = ap (times x) one.fresh in
              let g = times-append x (known_of p).core.fresh (at ∷ leaves) in
              let fresh = is.fresh_are x in
              let mine = names ms land x in
              let sum = whole.3 x in omega arith;
          marked_are = λ x.
              let m = ap (times x) (one.marks ∙ append-nil (marked_of p)) in
              let marks = is.marked_are x in omega arith;
        }

    landed_here : length placed ≤ 20 → IsInserted r.rows objectives point t now (known_of q).core.fresh (marked_of q) root
    landed_here low = by_count (length placed) refl low
      where
        by_count : (n : ℕ) → length placed ≡ n → n ≤ 20 → IsInserted r.rows objectives point t now (known_of q).core.fresh (marked_of q) root
        by_count n same low =
            ⊎_elim (λ many. landed_leaf (inner row b (leaves_in leaves all (split (values_with all))) no_nodes) (full (same ∙ many)))
            (λ other. landed_leaf (leaf row b all no_nodes) (fits (less n same low other))) (cases_eq n 20)
          where
            less : (n : ℕ) → length placed ≡ n → n ≤ 20 → n ≢ 20 → length placed < 20
            less n same low other = omega (arith, same, low, other)

  -- the same of any node
  pub landed : (ns : Nodes) (b : Box) (placed : List Placed) (outer outside : List ℕ) → IsFocused objectives r.rows point t (known_of p) (marked_of p) row root steps ns (leaf row b placed no_nodes) outer outside
      → IsPut objectives now row placed point at leaves → ((k : ℕ) → IDEAL ≤ k → look_up now row k ≡ look_up (known_words (known_of p)) row k) → IsInserted r.rows objectives point t now (known_of q).core.fresh (marked_of q) root
  landed no_nodes b placed outer outside is put kept = absurd is.is_named
  landed (inner r₀ b₀ kids later) b placed outer outside is put kept = absurd is.is_named
  landed (leaf r₀ b₀ placed₀ (leaf r₁ b₁ placed₁ later)) b placed outer outside is put kept = absurd is.is_named.3
  landed (leaf r₀ b₀ placed₀ (inner r₁ b₁ kids later)) b placed outer outside is put kept = absurd is.is_named.3
  landed (leaf r₀ b₀ placed₀ no_nodes) b placed outer outside is put kept = landed_here r₀ b₀ b placed₀ placed outer outside is put kept is.node.nodes.fit.0
