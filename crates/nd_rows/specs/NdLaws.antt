-- ND-trees in rows meet what the rows ask of a law.
use Rattle.std.proofs.Common.{◌≡◌, ℕ, zero, suc, ◌+◌, ◌*◌, ◌/◌, ◌<◌, ◌≤◌, ◌⊎◌, ⊎_elim, inl, inr, min, true, List, [], ◌∷◌, ◌++◌, length, map, take, refl, sym, ap, subst, ◌∙◌, arith}
use Rattle.std.specs.Prelude.{is_some, unwrap_or, ◌&&◌}
use Rattle.std.proofs.lemmas.Bool.{or_left}
use Rattle.std.proofs.lemmas.List.Folds.{list_any-append}
use Rattle.era_core.specs.declared.sizes.TheConstants.{KINDS, MOST_LINKS}
use Rattle.era_core.specs.Lists.{In}
use Rattle.era_core.specs.Words.{run_of}
use Rattle.era_core.specs.Versions.{Cell, Copy, look_up, known, known_links, Covers}
use Rattle.era_core.proofs.ListFacts.{in_head, in_tail, in_cases, in-append_left, in-append_right}
use Rattle.era_rows.specs.Trees.{first_copy, IsTree}
use Rattle.era_rows.specs.FirstTree.{first_is_tree}
use Rattle.pls_vectors.specs.Dominance.{weakly_dominates}
use Rattle.pls_vectors.specs.Word.{from_word}
use Rattle.pls_archive.specs.Lists.{Every}
use Rattle.pls_archive.specs.History.{submissions}
use Rattle.pls_archive.specs.Reply.{has_value}
use Rattle.pls_archive.specs.declared.call.Entry.{Entry}
use Rattle.pls_archive.proofs.Histories.{submissions-append}
use Rattle.nd_rows.specs.declared.layout.TheConstants.{LEAF, INNER, POINT}
use Rattle.nd_rows.specs.Nodes.{Placed, Nodes, no_nodes, leaf, inner, heads, rows_of, rows_with, AreFormed, IsEmptyLeaf}
use Rattle.nd_rows.specs.Layout.{HasWords, IsLinkRow, IsPointRow, AreWritten, IsTreeOf, IsLawful, StandsFor}
use Rattle.nd_rows.specs.Entries.{is_submitted}

module _ (cells : List Cell) (r : ℕ) where
  run_of-words : (p : ℕ) (ws : List ℕ) → HasWords cells r p ws → run_of (known cells r) p (length ws) ≡ ws
  run_of-words p [] there = refl
  run_of-words p (w ∷ ws) there =
      ap (λ x. x ∷ run_of (known cells r) (p + 1) (length ws)) (ap (λ o. unwrap_or o 0) there.0) ∙ ap (λ xs. w ∷ xs) (run_of-words (p + 1) ws there.1)

  words_known : (p : ℕ) (ws : List ℕ) → HasWords cells r p ws → (k : ℕ) → k < length ws → is_some (look_up cells r (p + k)) ≡ true
  words_known p [] there k low = absurd (omega arith)
  words_known p (w ∷ ws) there zero low = ap (λ i. is_some (look_up cells r i)) (let e : p + 0 ≡ p = omega arith in e) ∙ ap is_some there.0
  words_known p (w ∷ ws) there (suc k) low =
      ap (λ i. is_some (look_up cells r i)) (let e : p + suc k ≡ (p + 1) + k = omega arith in e) ∙ words_known (p + 1) ws there.1 k (omega arith)

  -- what a row of links is to a tree of rows
  module _ (kind : ℕ) (links : List ℕ) (row : IsLinkRow cells kind r links) (is_kind : kind < 4) (few : length links ≤ 39) where
    count : known cells r 0 / KINDS ≡ length links
    count =
        let first : known cells r 0 ≡ 4 * length links + kind = ap (λ o. unwrap_or o 0) row.first in
        let e : known cells r 0 / 4 ≡ length links = omega arith in e

    pub links_are : known_links cells r ≡ links
    links_are =
        ap (λ n. run_of (known cells r) 1 n) (ap (λ n. min MOST_LINKS n) count ∙ (let e : min 39 (length links) ≡ length links = omega arith in e))
        ∙ run_of-words 1 links row.linked

    links_covered : Covers cells r
    links_covered zero low = ap is_some row.first
    links_covered (suc k) low = subst (λ i. is_some (look_up cells r i) ≡ true) (let e : 1 + k ≡ suc k = omega arith in e) (words_known 1 links row.linked k (let n = count in omega arith))

-- the row has few links, each to one of these rows
record IsGood (cells : List Cell) (rows : List ℕ) (r : ℕ) : Type 0 where
  kind : ℕ
  links : List ℕ
  row : IsLinkRow cells kind r links
  is_kind : kind < 4
  few : length links ≤ 39
  inside : (x : ℕ) → In x links → In x rows

good_among : (cells : List Cell) (rows more : List ℕ) (r : ℕ) → ((x : ℕ) → In x rows → In x more) → IsGood cells rows r → IsGood cells more r
good_among cells rows more r among good = record { kind = good.kind; links = good.links; row = good.row; is_kind = good.is_kind; few = good.few; inside = λ x here. among x (good.inside x here) }

pub in-append : (x : ℕ) (xs ys : List ℕ) → In x (xs ++ ys) → In x xs ⊎ In x ys
in-append x [] ys here = inr here
in-append x (z ∷ xs) ys here =
    ⊎_elim (λ e. inl (subst (λ y. In x (y ∷ xs)) e (in_head x xs))) (λ later. ⊎_elim (λ first. inl (in_tail x z xs first)) (λ second. inr second) (in-append x xs ys later)) (in_cases x z (xs ++ ys) here)

-- the nodes are among all rows
heads-rows : (ns : Nodes) (x : ℕ) → In x (heads ns) → In x (rows_of ns)
heads-rows no_nodes x here = here
heads-rows (leaf r b placed later) x here =
    ⊎_elim (λ e. subst (λ y. In x (y ∷ (rows_with placed ++ rows_of later))) e (in_head x (rows_with placed ++ rows_of later)))
    (λ h. in_tail x r (rows_with placed ++ rows_of later) (in-append_right x (rows_with placed) (rows_of later) (heads-rows later x h))) (in_cases x r (heads later) here)
heads-rows (inner r b kids later) x here =
    ⊎_elim (λ e. subst (λ y. In x (y ∷ (rows_of kids ++ rows_of later))) e (in_head x (rows_of kids ++ rows_of later)))
    (λ h. in_tail x r (rows_of kids ++ rows_of later) (in-append_right x (rows_of kids) (rows_of later) (heads-rows later x h))) (in_cases x r (heads later) here)

-- no node has more links than a row has room for
abbrev AreFew : Nodes → Type 0
AreFew no_nodes = Unit {0}
AreFew (leaf r b placed later) = (length placed ≤ 39) × AreFew later
AreFew (inner r b kids later) = (length (heads kids) ≤ 39) × AreFew kids × AreFew later

few_formed : (objectives : ℕ) (ns : Nodes) → AreFormed objectives ns → AreFew ns
few_formed objectives no_nodes formed = tt
few_formed objectives (leaf r b placed later) formed = (let few = formed.1 in omega arith, few_formed objectives later formed.2)
few_formed objectives (inner r b kids later) formed = (formed.2, few_formed objectives kids formed.3, few_formed objectives later formed.4)

few_empty : (ns : Nodes) → IsEmptyLeaf ns → AreFew ns
few_empty no_nodes empty = absurd empty
few_empty (leaf r b placed later) empty = (let none = ap length empty.0 in omega arith, subst AreFew (sym empty.1) tt)
few_empty (inner r b kids later) empty = absurd empty

module _ (objectives : ℕ) (cells : List Cell) where
  good_point : (placed : List Placed) → Every (IsPointRow objectives cells) placed → (x : ℕ) → In x (rows_with placed) → IsGood cells [] x
  good_point [] each x here = absurd (let none : In x [] = here in omega arith)
  good_point (p ∷ placed) each x here =
      ⊎_elim
      (λ e. subst (IsGood cells []) (sym e) (record { kind = POINT; links = []; row = each.0.first; is_kind = omega arith; few = omega arith; inside = λ y none. none }))
      (λ later. good_point placed each.1 x later)
      (in_cases x p.row (rows_with placed) here)

  good_row : (ns : Nodes) → AreWritten objectives cells ns → AreFew ns → (x : ℕ) → In x (rows_of ns) → IsGood cells (rows_of ns) x
  good_row no_nodes written few x here = absurd (let none : In x [] = here in omega arith)
  good_row (leaf r b placed later) written few x here =
      let below = rows_with placed in
      let all = r ∷ (below ++ rows_of later) in
      let in_later : (y : ℕ) → In y (rows_of later) → In y all = λ y h. in_tail y r (below ++ rows_of later) (in-append_right y below (rows_of later) h) in
      ⊎_elim
      (λ e. subst (IsGood cells all) (sym e) (record {
        kind = LEAF;
        links = below;
        row = written.0;
        is_kind = omega arith;
        few = subst (λ n. n ≤ 39) (sym (length_rows placed)) few.0;
        inside = λ y h. in_tail y r (below ++ rows_of later) (in-append_left y below (rows_of later) h);
      }))
      (λ rest. ⊎_elim
      (λ point. good_among cells [] all x (λ y none. absurd (let no : In y [] = none in omega arith)) (good_point placed written.2 x point))
      (λ other. good_among cells (rows_of later) all x in_later (good_row later written.3 few.1 x other))
      (in-append x below (rows_of later) rest))
      (in_cases x r (below ++ rows_of later) here)
    where
      length_rows : (placed : List Placed) → length (rows_with placed) ≡ length placed
      length_rows [] = refl
      length_rows (p ∷ placed) = ap suc (length_rows placed)
  good_row (inner r b kids later) written few x here =
      let below = rows_of kids in
      let all = r ∷ (below ++ rows_of later) in
      let in_kids : (y : ℕ) → In y below → In y all = λ y h. in_tail y r (below ++ rows_of later) (in-append_left y below (rows_of later) h) in
      let in_later : (y : ℕ) → In y (rows_of later) → In y all = λ y h. in_tail y r (below ++ rows_of later) (in-append_right y below (rows_of later) h) in
      ⊎_elim
      (λ e. subst (IsGood cells all) (sym e) (record {
        kind = INNER;
        links = heads kids;
        row = written.0;
        is_kind = omega arith;
        few = few.0;
        inside = λ y h. in_kids y (heads-rows kids y h);
      }))
      (λ rest. ⊎_elim
      (λ kid. good_among cells below all x in_kids (good_row kids written.2 few.1 x kid))
      (λ other. good_among cells (rows_of later) all x in_later (good_row later written.3 few.2 x other))
      (in-append x below (rows_of later) rest))
      (in_cases x r (below ++ rows_of later) here)

-- a lawful tree is a tree of rows
pub is_tree : (objectives : ℕ) (c : Copy) → IsLawful objectives c → IsTree c
is_tree objectives c (t, is) = record {
  once = is.once;
  few = λ r here. let g = good r here in let n = count c.cells r g.kind g.links g.row g.is_kind g.few in let few = g.few in subst (λ n. n ≤ MOST_LINKS) (sym n) few;
  covered = λ r here. let g = good r here in links_covered c.cells r g.kind g.links g.row g.is_kind g.few;
  linked = λ r x here link. let g = good r here in
      subst (In x) (sym is.rows_are) (g.inside x (subst (In x) (links_are c.cells r g.kind g.links g.row g.is_kind g.few) link));
}
  where
    good : (r : ℕ) → In r c.rows → IsGood c.cells (rows_of t) r
    good r here = good_row objectives c.cells t is.written (⊎_elim (few_empty t) (few_formed objectives t) is.formed) r (subst (In r) is.rows_are here)

-- row 0 alone is an empty leaf
abbrev first_leaf : Nodes
first_leaf = leaf 0 (record { ideal = []; nadir = [] }) [] no_nodes

first_reads : (objectives : ℕ) → IsTreeOf objectives first_copy first_leaf
first_reads objectives = record {
  rooted = refl;
  rows_are = refl;
  once = first_is_tree.once;
  written = (record { first = refl; linked = tt }, (λ some. absurd (omega arith)), tt, tt);
  formed = inl (refl, refl);
  boxed = (record { all = tt; corners = tt }, tt);
  apart = refl;
}

pub begins : (objectives : ℕ) → IsLawful objectives first_copy × StandsFor objectives first_copy []
begins objectives = ((first_leaf, first_reads objectives), (first_leaf, first_reads objectives, λ test. refl))

-- what was submitted stays so
pub submitted_lasts : (objectives : ℕ) (words : List ℕ) (entries more : List Entry) → is_submitted objectives words entries ≡ true → is_submitted objectives words (entries ++ more) ≡ true
submitted_lasts objectives words entries more said =
    let v = map from_word (take objectives words) in
    ap (λ points. has_value points v) (submissions-append entries more)
    ∙ (list_any-append (λ p. weakly_dominates p.value v && weakly_dominates v p.value) (submissions entries) (submissions more) ∙ or_left _ _ said)
