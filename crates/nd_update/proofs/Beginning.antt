-- What is left of a tree, as a pass finds it in its rows: different ones, which it may read, with the boxes of their points.
use Rattle.std.proofs.Common.{◌≡◌, ◌≢◌, ℕ, zero, suc, not, ◌+◌, ◌<◌, ◌≤◌, inl, inr, ⊎_elim, List, [], ◌∷◌, ◌++◌, length, get_or, Some, refl, sym, ap, subst, ◌∙◌, arith}
use Rattle.std.proofs.lemmas.Bool.{cases_eq}
use Rattle.era_core.specs.declared.sizes.TheConstants.{MOST_ROWS}
use Rattle.era_core.specs.Lists.{times, In}
use Rattle.era_core.proofs.ListFacts.{times-append, in_head}
use Rattle.era_core.specs.Versions.{Copy}
use Rattle.era_rows.specs.Known.{pinned_copy, known_words}
use Rattle.era_rows.specs.Passes.{known_of, marked_of, IsReadable}
use Rattle.era_rows.specs.declared.pass.Pass.{Pass}
use Rattle.era_rows.specs.declared.rows.Rows.{Rows}
use Rattle.era_rows.specs.declared.law.Law.{Ghosts}
use Rattle.pls_archive.specs.declared.call.Entry.{Entry}
use Rattle.pls_archive.specs.declared.point.Point.{Point}
use Rattle.pls_archive.specs.Lists.{Every}
use Rattle.pls_archive.proofs.Every.{Every-left, Every-right, Every-append, Every-filter}
use Rattle.pls_vectors.specs.Box.{Box}
use Rattle.nd_rows.specs.Nodes.{Placed, Nodes, no_nodes, leaf, inner, heads, rows_of, rows_with, points_of, points_with, Encloses, AreBoxed, AreFormed, IsEmptyLeaf}
use Rattle.nd_rows.specs.Layout.{IsBoxRow, IsPointRow, AreWritten}
use Rattle.nd_update.specs.Building.{IsBuilding, Does}
use Rattle.nd_update.specs.Removal.{without_dominated, dropped}
use Rattle.nd_update.specs.Naming.{AreNamed, names_of}
use Rattle.nd_update.specs.Updates.{MayUpdate}
use Rattle.nd_update.specs.Left.{IsLeft}
use Rattle.nd_update.specs.Ways.{IsBox, HaveSome, AreFit, HasNode, IsOwned, touched, touched_box}
use Rattle.nd_update.proofs.Alike.{written-alike}
use Rattle.nd_update.specs.Insertion.{way}
use Rattle.nd_update.proofs.Arriving.{ahead, named_touched, arrives}
use Rattle.nd_update.proofs.Building.{pinned_words, still_pinned}
use Rattle.era_core.proofs.Room.{length-below}
use Rattle.nd_update.proofs.FullLeaves.{readable_low}
use Rattle.nd_update.proofs.Touching.{node_alone, count_touched}
use Rattle.nd_update.proofs.Descending.{IsAt}
use Rattle.nd_update.proofs.Descent.{continues_first}
use Rattle.nd_update.proofs.Enclosed.{is_box, box_parts}
use Rattle.nd_update.proofs.Kept.{kept-without}
use Rattle.nd_update.proofs.Naming.{length-placed, heads-named, rows-named, names-new, written-named}
use Rattle.nd_update.proofs.Removal.{points-without, boxed-without, formed-without}
use Rattle.pls_vectors.specs.Dominance.{weakly_dominates}
use Rattle.nd_update.proofs.RemovedRows.{some_points, dropped-rows}

-- ---- boxes of nodes with points

box_of_some : (d : ℕ) (b : Box) (points : List Point) → 0 < length points → Every (λ (p : Point). length p.value ≡ d) points → Encloses b points → IsBox d b
box_of_some d b [] some parts box = absurd (omega arith)
box_of_some d b (p ∷ points) some parts box = record { long = box_parts b p.value box.all.0 ∙ parts.0; ordered = is_box b p.value box.all.0 }

some_with : (placed : List Placed) → 0 < length placed → 0 < length (points_with placed)
some_with [] some = absurd (omega arith)
some_with (p ∷ placed) some = omega arith

some_formed : (d : ℕ) (ns : Nodes) → AreFormed d ns → HaveSome ns
some_formed d no_nodes formed = tt
some_formed d (leaf r b placed later) formed = ((let one = formed.0 in omega arith), some_formed d later formed.2)
some_formed d (inner r b kids later) formed = some_formed d later formed.4

some_named : (new : ℕ) (ns ms : Nodes) → AreNamed new ns ms → HaveSome ns → HaveSome ms
some_named new no_nodes no_nodes are some = tt
some_named new no_nodes (leaf name box named others) are some = absurd are
some_named new no_nodes (inner name box named others) are some = absurd are
some_named new (leaf r b placed later) no_nodes are some = absurd are
some_named new (leaf r b placed later) (leaf name box named others) are some = ((let long = length-placed new placed named are.2 in let one = some.0 in omega arith), some_named new later others are.3 some.1)
some_named new (leaf r b placed later) (inner name box named others) are some = absurd are
some_named new (inner r b kids later) no_nodes are some = absurd are
some_named new (inner r b kids later) (leaf name box named others) are some = absurd are
some_named new (inner r b kids later) (inner name box named others) are some = some_named new later others are.3 some

pub fit_formed : (d : ℕ) → d ≤ 4 → (ns : Nodes) → AreFormed d ns → AreBoxed ns → Every (λ (p : Point). length p.value ≡ d) (points_of ns) → AreFit d ns
fit_formed d few no_nodes formed boxed parts = tt
fit_formed d few (leaf r b placed later) formed boxed parts = (
  formed.1,
  (λ some. box_of_some d b (points_with placed) (some_with placed some) (Every-left _ (points_with placed) (points_of later) parts) boxed.0),
  fit_formed d few later formed.2 boxed.1 (Every-right _ (points_with placed) (points_of later) parts),
)
fit_formed d few (inner r b kids later) formed boxed parts =
    let two = formed.0 in
    let most = formed.1 in
    let mine = Every-left (λ (p : Point). length p.value ≡ d) (points_of kids) (points_of later) parts in (
      two,
      omega arith,
      box_of_some d b (points_of kids) (some_points d kids formed.3 (omega arith)) mine boxed.0,
      some_formed d kids formed.3,
      fit_formed d few kids formed.3 boxed.1 mine,
      fit_formed d few later formed.4 boxed.2 (Every-right _ (points_of kids) (points_of later) parts),
    )

pub fit_named : (new d : ℕ) (ns ms : Nodes) → AreNamed new ns ms → AreFit d ns → AreFit d ms
fit_named new d no_nodes no_nodes are fit = tt
fit_named new d no_nodes (leaf name box named others) are fit = absurd are
fit_named new d no_nodes (inner name box named others) are fit = absurd are
fit_named new d (leaf r b placed later) no_nodes are fit = absurd are
fit_named new d (leaf r b placed later) (leaf name box named others) are fit =
    let long = length-placed new placed named are.2 in
    let few = fit.0 in
    (omega arith, (λ some. subst (IsBox d) (sym are.1) (fit.1 (omega arith))), fit_named new d later others are.3 fit.2)
fit_named new d (leaf r b placed later) (inner name box named others) are fit = absurd are
fit_named new d (inner r b kids later) no_nodes are fit = absurd are
fit_named new d (inner r b kids later) (leaf name box named others) are fit = absurd are
fit_named new d (inner r b kids later) (inner name box named others) are fit =
    let long = heads-named new kids named are.2 in
    let two = fit.0 in
    let few = fit.1 in
    (omega arith, omega arith, subst (IsBox d) (sym are.1) fit.2, some_named new kids named are.2 fit.3, fit_named new d kids named are.2 fit.4, fit_named new d later others are.3 fit.5)

-- ---- what is left

module _ {L : Type 0} {G : Ghosts L Entry} (r : Rows L Entry) (objectives : ℕ) (point : Point) (p : Pass L Entry G) (building : IsBuilding r p) (t : Nodes) (may : MayUpdate objectives r.rows point (pinned_copy (known_of p)) t)
    (removed root : ℕ) (is_left : IsLeft r.rows point.value objectives t (known_words (known_of p)) (known_of p).core.fresh (marked_of p) (Some root) removed) where
  abbrev pub tree_left : Nodes
  tree_left = without_dominated r.rows point.value t

  abbrev pub named_left : Nodes
  named_left = is_left.named

  tree_rows : (x : ℕ) → times x (pinned_copy (known_of p)).rows ≡ times x (rows_of t)
  tree_rows x = ap (times x) may.is_tree.rows_are

  no_new : times r.rows (rows_of t) ≡ 0
  no_new = sym (tree_rows r.rows) ∙ may.no_row

  tree_written : AreWritten objectives (known_words (known_of p)) t
  tree_written =
      written-alike objectives (pinned_copy (known_of p)).cells (known_words (known_of p)) t
      (λ x here k w there. pinned_words r p building x (let same = tree_rows x in omega (arith, same, here)) k ∙ there) may.is_tree.written

  pub left_written : AreWritten objectives (known_words (known_of p)) named_left
  left_written =
      written-named r.rows objectives (known_words (known_of p)) tree_left named_left is_left.settled.is_named (kept-without r.rows objectives (known_words (known_of p)) point.value t tree_written no_new) is_left.settled.written

  pub left_pinned : (x : ℕ) → In x (rows_of tree_left) → x ≢ r.rows → In x (pinned_copy (known_of p)).rows
  left_pinned x here other = let both = dropped-rows point.value r.rows x other t in let same = tree_rows x in omega (arith, both, same, here)

  pub left_named : (x : ℕ) → In x (names_of r.rows tree_left named_left) → In x (known_of p).core.fresh
  left_named x here = let same = is_left.settled.taken_are x in omega (arith, same, here)

  new_not_fresh : times r.rows (known_of p).core.fresh ≡ 0
  new_not_fresh = no_some (times r.rows (known_of p).core.fresh) (λ some. let low = building.inside r.rows some in omega arith)
    where
      no_some : (n : ℕ) → (0 < n → ⊥) → n ≡ 0
      no_some zero none = refl
      no_some (suc n) none = absurd (none (omega arith))

  left_rows : (x : ℕ) → (times x (rows_of named_left) ≤ times x (pinned_copy (known_of p)).rows + times x (known_of p).core.fresh)
  left_rows x =
      ⊎_elim
      (λ e. let names = names-new r.rows tree_left named_left is_left.settled.is_named in let taken = is_left.settled.taken_are r.rows in let none = new_not_fresh in
      subst (λ y. times y (rows_of named_left) ≤ times y (pinned_copy (known_of p)).rows + times y (known_of p).core.fresh) (sym e) (omega (arith, names, taken, none)))
      (λ other.
      let both = dropped-rows point.value r.rows x other t in
      let same = tree_rows x in
      let names = rows-named r.rows x other tree_left named_left is_left.settled.is_named in
      let taken = is_left.settled.taken_are x in omega (arith, both, same, names, taken)) (cases_eq x r.rows)

  pub left_readable : (x : ℕ) → In x (rows_of named_left) → IsReadable x (known_of p)
  left_readable x here = by_count (times x (known_of p).core.fresh) refl
    where
      by_count : (n : ℕ) → n ≡ times x (known_of p).core.fresh → IsReadable x (known_of p)
      by_count zero none = inr (let few = left_rows x in omega (arith, few, here, none))
      by_count (suc n) some = inl (omega (arith, some))

  pub left_once : (x : ℕ) → times x (rows_of named_left) ≤ 1
  left_once x = by_count (times x (known_of p).core.fresh) refl
    where
      by_count : (n : ℕ) → n ≡ times x (known_of p).core.fresh → times x (rows_of named_left) ≤ 1
      by_count zero none = let few = left_rows x in let one = may.is_tree.once x in omega (arith, few, one, none)
      by_count (suc n) some = let few = left_rows x in let one = building.once x in let unread = building.unread x (omega (arith, some)) in omega (arith, few, one, unread)

  left_parts : Every (λ (q : Point). length q.value ≡ objectives) (points_of tree_left)
  left_parts =
      subst (Every (λ (q : Point). length q.value ≡ objectives)) (sym (points-without point.value r.rows t))
      (Every-filter (λ (q : Point). length q.value ≡ objectives) (λ (q : Point). not (weakly_dominates point.value q.value)) (points_of t) (written_parts t tree_written))
    where
      placed_parts : (placed : List Placed) → Every (IsPointRow objectives (known_words (known_of p))) placed → Every (λ (q : Point). length q.value ≡ objectives) (points_with placed)
      placed_parts [] each = tt
      placed_parts (q ∷ placed) each = (each.0.value.parts, placed_parts placed each.1)

      written_parts : (ns : Nodes) → AreWritten objectives (known_words (known_of p)) ns → Every (λ (q : Point). length q.value ≡ objectives) (points_of ns)
      written_parts no_nodes written = tt
      written_parts (leaf x b placed later) written = Every-append _ (points_with placed) (points_of later) (placed_parts placed written.2) (written_parts later written.3)
      written_parts (inner x b kids later) written = Every-append _ (points_of kids) (points_of later) (written_parts kids written.2) (written_parts later written.3)

  tree_fit : AreFit objectives tree_left
  tree_fit = ⊎_elim (λ empty. by_empty t empty) (λ formed.
      fit_formed objectives may.few tree_left (formed-without point.value r.rows objectives t formed) (boxed-without point.value r.rows t may.is_tree.boxed) left_parts) may.is_tree.formed
    where
      by_empty : (ns : Nodes) → IsEmptyLeaf ns → AreFit objectives (without_dominated r.rows point.value ns)
      by_empty no_nodes empty = absurd empty
      by_empty (inner x b kids later) empty = absurd empty
      by_empty (leaf x b (q ∷ placed) later) empty = absurd (let n = ap length empty.0 in omega arith)
      by_empty (leaf x b [] no_nodes) empty = ((omega arith), (λ some. absurd (omega arith)), tt)
      by_empty (leaf x b [] (leaf y b' placed later)) empty = absurd (let n = ap (λ ns. length (heads ns)) empty.1 in omega arith)
      by_empty (leaf x b [] (inner y b' kids later)) empty = absurd (let n = ap (λ ns. length (heads ns)) empty.1 in omega arith)

  -- the root of what is left
  pub left_node : HasNode objectives (known_of p) root named_left
  left_node = record {
    nodes = record {
      written = left_written;
      fit = fit_named r.rows objectives tree_left named_left is_left.settled.is_named tree_fit;
      readable = left_readable;
      once = left_once;
    };
    here = is_left.rooted root refl;
  }

  -- where the root is a row of the pinned tree, it is not marked
  pub root_unmarked : In root (pinned_copy (known_of p)).rows → times root (marked_of p) ≡ 0
  root_unmarked here =
      let other : root ≢ r.rows = λ e. (let none = may.no_row in let same = subst (λ x. In x (pinned_copy (known_of p)).rows) e here in omega (arith, none, same)) in
      let inside : In root (rows_of named_left) = head_in named_left (is_left.rooted root refl) in
      let names = rows-named r.rows root other tree_left named_left is_left.settled.is_named in
      let taken = is_left.settled.taken_are root in
      let fresh : times root (known_of p).core.fresh ≡ 0 = no_some (times root (known_of p).core.fresh) (λ some. let unread = building.unread root some in omega (arith, unread, here)) in
      let both = dropped-rows point.value r.rows root other t in
      let once = may.is_tree.once root in
      let same = tree_rows root in
      let marks = is_left.settled.marked_are root in
      omega (arith, inside, names, taken, fresh, both, once, same, marks)
    where
      no_some : (n : ℕ) → (0 < n → ⊥) → n ≡ 0
      no_some zero none = refl
      no_some (suc n) none = absurd (none (omega arith))

      head_in : (ms : Nodes) → heads ms ≡ root ∷ [] → In root (rows_of ms)
      head_in no_nodes e = absurd (let n = ap length e in omega arith)
      head_in (leaf x b placed later) e = subst (λ y. In y (x ∷ (rows_with placed ++ rows_of later))) (ap (λ ys. get_or ys 0 0) e) (in_head x (rows_with placed ++ rows_of later))
      head_in (inner x b kids later) e = subst (λ y. In y (x ∷ (rows_of kids ++ rows_of later))) (ap (λ ys. get_or ys 0 0) e) (in_head x (rows_of kids ++ rows_of later))

  -- the point at the root, which got a row of the pass
  module _ (q : Pass L Entry G) (own : ℕ) (taken marked : List ℕ) (one : Does r taken marked (own ∷ []) p q) (owned : IsOwned (known_of p) root own taken marked) (node : HasNode objectives (known_of q) own (touched own point.value named_left))
      (box : IsBoxRow objectives (known_words (known_of q)) own (touched_box point.value named_left)) (low : length (rows_of (touched own point.value named_left)) ≤ MOST_ROWS) where
    counts : (x : ℕ) → (times x (names_of r.rows (touched r.rows point.value tree_left) (touched own point.value named_left)) ≡ times x (names_of r.rows tree_left named_left) + times x taken)
        × (times x (way r.rows point.value tree_left 0) ≡ times x marked + times x (ahead r.rows point.value tree_left))
    counts x = arrives r.rows point.value (known_of p) building.unread root own taken marked owned x tree_left named_left is_left.settled.is_named (is_left.rooted root refl) left_pinned left_named

    pub begins : IsAt objectives r.rows point t (known_of q) (marked_of q) own own 0
    begins = (
      tree_left,
      touched own point.value named_left,
      (
        [],
        (
          [],
          record {
            is_named = named_touched r.rows point.value own tree_left named_left is_left.settled.is_named;
            node = node;
            known_are = λ x here other. subst (λ (y : Copy). In x y.rows) (sym (still_pinned r taken marked (own ∷ []) p q one)) (left_pinned x here other);
            fresh_are = λ x.
                let f = ap (times x) one.fresh in
                let g = times-append x (known_of p).core.fresh taken in
                let before = is_left.settled.taken_are x in
                let now = (counts x).0 in omega arith;
            marked_are = λ x.
                let f = ap (times x) one.marks in
                let g = times-append x (marked_of p) marked in
                let before = is_left.settled.marked_are x in
                let now = (counts x).1 in
                let all = times-append x (dropped point.value t) (way r.rows point.value tree_left 0) in omega arith;
            apart = λ x. (let once = node.nodes.once x in omega arith);
            beside = λ x here. absurd (let none : In x [] = here in omega (arith, none));
            goes = continues_first objectives r.rows point tree_left (known_words (known_of q)) own;
            boxed = λ none.
                subst (IsBoxRow objectives (known_words (known_of q)) own) (node_alone objectives (known_of p) root named_left point.value left_node (sym (count_touched own point.value named_left) ∙ none)) box;
            onwards = λ x here. here;
            bounded = (let most = low in omega arith);
          },
        ),
      ),
    )

-- a node has no more rows than there may be
pub node_low : {L : Type 0} {G : Ghosts L Entry} (r : Rows L Entry) (p : Pass L Entry G) → IsBuilding r p → (objectives row : ℕ) (ms : Nodes) → HasNode objectives (known_of p) row ms → length (rows_of ms) ≤ MOST_ROWS
node_low r p building objectives row ms has = length-below MOST_ROWS (rows_of ms) has.nodes.once (λ x here. readable_low r p building x (has.nodes.readable x here))
