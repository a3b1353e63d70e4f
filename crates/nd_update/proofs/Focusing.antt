-- The point at a node, as a pass reads the node's row: what the first word tells, and what is asked before a step.
use Rattle.std.proofs.Common.{◌≡◌, ◌≢◌, ℕ, ◌+◌, ◌*◌, ◌/◌, ◌%◌, ◌≤◌, ⊎_elim, Some, List, [], ◌∷◌, ◌++◌, length, refl, sym, ap, subst, ◌∙◌, arith, append-nil}
use Rattle.era_core.specs.declared.sizes.TheConstants.{KINDS, MOST_ROWS}
use Rattle.era_core.specs.Lists.{times, In}
use Rattle.era_core.specs.Versions.{Copy, look_up}
use Rattle.era_core.proofs.ListFacts.{in_head, in_tail, in-append_left}
use Rattle.era_rows.specs.Known.{Known, pinned_copy, known_words}
use Rattle.era_rows.specs.Passes.{known_of, marked_of}
use Rattle.era_rows.specs.declared.pass.Pass.{Pass}
use Rattle.era_rows.specs.declared.rows.Rows.{Rows}
use Rattle.era_rows.specs.declared.law.Law.{Ghosts}
use Rattle.pls_archive.specs.declared.call.Entry.{Entry}
use Rattle.pls_archive.specs.declared.point.Point.{Point}
use Rattle.pls_vectors.specs.Box.{Box, box_of}
use Rattle.nd_rows.specs.declared.layout.TheConstants.{LEAF, INNER}
use Rattle.nd_rows.specs.Nodes.{Placed, Nodes, no_nodes, leaf, inner, heads, rows_of, rows_with}
use Rattle.nd_update.specs.Building.{IsBuilding, Does}
use Rattle.nd_update.specs.Removal.{without_dominated}
use Rattle.nd_update.specs.Updates.{MayUpdate}
use Rattle.nd_update.specs.FilledLeaves.{HasLinked}
use Rattle.nd_update.specs.Ways.{HasNode, IsOwned, IsStepped, child_row}
use Rattle.nd_update.proofs.Alike.{box-alike}
use Rattle.nd_update.proofs.Building.{still_readable, still_pinned, still_fresh, now_fresh}
use Rattle.nd_update.proofs.Descending.{IsFocused, IsAt}
use Rattle.nd_update.proofs.Descent.{continues_still}
use Rattle.nd_update.proofs.Filling.{still_words}
use Rattle.nd_update.proofs.Owning.{node_count}
use Rattle.nd_update.proofs.Stepping.{step_taken, child_way}
use Rattle.nd_update.proofs.Touching.{node_still, node_first, same_head}
use Rattle.nd_update.proofs.Updates.{updates}

-- a node that got a row of the pass stands in a fresh row
pub owned_fresh : {L : Type 0} {G : Ghosts L Entry} (r : Rows L Entry) (row own : ℕ) (taken marked changed : List ℕ) (p q : Pass L Entry G) → Does r taken marked changed p q → IsOwned (known_of p) row own taken marked → In own (known_of q).core.fresh
owned_fresh r row own taken marked changed p q one owned =
    ⊎_elim (λ old. subst (λ x. In x (known_of q).core.fresh) (sym old.1) (still_fresh r taken marked changed p q one row old.0))
    (λ new. now_fresh r taken marked changed p q one own (subst (In own) (sym new.1) (in_head own []))) owned

-- ---- what the first word tells

module _ (objectives : ℕ) (k : Known) (row w : ℕ) (word : (x : ℕ) → look_up (known_words k) row 0 ≡ Some x → w ≡ x) where
  pub as_leaf : (ms : Nodes) → HasNode objectives k row ms → w % KINDS ≡ LEAF → (b : Box) × (placed : List Placed) × (ms ≡ leaf row b placed no_nodes) × (length placed ≡ w / KINDS)
  as_leaf no_nodes has is = absurd (let n = ap length has.here in omega arith)
  as_leaf (leaf x b placed (leaf y b' placed' later)) has is = absurd (let n = ap length has.here in omega arith)
  as_leaf (leaf x b placed (inner y b' kids' later)) has is = absurd (let n = ap length has.here in omega arith)
  as_leaf (leaf x b placed no_nodes) has is = (b, placed, ap (λ y. leaf y b placed no_nodes) (same_head x row [] [] has.here), node_count objectives k row (leaf x b placed no_nodes) w has word)
  as_leaf (inner x b kids later) has is =
      absurd (let first = node_first objectives k row (inner x b kids later) has in let told = word (KINDS * length (heads kids) + INNER) first.0.first in omega (arith, told, is))

  pub as_inner : (ms : Nodes) → HasNode objectives k row ms → w % KINDS ≢ LEAF → (b : Box) × (kids : Nodes) × (ms ≡ inner row b kids no_nodes) × (length (heads kids) ≡ w / KINDS)
  as_inner no_nodes has is = absurd (let n = ap length has.here in omega arith)
  as_inner (inner x b kids (leaf y b' placed' later)) has is = absurd (let n = ap length has.here in omega arith)
  as_inner (inner x b kids (inner y b' kids' later)) has is = absurd (let n = ap length has.here in omega arith)
  as_inner (inner x b kids no_nodes) has is = (b, kids, ap (λ y. inner y b kids no_nodes) (same_head x row [] [] has.here), node_count objectives k row (inner x b kids no_nodes) w has word)
  as_inner (leaf x b placed later) has is =
      absurd (is (let first = node_first objectives k row (leaf x b placed later) has in let told = word (KINDS * length (rows_with placed) + LEAF) first.0.first in omega (arith, told)))

pub leaf_linked : (objectives : ℕ) (k : Known) (row : ℕ) (b : Box) (placed : List Placed) → HasNode objectives k row (leaf row b placed no_nodes) → HasLinked objectives k row placed
leaf_linked objectives k row b placed has = record {
  linked = has.nodes.written.0.linked;
  points = has.nodes.written.2;
  readable = λ x here. has.nodes.readable x (in_tail x row (rows_with placed ++ []) (in-append_left x (rows_with placed) [] here));
}

-- ---- at a node, of which the first word is read

module _ {L : Type 0} {G : Ghosts L Entry} (r : Rows L Entry) (objectives : ℕ) (point : Point) (t : Nodes) (p q : Pass L Entry G) (read : Does r [] [] [] p q) (row root steps : ℕ) where
  pub focused_read : (ns ms : Nodes) (outer outside : List ℕ) → IsFocused objectives r.rows point t (known_of p) (marked_of p) row root steps ns ms outer outside → IsFocused objectives r.rows point t (known_of q) (marked_of q) row root steps ns ms outer outside
  focused_read ns ms outer outside is = record {
    is_named = is.is_named;
    node = node_still r [] [] [] p q read objectives row ms (λ x here. refl) is.node;
    known_are = λ x here other. subst (λ (y : Copy). In x y.rows) (sym (still_pinned r [] [] [] p q read)) (is.known_are x here other);
    fresh_are = λ x. ap (times x) (read.fresh ∙ append-nil (known_of p).core.fresh) ∙ is.fresh_are x;
    marked_are = λ x. let m = ap (times x) (read.marks ∙ append-nil (marked_of p)) in let before = is.marked_are x in omega (arith, m, before);
    apart = is.apart;
    beside = λ x here. still_readable r [] [] [] p q read x (is.beside x here);
    goes =
        continues_still objectives r.rows point (without_dominated r.rows point.value t) (known_words (known_of p)) (known_words (known_of q)) ns row root outer outside
        (λ x here. still_words r [] [] [] p q read objectives x refl) is.goes;
    boxed = λ none. box-alike objectives (known_words (known_of p)) (known_words (known_of q)) row (box_of point.value) (still_words r [] [] [] p q read objectives row refl) (is.boxed none);
    onwards = is.onwards;
    bounded = is.bounded;
  }

  module _ (w : ℕ) (word : (x : ℕ) → look_up (known_words (known_of p)) row 0 ≡ Some x → w ≡ x) (at : IsAt objectives r.rows point t (known_of p) (marked_of p) row root steps) where
    pub is_focused : IsFocused objectives r.rows point t (known_of q) (marked_of q) row root steps at.0 at.1 at.2.0 at.2.1.0
    is_focused = focused_read at.0 at.1 at.2.0 at.2.1.0 at.2.1.1

    pub count_low : w / KINDS ≤ 20
    count_low =
        let first = node_first objectives (known_of p) row at.1 at.2.1.1.node in
        let same = node_count objectives (known_of p) row at.1 w at.2.1.1.node word in
        let few = first.3 in omega (arith, same, few)

    -- a leaf
    module _ (is_leaf : w % KINDS ≡ LEAF) where
      abbrev pub the_leaf : (b : Box) × (placed : List Placed) × (at.1 ≡ leaf row b placed no_nodes) × (length placed ≡ w / KINDS)
      the_leaf = as_leaf objectives (known_of p) row w word at.1 at.2.1.1.node is_leaf

      pub leaf_focused : IsFocused objectives r.rows point t (known_of q) (marked_of q) row root steps at.0 (leaf row the_leaf.0 the_leaf.1 no_nodes) at.2.0 at.2.1.0
      leaf_focused = subst (λ ms. IsFocused objectives r.rows point t (known_of q) (marked_of q) row root steps at.0 ms at.2.0 at.2.1.0) the_leaf.2 is_focused

      pub leaf_links : HasLinked objectives (known_of q) row the_leaf.1
      leaf_links = leaf_linked objectives (known_of q) row the_leaf.0 the_leaf.1 leaf_focused.node

      pub leaf_has : (placed : List Placed) × HasLinked objectives (known_of q) row placed × (length placed ≡ w / KINDS)
      leaf_has = (the_leaf.1, leaf_links, the_leaf.3)

    -- an inner node
    module _ (is_inner : w % KINDS ≢ LEAF) where
      abbrev pub the_inner : (b : Box) × (kids : Nodes) × (at.1 ≡ inner row b kids no_nodes) × (length (heads kids) ≡ w / KINDS)
      the_inner = as_inner objectives (known_of p) row w word at.1 at.2.1.1.node is_inner

      pub inner_focused : IsFocused objectives r.rows point t (known_of q) (marked_of q) row root steps at.0 (inner row the_inner.0 the_inner.1 no_nodes) at.2.0 at.2.1.0
      inner_focused = subst (λ ms. IsFocused objectives r.rows point t (known_of q) (marked_of q) row root steps at.0 ms at.2.0 at.2.1.0) the_inner.2 is_focused

      -- its child on the way is not marked
      pub child_unmarked : IsBuilding r q → MayUpdate objectives r.rows point (pinned_copy (known_of q)) t → In (child_row point.value the_inner.1) (pinned_copy (known_of q)).rows → times (child_row point.value the_inner.1) (marked_of q) ≡ 0
      child_unmarked building may here =
          let x = child_row point.value the_inner.1 in
          let some = child_way r objectives point t q building row root steps at.0 the_inner.0 the_inner.1 at.2.0 at.2.1.0 inner_focused here in
          let other : x ≢ r.rows = λ e. (let none = may.no_row in let there = subst (λ y. In y (pinned_copy (known_of q)).rows) e here in omega (arith, none, there)) in
          let all = (updates objectives r.rows point (pinned_copy (known_of q)) t may).rows x other in
          let once = may.is_tree.once x in
          let same = ap (times x) may.is_tree.rows_are in
          let marks = inner_focused.marked_are x in omega (arith, some, all, once, same, marks)

      pub child_has : IsBuilding r q → MayUpdate objectives r.rows point (pinned_copy (known_of q)) t
          → (b : Box) × (kids : Nodes) × HasNode objectives (known_of q) row (inner row b kids no_nodes) × (length (heads kids) ≡ w / KINDS)
          × (In (child_row point.value kids) (pinned_copy (known_of q)).rows → times (child_row point.value kids) (marked_of q) ≡ 0)
      child_has building may = (the_inner.0, the_inner.1, inner_focused.node, the_inner.3, child_unmarked building may)

      -- and then the point is there
      module _ (s : Pass L Entry G) (own : ℕ) (taken marked : List ℕ) (one : Does r taken marked (own ∷ row ∷ []) q s) where
        abbrev Steps : Type 0
        Steps = (b : Box) (kids : Nodes) → HasNode objectives (known_of q) row (inner row b kids no_nodes) → length (heads kids) ≡ w / KINDS → IsOwned (known_of q) (child_row point.value kids) own taken marked × IsStepped objectives (known_of s) row b kids point.value own

        pub stepped_fresh : Steps → In own (known_of s).core.fresh
        stepped_fresh did = owned_fresh r (child_row point.value the_inner.1) own taken marked (own ∷ row ∷ []) q s one (did the_inner.0 the_inner.1 inner_focused.node the_inner.3).0

        pub stepped_on : IsBuilding r q → In row (known_of q).core.fresh → Steps → IsAt objectives r.rows point t (known_of s) (marked_of s) own root (steps + 1)
        stepped_on building mine did =
            let both = did the_inner.0 the_inner.1 inner_focused.node the_inner.3 in
            step_taken r objectives point t q building row root steps s own taken marked one mine at.0 the_inner.0 the_inner.1 at.2.0 at.2.1.0 inner_focused both.0 both.1

-- no more steps than there are rows
pub ended : (objectives new : ℕ) (point : Point) (t : Nodes) (k : Known) (marked : List ℕ) (row root steps : ℕ) → IsAt objectives new point t k marked row root steps → MOST_ROWS ≤ steps → ⊥
ended objectives new point t k marked row root steps at many = some at.1 at.2.1.1.node.here at.2.1.1.bounded
  where
    some : (ms : Nodes) → heads ms ≡ row ∷ [] → steps + length (rows_of ms) ≤ MOST_ROWS → ⊥
    some no_nodes here few = let n = ap length here in omega arith
    some (leaf x b placed later) here few = omega (arith, few, many)
    some (inner x b kids later) here few = omega (arith, few, many)
