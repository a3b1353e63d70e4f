-- A step of the point from a node to the closest child.
use Rattle.std.proofs.Common.{◌≡◌, ◌≢◌, ℕ, zero, suc, ◌+◌, ◌<◌, ◌≤◌, inr, ⊎_elim, List, [], ◌∷◌, ◌++◌, length, get_or, set, refl, sym, ap, ap₂, subst, ◌∙◌, arith, append-nil, length-append, ℤ}
use Rattle.std.proofs.lemmas.Bool.{cases_eq}
use Rattle.era_core.specs.declared.sizes.TheConstants.{MOST_ROWS}
use Rattle.era_core.specs.Lists.{times, In}
use Rattle.era_core.specs.Versions.{Copy}
use Rattle.era_core.proofs.ListFacts.{times-append, times-head, times-tail, in_head, in_tail, in-append_left, in-append_right}
use Rattle.era_rows.specs.Known.{pinned_copy, known_words}
use Rattle.era_rows.specs.Passes.{known_of, marked_of, IsReadable}
use Rattle.era_rows.specs.declared.pass.Pass.{Pass}
use Rattle.era_rows.specs.declared.rows.Rows.{Rows}
use Rattle.era_rows.specs.declared.law.Law.{Ghosts}
use Rattle.pls_archive.specs.declared.call.Entry.{Entry}
use Rattle.pls_archive.specs.declared.point.Point.{Point}
use Rattle.pls_vectors.specs.Box.{Box, grown}
use Rattle.nd_tree.specs.Closest.{closest}
use Rattle.nd_rows.specs.declared.layout.TheConstants.{INNER}
use Rattle.nd_rows.specs.Nodes.{Nodes, no_nodes, leaf, inner, heads, rows_of, rows_with, followed_by}
use Rattle.nd_rows.specs.Layout.{IsLinkRow, IsBoxRow, AreWritten}
use Rattle.nd_update.specs.Building.{IsBuilding, Does}
use Rattle.nd_update.specs.Insertion.{boxes_of, place_among, way}
use Rattle.nd_update.specs.Naming.{AreNamed, names_of}
use Rattle.nd_update.specs.Needed.{on_way}
use Rattle.nd_update.specs.Removal.{without_dominated}
use Rattle.nd_update.specs.Ways.{HasNode, IsOwned, IsStepped, touched, link_count, at_node, child_row}
use Rattle.nd_update.proofs.Alike.{Agree, written-alike}
use Rattle.nd_update.proofs.Arriving.{ahead, named_touched, arrives}
use Rattle.nd_update.proofs.Building.{still_readable, still_pinned}
use Rattle.nd_update.proofs.Descending.{IsFocused, IsAt}
use Rattle.nd_update.proofs.Descent.{own_name, continues_still, continues_on}
use Rattle.nd_update.proofs.Filling.{taken_apart, still_words}
use Rattle.nd_update.proofs.Insertion.{place-below}
use Rattle.nd_update.proofs.NamedParts.{names-followed}
use Rattle.nd_update.proofs.Naming.{heads-named}
use Rattle.nd_update.proofs.Touching.{count_touched, some_links}
use Rattle.nd_update.proofs.Places.{IsParted, parted, rows-followed, written-parts}

-- the boxes of named nodes
pub boxes_named : (new : ℕ) (ns ms : Nodes) → AreNamed new ns ms → boxes_of ms ≡ boxes_of ns
boxes_named new no_nodes no_nodes are = refl
boxes_named new no_nodes (leaf name box named others) are = absurd are
boxes_named new no_nodes (inner name box named others) are = absurd are
boxes_named new (leaf r b placed later) no_nodes are = absurd are
boxes_named new (leaf r b placed later) (leaf name box named others) are = ap₂ (λ x xs. x ∷ xs) are.1 (boxes_named new later others are.3)
boxes_named new (leaf r b placed later) (inner name box named others) are = absurd are
boxes_named new (inner r b kids later) no_nodes are = absurd are
boxes_named new (inner r b kids later) (leaf name box named others) are = absurd are
boxes_named new (inner r b kids later) (inner name box named others) are = ap₂ (λ x xs. x ∷ xs) are.1 (boxes_named new later others are.3)

-- the way from a node on is that of the node alone
way-at : (v : List ℤ) (ns : Nodes) (k : ℕ) → on_way v ns k ≡ on_way v (at_node ns k) 0
way-at v no_nodes k = refl
way-at v (leaf r b placed later) zero = refl
way-at v (leaf r b placed later) (suc k) = way-at v later k
way-at v (inner r b kids later) zero = refl
way-at v (inner r b kids later) (suc k) = way-at v later k

-- the rows of a node whose row is another one now
pub rows_touched : (own : ℕ) (v : List ℤ) (ms : Nodes) (x : ℕ) → x ≢ own → times x (rows_of (touched own v ms)) ≤ times x (rows_of ms)
rows_touched own v no_nodes x other = omega arith
rows_touched own v (leaf r b placed later) x other = let none = times-tail x own (rows_with placed ++ rows_of later) other in omega (arith, none)
rows_touched own v (inner r b kids later) x other = let none = times-tail x own (rows_of kids ++ rows_of later) other in omega (arith, none)

pub length_touched : (own : ℕ) (v : List ℤ) (ms : Nodes) → length (rows_of (touched own v ms)) ≡ length (rows_of ms)
length_touched own v no_nodes = refl
length_touched own v (leaf r b placed later) = refl
length_touched own v (inner r b kids later) = refl

-- The node has the row and the names that it had.
module _ {L : Type 0} {G : Ghosts L Entry} (r : Rows L Entry) (objectives : ℕ) (point : Point) (t : Nodes) (p : Pass L Entry G) (building : IsBuilding r p) (row root steps : ℕ) where
  abbrev v : List ℤ
  v = point.value

  module _ (r₀ : ℕ) (b₀ b : Box) (kids kids' : Nodes) (outer outside : List ℕ) (is : IsFocused objectives r.rows point t (known_of p) (marked_of p) row root steps (inner r₀ b₀ kids no_nodes) (inner row b kids' no_nodes) outer outside) where
    abbrev place : ℕ
    place = place_among v kids

    same_place : place_among v kids' ≡ place
    same_place = ap (λ bs. closest bs v) (boxes_named r.rows kids kids' is.is_named.2)

    pub low : place < length (heads kids)
    low = place-below v kids (let two = is.node.nodes.fit.0 in let same = heads-named r.rows kids kids' is.is_named.2 in omega arith)

    abbrev parts : IsParted r.rows point kids kids' place
    parts = parted r.rows point kids kids' place low is.is_named.2

    child_is : child_row v kids' ≡ parts.row
    child_is = ap (λ n. get_or (heads kids') n 0) same_place ∙ sym parts.row_is

    kids_rows : (x : ℕ) → times x (rows_of kids) ≡ times x (rows_of parts.first) + (times x (rows_of (at_node kids place)) + times x (rows_of parts.rest))
    kids_rows x =
        let e = ap (λ ns. times x (rows_of ns)) parts.parts in
        let a = ap (times x) (rows-followed parts.first (followed_by (at_node kids place) parts.rest)) in
        let c = times-append x (rows_of parts.first) (rows_of (followed_by (at_node kids place) parts.rest)) in
        let d = ap (times x) (rows-followed (at_node kids place) parts.rest) in
        let f = times-append x (rows_of (at_node kids place)) (rows_of parts.rest) in omega arith

    kids_rows' : (x : ℕ) → times x (rows_of kids') ≡ times x (rows_of parts.first') + (times x (rows_of parts.node') + times x (rows_of parts.rest'))
    kids_rows' x =
        let e = ap (λ ns. times x (rows_of ns)) parts.parts' in
        let a = ap (times x) (rows-followed parts.first' (followed_by parts.node' parts.rest')) in
        let c = times-append x (rows_of parts.first') (rows_of (followed_by parts.node' parts.rest')) in
        let d = ap (times x) (rows-followed parts.node' parts.rest') in
        let f = times-append x (rows_of parts.node') (rows_of parts.rest') in omega arith

    kids_names : (x : ℕ) → times x (names_of r.rows kids kids') ≡ times x (names_of r.rows parts.first parts.first') + (times x (names_of r.rows (at_node kids place) parts.node') + times x (names_of r.rows parts.rest parts.rest'))
    kids_names x =
        let e : times x (names_of r.rows kids kids') ≡ times x (names_of r.rows (followed_by parts.first (followed_by (at_node kids place) parts.rest)) (followed_by parts.first' (followed_by parts.node' parts.rest'))) =
        ap₂ (λ ns ms. times x (names_of r.rows ns ms)) parts.parts parts.parts' in
        let a = ap (times x) (names-followed r.rows parts.first parts.first' (followed_by (at_node kids place) parts.rest) (followed_by parts.node' parts.rest') parts.are_first) in
        let c = times-append x (names_of r.rows parts.first parts.first') (names_of r.rows (followed_by (at_node kids place) parts.rest) (followed_by parts.node' parts.rest')) in
        let d = ap (times x) (names-followed r.rows (at_node kids place) parts.node' parts.rest parts.rest' parts.is_node) in
        let f = times-append x (names_of r.rows (at_node kids place) parts.node') (names_of r.rows parts.rest parts.rest') in omega arith

    node_names : (x : ℕ) → times x (names_of r.rows (touched r.rows v (inner r₀ b₀ kids no_nodes)) (inner row b kids' no_nodes)) ≡ times x (row ∷ []) + times x (names_of r.rows kids kids')
    node_names x =
        let a = times-append x (row ∷ []) (names_of r.rows kids kids' ++ []) in
        let c = ap (λ xs. times x (xs ++ (names_of r.rows kids kids' ++ []))) (own_name r.rows row) in
        let d = ap (times x) (append-nil (names_of r.rows kids kids')) in omega arith

    node_rows : (x : ℕ) → times x (rows_of (inner row b kids' no_nodes)) ≡ times x (row ∷ []) + times x (rows_of kids')
    node_rows x =
        let a = times-append x (row ∷ []) (rows_of kids' ++ []) in
        let d = ap (times x) (append-nil (rows_of kids')) in omega arith

    -- the child is not fresh where it is a row of the pinned tree, and then it is on the way
    pub child_ahead : In (child_row v kids') (pinned_copy (known_of p)).rows → 0 < times (child_row v kids') (ahead r.rows v (inner r₀ b₀ kids no_nodes))
    child_ahead here =
        let there : In parts.row (pinned_copy (known_of p)).rows = subst (λ x. In x (pinned_copy (known_of p)).rows) child_is here in
        let fresh : times parts.row (known_of p).core.fresh ≡ 0 = none (times parts.row (known_of p).core.fresh) (λ some. let unread = building.unread parts.row some in omega (arith, unread, there)) in
        let now =
        arrives r.rows v (known_of p) building.unread parts.row 0 (0 ∷ []) (parts.row ∷ []) (inr (fresh, refl, refl)) parts.row (at_node kids place) parts.node' parts.is_node parts.here
        (λ y here other. is.known_are y (in_tail y r₀ _ (in-append_left y (rows_of kids) [] (let all = kids_rows y in omega (arith, all, here)))) other)
        (λ y here. (let all = kids_names y in let node = node_names y in let fresh = is.fresh_are y in omega (arith, all, node, fresh, here))) in
        let head = times-head parts.row [] in
        let count : 0 < times parts.row (way r.rows v (at_node kids place) 0) = let is = now.1 in omega (arith, is, head) in
        subst (λ x. 0 < times x (way r.rows v kids place)) (sym child_is) (subst (λ xs. 0 < times parts.row xs) (sym parts.is_way) count)
      where
        none : (n : ℕ) → (0 < n → ⊥) → n ≡ 0
        none zero never = refl
        none (suc n) never = absurd (never (omega arith))

    -- and it is in its own row now
    module _ (q : Pass L Entry G) (own : ℕ) (taken marked : List ℕ) (one : Does r taken marked (own ∷ row ∷ []) p q) (mine : In row (known_of p).core.fresh)
        (owned : IsOwned (known_of p) (child_row v kids') own taken marked) (stepped : IsStepped objectives (known_of q) row b kids' v own) where
      arrived : (x : ℕ) → (times x (names_of r.rows (touched r.rows v (at_node kids place)) (touched own v parts.node')) ≡ times x (names_of r.rows (at_node kids place) parts.node') + times x taken)
          × (times x (way r.rows v (at_node kids place) 0) ≡ times x marked + times x (ahead r.rows v (at_node kids place)))
      arrived x =
          arrives r.rows v (known_of p) building.unread parts.row own taken marked (subst (λ c. IsOwned (known_of p) c own taken marked) child_is owned) x (at_node kids place) parts.node' parts.is_node parts.here
          (λ y here other. is.known_are y (in_tail y r₀ _ (in-append_left y (rows_of kids) [] (let all = kids_rows y in omega (arith, all, here)))) other)
          (λ y here. (let all = kids_names y in let node = node_names y in let fresh = is.fresh_are y in omega (arith, all, node, fresh, here)))

      abbrev beside_rows : List ℕ
      beside_rows = row ∷ ((rows_of parts.first' ++ rows_of parts.rest') ++ outside)

      count_beside : (x : ℕ) → times x beside_rows ≡ times x (row ∷ []) + (times x (rows_of parts.first') + times x (rows_of parts.rest')) + times x outside
      count_beside x =
          let a = times-append x (row ∷ []) ((rows_of parts.first' ++ rows_of parts.rest') ++ outside) in
          let c = times-append x (rows_of parts.first' ++ rows_of parts.rest') outside in
          let d = times-append x (rows_of parts.first') (rows_of parts.rest') in omega arith

      beside_readable : (x : ℕ) → In x beside_rows → IsReadable x (known_of p)
      beside_readable x here =
          by_count (times x outside) refl
        where
          by_count : (n : ℕ) → n ≡ times x outside → IsReadable x (known_of p)
          by_count (suc n) some = is.beside x (omega (arith, some))
          by_count zero none = is.node.nodes.readable x (let all = count_beside x in let whole = node_rows x in let kin = kids_rows' x in omega (arith, all, whole, kin, none, here))

      -- the rows beside the child are not its row now
      own_apart : times own beside_rows ≡ 0
      own_apart =
          ⊎_elim
          (λ old.
          let e : own ≡ parts.row = old.1 ∙ child_is in
          let inside : 0 < times own (rows_of parts.node') = subst (λ y. In y (rows_of parts.node')) (sym e) (head_in parts.node' parts.here) in
          let all = count_beside own in let whole = node_rows own in let kin = kids_rows' own in let few = is.apart own in omega (arith, inside, all, whole, kin, few))
          (λ new.
          let none : (n : ℕ) → (0 < n → ⊥) → n ≡ 0 = no_some in
          none (times own beside_rows) (λ here. let apart = taken_apart r taken marked (own ∷ row ∷ []) p q one own (beside_readable own here) in let head = subst (λ xs. times own xs ≡ 1) (sym new.1) (times-head own []) in omega (arith, apart, head)))
          owned
        where
          no_some : (n : ℕ) → (0 < n → ⊥) → n ≡ 0
          no_some zero none = refl
          no_some (suc n) none = absurd (none (omega arith))

          head_in : (ms : Nodes) → heads ms ≡ parts.row ∷ [] → In parts.row (rows_of ms)
          head_in no_nodes e = absurd (let n = ap length e in omega arith)
          head_in (leaf x box placed later) e = subst (λ y. In y (x ∷ (rows_with placed ++ rows_of later))) (ap (λ ys. get_or ys 0 0) e) (in_head x (rows_with placed ++ rows_of later))
          head_in (inner x box below later) e = subst (λ y. In y (x ∷ (rows_of below ++ rows_of later))) (ap (λ ys. get_or ys 0 0) e) (in_head x (rows_of below ++ rows_of later))

      changed_apart : (x : ℕ) → In x beside_rows → x ≢ row → times x (own ∷ row ∷ []) ≡ 0
      changed_apart x here other =
          let a = times-tail x row [] other in
          times-tail x own (row ∷ []) (λ same. (let none = own_apart in let e = ap (λ y. times y beside_rows) same in omega (arith, here, none, e))) ∙ a

      -- the rows beside the node are no rows of it
      siblings_apart : (x : ℕ) → In x (rows_of parts.first' ++ rows_of parts.rest') → times x (own ∷ row ∷ []) ≡ 0
      siblings_apart x here =
          let d = times-append x (rows_of parts.first') (rows_of parts.rest') in
          let all = count_beside x in
          changed_apart x (omega (arith, d, all, here)) (λ same. (let whole = node_rows x in let kin = kids_rows' x in let once = is.node.nodes.once x in let head = times-head row [] in let e = ap (λ y. times y (row ∷ [])) same in omega (arith, whole, kin, once, head, e, d, here)))

      outside_apart : (x : ℕ) → In x outside → times x (own ∷ row ∷ []) ≡ 0
      outside_apart x here =
          let all = count_beside x in
          changed_apart x (omega (arith, all, here)) (λ same. (let few = is.apart x in let whole = node_rows x in let head = times-head row [] in let e = ap (λ y. times y (row ∷ [])) same in omega (arith, few, whole, head, e, here)))

      now_links : IsLinkRow (known_words (known_of q)) INNER row (set (heads kids') place own)
      now_links = subst (λ n. IsLinkRow (known_words (known_of q)) INNER row (set (heads kids') n own)) same_place stepped.links

      now_boxed : IsBoxRow objectives (known_words (known_of q)) row (grown b₀ v)
      now_boxed = subst (IsBoxRow objectives (known_words (known_of q)) row) is.is_named.1 stepped.boxed

      siblings : AreWritten objectives (known_words (known_of p)) parts.first' × AreWritten objectives (known_words (known_of p)) parts.rest'
      siblings =
          let all = written-parts objectives (known_words (known_of p)) parts.first' (followed_by parts.node' parts.rest') (subst (AreWritten objectives (known_words (known_of p))) parts.parts' is.node.nodes.written.2) in
          (all.0, (written-parts objectives (known_words (known_of p)) parts.node' parts.rest' all.1).1)

      sibling_words : (x : ℕ) → In x (rows_of parts.first' ++ rows_of parts.rest') → Agree objectives (known_words (known_of p)) (known_words (known_of q)) x
      sibling_words x here = still_words r taken marked (own ∷ row ∷ []) p q one objectives x (siblings_apart x here)

      now_first : AreWritten objectives (known_words (known_of q)) parts.first'
      now_first = written-alike objectives (known_words (known_of p)) (known_words (known_of q)) parts.first' (λ x here. sibling_words x (in-append_left x (rows_of parts.first') (rows_of parts.rest') here)) siblings.0

      now_rest : AreWritten objectives (known_words (known_of q)) parts.rest'
      now_rest = written-alike objectives (known_words (known_of p)) (known_words (known_of q)) parts.rest' (λ x here. sibling_words x (in-append_right x (rows_of parts.first') (rows_of parts.rest') here)) siblings.1

      now_node : HasNode objectives (known_of q) own (touched own v parts.node')
      now_node =
          subst (λ m. HasNode objectives (known_of q) own (touched own v m)) (sym parts.itself)
          (subst (λ n. HasNode objectives (known_of q) own (touched own v (at_node kids' n))) same_place stepped.child)

      abbrev now_outer : List ℕ
      now_outer = row ∷ ((names_of r.rows parts.first parts.first' ++ names_of r.rows parts.rest parts.rest') ++ outer)

      now_fresh_are : (x : ℕ) → times x (known_of q).core.fresh ≡ times x (names_of r.rows (touched r.rows v (at_node kids place)) (touched own v parts.node')) + times x now_outer
      now_fresh_are x =
          let f = ap (times x) one.fresh in
          let g = times-append x (known_of p).core.fresh taken in
          let before = is.fresh_are x in
          let node = node_names x in
          let all = kids_names x in
          let now = (arrived x).0 in
          let a = times-append x (row ∷ []) ((names_of r.rows parts.first parts.first' ++ names_of r.rows parts.rest parts.rest') ++ outer) in
          let c = times-append x (names_of r.rows parts.first parts.first' ++ names_of r.rows parts.rest parts.rest') outer in
          let d = times-append x (names_of r.rows parts.first parts.first') (names_of r.rows parts.rest parts.rest') in omega arith

      now_apart : (x : ℕ) → times x beside_rows + times x (rows_of (touched own v parts.node')) ≤ 1
      now_apart x =
          ⊎_elim
          (λ same. subst (λ y. times y beside_rows + times y (rows_of (touched own v parts.node')) ≤ 1) (sym same) (let none = own_apart in let once = now_node.nodes.once own in omega (arith, none, once)))
          (λ other. let few = rows_touched own v parts.node' x other in let all = count_beside x in let whole = node_rows x in let kin = kids_rows' x in let before = is.apart x in omega (arith, few, all, whole, kin, before)) (cases_eq x own)

      now_bounded : (steps + 1) + length (rows_of (touched own v parts.node')) ≤ MOST_ROWS
      now_bounded =
          let same = length_touched own v parts.node' in
          let e : length (rows_of kids') ≡ length (rows_of (followed_by parts.first' (followed_by parts.node' parts.rest'))) = ap (λ ns. length (rows_of ns)) parts.parts' in
          let a : length (rows_of (followed_by parts.first' (followed_by parts.node' parts.rest'))) ≡ length (rows_of parts.first' ++ rows_of (followed_by parts.node' parts.rest')) = ap length (rows-followed parts.first' (followed_by parts.node' parts.rest')) in
          let c = length-append (rows_of parts.first') (rows_of (followed_by parts.node' parts.rest')) in
          let d : length (rows_of (followed_by parts.node' parts.rest')) ≡ length (rows_of parts.node' ++ rows_of parts.rest') = ap length (rows-followed parts.node' parts.rest') in
          let f = length-append (rows_of parts.node') (rows_of parts.rest') in
          let g = length-append (rows_of kids') [] in
          let few = is.bounded in omega arith

      now_some : link_count (touched own v parts.node') ≡ 0 → ⊥
      now_some none =
          let same = heads-named r.rows kids kids' is.is_named.2 in
          let below = low in
          let some : 0 < link_count (at_node kids' place) = some_links objectives kids' place is.node.nodes.fit.3 is.node.nodes.fit.4 (omega arith) in
          let all = count_touched own v parts.node' in
          let e = ap link_count parts.itself in omega arith

      pub steps_focused : IsFocused objectives r.rows point t (known_of q) (marked_of q) own root (steps + 1) (at_node kids place) (touched own v parts.node') now_outer beside_rows
      steps_focused = record {
        is_named = named_touched r.rows v own (at_node kids place) parts.node' parts.is_node;
        node = now_node;
        known_are = λ x here other.
            subst (λ (y : Copy). In x y.rows) (sym (still_pinned r taken marked (own ∷ row ∷ []) p q one))
            (is.known_are x (in_tail x r₀ _ (in-append_left x (rows_of kids) [] (let all = kids_rows x in omega (arith, all, here)))) other);
        fresh_are = now_fresh_are;
        marked_are = λ x.
            let m = ap (times x) one.marks in
            let g = times-append x (marked_of p) marked in
            let before = is.marked_are x in
            let now = (arrived x).1 in
            let w = ap (times x) parts.is_way in omega arith;
        apart = now_apart;
        beside = λ x here. still_readable r taken marked (own ∷ row ∷ []) p q one x (beside_readable x here);
        goes =
            continues_on objectives r.rows point (without_dominated r.rows v t) (known_words (known_of q)) r₀ row root own b₀ kids kids' outer outside
            (continues_still objectives r.rows point (without_dominated r.rows v t) (known_words (known_of p)) (known_words (known_of q)) (inner r₀ b₀ kids no_nodes) row root outer outside (λ x here. still_words r taken marked (own ∷ row ∷ []) p q one objectives x (outside_apart x here)) is.goes)
            parts now_links now_boxed now_first now_rest;
        boxed = λ none. absurd (now_some none);
        onwards = λ x here. is.onwards x (in_tail x r₀ _ (in-append_right x (heads kids) (on_way v kids place) (subst (In x) (sym (way-at v kids place)) here)));
        bounded = now_bounded;
      }

  -- the same of any node
  module _ (q : Pass L Entry G) (own : ℕ) (taken marked : List ℕ) (one : Does r taken marked (own ∷ row ∷ []) p q) (mine : In row (known_of p).core.fresh) where
    pub step_taken : (ns : Nodes) (b : Box) (kids' : Nodes) (outer outside : List ℕ) → IsFocused objectives r.rows point t (known_of p) (marked_of p) row root steps ns (inner row b kids' no_nodes) outer outside
        → IsOwned (known_of p) (child_row v kids') own taken marked → IsStepped objectives (known_of q) row b kids' v own → IsAt objectives r.rows point t (known_of q) (marked_of q) own root (steps + 1)
    step_taken no_nodes b kids' outer outside is owned stepped = absurd is.is_named
    step_taken (leaf r₀ b₀ placed later) b kids' outer outside is owned stepped = absurd is.is_named
    step_taken (inner r₀ b₀ kids (leaf r₁ b₁ placed later)) b kids' outer outside is owned stepped = absurd is.is_named.3
    step_taken (inner r₀ b₀ kids (inner r₁ b₁ below later)) b kids' outer outside is owned stepped = absurd is.is_named.3
    step_taken (inner r₀ b₀ kids no_nodes) b kids' outer outside is owned stepped = (
      at_node kids (place_among point.value kids),
      touched own point.value (parts r₀ b₀ b kids kids' outer outside is).node',
      (
        now_outer r₀ b₀ b kids kids' outer outside is q own taken marked one mine owned stepped,
        (beside_rows r₀ b₀ b kids kids' outer outside is q own taken marked one mine owned stepped, steps_focused r₀ b₀ b kids kids' outer outside is q own taken marked one mine owned stepped),
      ),
    )

  -- a child that is a row of the pinned tree is still ahead
  pub child_way : (ns : Nodes) (b : Box) (kids' : Nodes) (outer outside : List ℕ) → IsFocused objectives r.rows point t (known_of p) (marked_of p) row root steps ns (inner row b kids' no_nodes) outer outside
      → In (child_row v kids') (pinned_copy (known_of p)).rows → 0 < times (child_row v kids') (ahead r.rows v ns)
  child_way no_nodes b kids' outer outside is = absurd is.is_named
  child_way (leaf r₀ b₀ placed later) b kids' outer outside is = absurd is.is_named
  child_way (inner r₀ b₀ kids (leaf r₁ b₁ placed later)) b kids' outer outside is = absurd is.is_named.3
  child_way (inner r₀ b₀ kids (inner r₁ b₁ below later)) b kids' outer outside is = absurd is.is_named.3
  child_way (inner r₀ b₀ kids no_nodes) b kids' outer outside is = child_ahead r₀ b₀ b kids kids' outer outside is
