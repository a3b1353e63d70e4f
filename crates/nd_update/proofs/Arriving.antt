-- A node on the way of a point that a pass puts into its row: its names, and what of the way is marked.
use Rattle.std.proofs.Common.{◌≡◌, ◌≢◌, ℕ, ◌+◌, inl, ⊎_elim, if◌then◌else◌, eq-eqb, ne_eqb, List, [], ◌∷◌, ◌++◌, length, get_or, refl, sym, ap, subst, ◌∙◌, arith, ℤ}
use Rattle.std.proofs.lemmas.Bool.{cases_eq}
use Rattle.era_core.specs.Lists.{times, In}
use Rattle.era_core.proofs.ListFacts.{times-append, in_head, in-append_left}
use Rattle.era_rows.specs.Known.{Known, pinned_copy}
use Rattle.pls_vectors.specs.Box.{Box, grown}
use Rattle.nd_rows.specs.Nodes.{Placed, Nodes, no_nodes, leaf, inner, heads, rows_of}
use Rattle.nd_update.specs.Insertion.{place_among, leaf_box, known_row, way}
use Rattle.nd_update.specs.Naming.{HasName, ArePlacedNamed, AreNamed, name_of, names_with, names_of}
use Rattle.nd_update.specs.Ways.{touched, IsOwned}
use Rattle.nd_update.proofs.Naming.{known-name}

module _ (new : ℕ) (v : List ℤ) where
  -- the rows of the way below the first of the nodes
  abbrev pub ahead : Nodes → List ℕ
  ahead no_nodes = []
  ahead (leaf r b placed later) = []
  ahead (inner r b kids later) = way new v kids (place_among v kids)

  -- the names below the first of the nodes, and beside it
  abbrev names_of_rest : Nodes → Nodes → List ℕ
  names_of_rest no_nodes ms = []
  names_of_rest (leaf r b placed later) no_nodes = []
  names_of_rest (leaf r b placed later) (leaf name box named others) = names_with new placed named ++ names_of new later others
  names_of_rest (leaf r b placed later) (inner name box named others) = []
  names_of_rest (inner r b kids later) no_nodes = []
  names_of_rest (inner r b kids later) (leaf name box named others) = []
  names_of_rest (inner r b kids later) (inner name box named others) = names_of new kids named ++ names_of new later others

  leaf_box_named : (b box : Box) (placed named : List Placed) → box ≡ b → ArePlacedNamed new placed named → leaf_box box named v ≡ leaf_box b placed v
  leaf_box_named b box [] [] e are = refl
  leaf_box_named b box [] (q ∷ named) e are = absurd are
  leaf_box_named b box (p ∷ placed) [] e are = absurd are
  leaf_box_named b box (p ∷ placed) (q ∷ named) e are = ap (λ x. grown x v) e

  pub named_touched : (own : ℕ) (ns ms : Nodes) → AreNamed new ns ms → AreNamed new (touched new v ns) (touched own v ms)
  named_touched own no_nodes no_nodes are = tt
  named_touched own no_nodes (leaf name box named others) are = absurd are
  named_touched own no_nodes (inner name box named others) are = absurd are
  named_touched own (leaf r b placed later) no_nodes are = absurd are
  named_touched own (leaf r b placed later) (leaf name box named others) are = (inl refl, leaf_box_named b box placed named are.1 are.2, are.2, are.3)
  named_touched own (leaf r b placed later) (inner name box named others) are = absurd are
  named_touched own (inner r b kids later) no_nodes are = absurd are
  named_touched own (inner r b kids later) (leaf name box named others) are = absurd are
  named_touched own (inner r b kids later) (inner name box named others) are = (inl refl, ap (λ x. grown x v) are.1, are.2, are.3)

  known_new : (r : ℕ) → r ≡ new → known_row new r ≡ []
  known_new r e = ap (λ s. if s then [] else r ∷ []) (eq-eqb r new e)

  known_other : (r : ℕ) → r ≢ new → known_row new r ≡ r ∷ []
  known_other r apart = ap (λ s. if s then [] else r ∷ []) (ne_eqb r new apart)

  name_new : (r name : ℕ) → r ≡ new → name_of new r name ≡ name ∷ []
  name_new r name e = ap (λ s. if s then name ∷ [] else []) (eq-eqb r new e)

  name_other : (r name : ℕ) → r ≢ new → name_of new r name ≡ []
  name_other r name apart = ap (λ s. if s then name ∷ [] else []) (ne_eqb r new apart)

  -- the row of a node that the pass has now
  module _ (k : Known) (unread : (x : ℕ) → In x k.core.fresh → times x (pinned_copy k).rows ≡ 0) (row own : ℕ) (taken marked : List ℕ) (owned : IsOwned k row own taken marked) (x : ℕ) where
    one_row : (r : ℕ) → HasName new r row → (r ≢ new → In r (pinned_copy k).rows) → (r ≡ new → In row k.core.fresh)
        → (times x (own ∷ []) ≡ times x (name_of new r row) + times x taken) × (times x (known_row new r) ≡ times x marked)
    one_row r has pinned named =
        ⊎_elim
        (λ mine.
        let e : r ≡ new = ⊎_elim (λ same. same) (λ apart. absurd (let is = known-name new r row has apart in let here = subst (λ y. In y (pinned_copy k).rows) (sym is) (pinned apart) in let none = unread row mine.0 in omega (arith, here, none))) (cases_eq r new) in
        let a = ap (times x) (name_new r row e) in
        let b = ap (times x) (known_new r e) in
        let same = ap (λ y. times x (y ∷ [])) mine.1 in
        let t = ap (times x) mine.2 in
        let m = ap (times x) mine.3 in (omega (arith, a, same, t), omega (arith, b, m)))
        (λ old.
        let apart : r ≢ new = λ e. (let here = named e in let none = old.0 in omega (arith, here, none)) in
        let a = ap (times x) (name_other r row apart) in
        let b = ap (times x) (known_other r apart) in
        let same = ap (λ y. times x (y ∷ [])) (known-name new r row has apart) in
        let t = ap (times x) old.1 in
        let m = ap (times x) old.2 in (omega (arith, a, t), omega (arith, b, m, same)))
        owned

    -- the names, and the rows of the way that are marked
    pub arrives : (ns ms : Nodes) → AreNamed new ns ms → heads ms ≡ row ∷ [] → ((y : ℕ) → In y (rows_of ns) → y ≢ new → In y (pinned_copy k).rows) → ((y : ℕ) → In y (names_of new ns ms) → In y k.core.fresh)
        → (times x (names_of new (touched new v ns) (touched own v ms)) ≡ times x (names_of new ns ms) + times x taken) × (times x (way new v ns 0) ≡ times x marked + times x (ahead ns))
    arrives no_nodes ms are here pinned named = absurd (by_none ms are here)
      where
        by_none : (ms : Nodes) → AreNamed new no_nodes ms → heads ms ≡ row ∷ [] → ⊥
        by_none no_nodes are here = let n = ap length here in omega arith
        by_none (leaf name box named others) are here = are
        by_none (inner name box named others) are here = are
    arrives (leaf r b placed later) no_nodes are here pinned named = absurd are
    arrives (leaf r b placed later) (inner name box named' others) are here pinned named = absurd are
    arrives (inner r b kids later) no_nodes are here pinned named = absurd are
    arrives (inner r b kids later) (leaf name box named' others) are here pinned named = absurd are
    arrives (leaf r b placed later) (leaf name box named' others) are here pinned named =
        let e : name ≡ row = ap (λ ys. get_or ys 0 0) here in
        let one = one_row r (subst (HasName new r) e are.0) (λ apart. pinned r (in_head r _) apart)
        (λ same. named row (in-append_left row (name_of new r name) _ (subst (In row) (sym (name_new r name same ∙ ap (λ y. y ∷ []) e)) (in_head row [])))) in
        let rest = names_of_rest (leaf r b placed later) (leaf name box named' others) in
        let a = times-append x (name_of new new own) rest in
        let c = times-append x (name_of new r name) rest in
        let d = ap (times x) (name_new new own refl) in
        let f = ap (λ y. times x (name_of new r y)) e in
        let first = one.0 in
        let second = one.1 in (omega arith, omega arith)
    arrives (inner r b kids later) (inner name box named' others) are here pinned named =
        let e : name ≡ row = ap (λ ys. get_or ys 0 0) here in
        let one = one_row r (subst (HasName new r) e are.0) (λ apart. pinned r (in_head r _) apart)
        (λ same. named row (in-append_left row (name_of new r name) _ (subst (In row) (sym (name_new r name same ∙ ap (λ y. y ∷ []) e)) (in_head row [])))) in
        let rest = names_of_rest (inner r b kids later) (inner name box named' others) in
        let a = times-append x (name_of new new own) rest in
        let c = times-append x (name_of new r name) rest in
        let d = ap (times x) (name_new new own refl) in
        let f = ap (λ y. times x (name_of new r y)) e in
        let g = times-append x (known_row new r) (way new v kids (place_among v kids)) in
        let first = one.0 in
        let second = one.1 in (omega arith, omega arith)
