-- The way of a point down a tree: what is outside of the node at which it is, and what becomes of the tree as it goes on.
use Rattle.std.proofs.Common.{◌≡◌, ℕ, ◌+◌, inl, if◌then◌else◌, eq-eqb, List, [], ◌∷◌, ◌++◌, set, refl, sym, ap, subst, ◌∙◌, arith, append-nil}
use Rattle.era_core.specs.Lists.{times, In}
use Rattle.era_core.specs.Versions.{Cell}
use Rattle.era_core.proofs.ListFacts.{times-append, in_head, in_tail, in-append_left, in-append_right}
use Rattle.pls_archive.specs.declared.point.Point.{Point}
use Rattle.pls_vectors.specs.Box.{Box, grown}
use Rattle.nd_rows.specs.declared.layout.TheConstants.{INNER}
use Rattle.nd_rows.specs.Nodes.{Nodes, no_nodes, inner, heads, rows_of, followed_by}
use Rattle.nd_rows.specs.Layout.{IsLinkRow, IsBoxRow, AreWritten}
use Rattle.nd_update.specs.Insertion.{place_among, with_point}
use Rattle.nd_update.specs.Naming.{AreNamed, name_of, names_of}
use Rattle.nd_update.specs.Ways.{at_node}
use Rattle.nd_update.proofs.Alike.{Agree, links-alike, box-alike, written-alike}
use Rattle.nd_update.proofs.NamedParts.{named-followed, names-followed}
use Rattle.nd_update.proofs.Places.{heads-followed, written-followed, IsParted}

-- a node that is to be written has its name
pub own_name : (new name : ℕ) → name_of new new name ≡ name ∷ []
own_name new name = ap (λ s. if s then name ∷ [] else []) (eq-eqb new new refl)

module _ (objectives new : ℕ) (p : Point) (w : Nodes) where
  -- The point is at a node of the tree, which will stand in this row, and the whole in that one. These are the names outside of the
  -- node, and the rows: as long as their words stand, the whole will be written where the node is
  abbrev pub Continues : List Cell → Nodes → ℕ → ℕ → List ℕ → List ℕ → Type 0
  Continues cells ns row root outer outside =
      (ms : Nodes) → AreNamed new (with_point new p ns 0) ms → heads ms ≡ row ∷ []
      → (named : Nodes) × AreNamed new (with_point new p w 0) named × (heads named ≡ root ∷ [])
      × ((x : ℕ) → times x (names_of new (with_point new p w 0) named) ≡ times x (names_of new (with_point new p ns 0) ms) + times x outer)
      × ((cells' : List Cell) → ((x : ℕ) → In x outside → Agree objectives cells cells' x) → AreWritten objectives cells' ms → AreWritten objectives cells' named)

  -- at the root there is nothing outside
  pub continues_first : (cells : List Cell) (root : ℕ) → Continues cells w root root [] []
  continues_first cells root ms are here = (ms, are, here, (λ x. omega arith), λ cells' same written. written)

  -- the words outside stand
  pub continues_still : (cells cells₂ : List Cell) (ns : Nodes) (row root : ℕ) (outer outside : List ℕ) → ((x : ℕ) → In x outside → Agree objectives cells cells₂ x)
      → Continues cells ns row root outer outside → Continues cells₂ ns row root outer outside
  continues_still cells cells₂ ns row root outer outside stand goes ms are here =
      let all = goes ms are here in
      (all.0, all.1, all.2, all.3, λ cells' same written. all.4 cells' (λ x out k word there. same x out k word (stand x out k word there)) written)

  -- The point goes on to a child, which is in its new row now.
  module _ (cells : List Cell) (r row root own : ℕ) (b : Box) (kids kids' : Nodes) (outer outside : List ℕ) (goes : Continues cells (inner r b kids no_nodes) row root outer outside)
      (parts : IsParted new p kids kids' (place_among p.value kids)) where
    abbrev pub outer_on : List ℕ
    outer_on = row ∷ ((names_of new parts.first parts.first' ++ names_of new parts.rest parts.rest') ++ outer)

    abbrev pub outside_on : List ℕ
    outside_on = row ∷ ((rows_of parts.first' ++ rows_of parts.rest') ++ outside)

    module _ (links : IsLinkRow cells INNER row (set (heads kids') (place_among p.value kids) own)) (boxed : IsBoxRow objectives cells row (grown b p.value))
        (first : AreWritten objectives cells parts.first') (rest : AreWritten objectives cells parts.rest') where
      pub continues_on : Continues cells (at_node kids (place_among p.value kids)) own root outer_on outside_on
      continues_on ms are here =
          let k = place_among p.value kids in
          let child = with_point new p (at_node kids k) 0 in
          let below = followed_by parts.first' (followed_by ms parts.rest') in
          let is_below : AreNamed new (with_point new p kids k) below =
          subst (λ ns. AreNamed new ns below) (sym parts.inserted)
          (named-followed new parts.first parts.first' (followed_by child parts.rest) (followed_by ms parts.rest') parts.are_first (named-followed new child ms parts.rest parts.rest' are parts.are_rest)) in
          let whole = inner row (grown b p.value) below no_nodes in
          let all = goes whole (inl refl, refl, is_below, tt) refl in
          let names_below : names_of new (with_point new p kids k) below ≡ names_of new parts.first parts.first' ++ (names_of new child ms ++ names_of new parts.rest parts.rest') =
          ap (λ ns. names_of new ns below) parts.inserted
          ∙ names-followed new parts.first parts.first' (followed_by child parts.rest) (followed_by ms parts.rest') parts.are_first
          ∙ ap (λ xs. names_of new parts.first parts.first' ++ xs) (names-followed new child ms parts.rest parts.rest' are) in
          let heads_below : heads below ≡ set (heads kids') k own =
          heads-followed parts.first' (followed_by ms parts.rest') ∙ ap (λ xs. heads parts.first' ++ xs) (heads-followed ms parts.rest' ∙ ap (λ xs. xs ++ heads parts.rest') here) ∙ sym (parts.moved own) in (
            all.0,
            all.1,
            all.2,
            (λ x.
                let sum = all.3 x in
                let mine = ap (λ xs. times x (xs ++ (names_of new (with_point new p kids k) below ++ []))) (own_name new row) in
                let end = ap (times x) (append-nil (names_of new (with_point new p kids k) below)) in
                let inside = ap (times x) names_below in
                let one = times-append x (names_of new parts.first parts.first') (names_of new child ms ++ names_of new parts.rest parts.rest') in
                let two = times-append x (names_of new child ms) (names_of new parts.rest parts.rest') in
                let three = times-append x (names_of new parts.first parts.first' ++ names_of new parts.rest parts.rest') outer in
                let four = times-append x (names_of new parts.first parts.first') (names_of new parts.rest parts.rest') in
                let head = times-append x (row ∷ []) (names_of new (with_point new p kids k) below ++ []) in
                let head' = times-append x (row ∷ []) ((names_of new parts.first parts.first' ++ names_of new parts.rest parts.rest') ++ outer) in omega arith),
            (λ cells' same written.
                let mine = same row (in_head row _) in
                let beside : (x : ℕ) → In x (rows_of parts.first' ++ rows_of parts.rest') → Agree objectives cells cells' x = λ x here. same x (in_tail x row _ (in-append_left x (rows_of parts.first' ++ rows_of parts.rest') outside here)) in
                all.4 cells' (λ x out. same x (in_tail x row _ (in-append_right x (rows_of parts.first' ++ rows_of parts.rest') outside out))) (
                  subst (IsLinkRow cells' INNER row) (sym heads_below) (links-alike objectives cells cells' INNER row _ mine links),
                  box-alike objectives cells cells' row _ mine boxed,
                  written-followed objectives cells' parts.first' (followed_by ms parts.rest')
                      (written-alike objectives cells cells' parts.first' (λ x here. beside x (in-append_left x (rows_of parts.first') (rows_of parts.rest') here)) first)
                      (written-followed objectives cells' ms parts.rest' written (written-alike objectives cells cells' parts.rest' (λ x here. beside x (in-append_right x (rows_of parts.first') (rows_of parts.rest') here)) rest)),
                  tt,
                )),
          )
