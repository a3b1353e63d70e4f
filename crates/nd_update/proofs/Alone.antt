-- Where nothing is left of a tree, the new one is a leaf with the point alone.
use Rattle.std.proofs.Common.{◌≡◌, ℕ, inl, None, Option, [], ◌∷◌, ◌++◌, refl, sym, ap, subst, ◌∙◌, arith, append-nil}
use Rattle.era_core.specs.Lists.{times}
use Rattle.era_core.proofs.ListFacts.{times-append}
use Rattle.era_rows.specs.Known.{known_words}
use Rattle.era_rows.specs.Passes.{known_of, marked_of}
use Rattle.era_rows.specs.declared.pass.Pass.{Pass}
use Rattle.era_rows.specs.declared.rows.Rows.{Rows}
use Rattle.era_rows.specs.declared.law.Law.{Ghosts}
use Rattle.pls_archive.specs.declared.call.Entry.{Entry}
use Rattle.pls_archive.specs.declared.point.Point.{Point}
use Rattle.pls_vectors.specs.Box.{box_of}
use Rattle.nd_rows.specs.Nodes.{Placed, Nodes, no_nodes, leaf, inner}
use Rattle.nd_rows.specs.Layout.{IsPointRow}
use Rattle.nd_update.specs.Building.{Does}
use Rattle.nd_update.specs.Insertion.{new_placed, with_point, way}
use Rattle.nd_update.specs.Naming.{AreNamed, names_with, names_of, AreNamesWritten, IsLeafRow}
use Rattle.nd_update.specs.Removal.{without_dominated, dropped}
use Rattle.nd_update.specs.Left.{IsLeft}
use Rattle.nd_update.specs.Inserted.{IsInserted}
use Rattle.nd_update.proofs.Naming.{name-new}

-- nodes of which none was named are none
none_named : (new : ℕ) (ns ms : Nodes) → ms ≡ no_nodes → AreNamed new ns ms → ns ≡ no_nodes
none_named new ns ms none are = by_none ns (subst (AreNamed new ns) none are)
  where
    by_none : (ns : Nodes) → AreNamed new ns no_nodes → ns ≡ no_nodes
    by_none no_nodes are = refl
    by_none (leaf r b placed later) are = absurd are
    by_none (inner r b kids later) are = absurd are

pub inserted_alone : {L : Type 0} {G : Ghosts L Entry} (r : Rows L Entry) (objectives : ℕ) (point : Point) (p q : Pass L Entry G) (leaf_row at : ℕ) → Does r (at ∷ leaf_row ∷ []) [] (at ∷ leaf_row ∷ []) p q
    → IsPointRow objectives (known_words (known_of q)) (record { row = at; point = point })
    → IsLeafRow objectives (known_words (known_of q)) leaf_row (box_of point.value) (record { row = at; point = point } ∷ [])
    → (t : Nodes) (removed : ℕ) (root : Option ℕ) → root ≡ None → IsLeft r.rows point.value objectives t (known_words (known_of p)) (known_of p).core.fresh (marked_of p) root removed
    → IsInserted r.rows objectives point t (known_words (known_of q)) (known_of q).core.fresh (marked_of q) leaf_row
inserted_alone r objectives point p q leaf_row at one is_point is_leaf t removed root none left =
    let new = r.rows in
    let q_new : Placed = record { row = at; point = point } in
    let nothing : without_dominated new point.value t ≡ no_nodes = none_named new (without_dominated new point.value t) left.named (left.none_left none) left.settled.is_named in
    let after : Nodes = leaf leaf_row (box_of point.value) (q_new ∷ []) no_nodes in
    record {
      named = after;
      is_named = subst (λ ns. AreNamed new (with_point new point ns 0) after) (sym nothing) (inl refl, refl, (inl refl, refl, tt), tt);
      written = subst (λ ns. AreNamesWritten new objectives (known_words (known_of q)) (with_point new point ns 0) after) (sym nothing) ((λ e. is_leaf), ((λ e. is_point), tt), tt);
      rooted = refl;
      taken_are = λ x.
          let before = left.settled.taken_are x in
          let names = ap (λ ns. times x (names_of new ns left.named)) nothing in
          let f = ap (times x) one.fresh in
          let g = times-append x (known_of p).core.fresh (at ∷ leaf_row ∷ []) in
          let now = ap (λ ns. times x (names_of new (with_point new point ns 0) after)) nothing in
          let a = ap (λ xs. times x (xs ++ (names_with new (new_placed new point ∷ []) (q_new ∷ []) ++ []))) (name-new new new leaf_row refl) in
          let b = ap (λ xs. times x (leaf_row ∷ ((xs ++ []) ++ []))) (name-new new new at refl) in omega arith;
      marked_are = λ x.
          let m = ap (times x) (one.marks ∙ append-nil (marked_of p)) in
          let before = left.settled.marked_are x in
          let both = times-append x (dropped point.value t) (way new point.value (without_dominated new point.value t) 0) in
          let e = ap (λ ns. times x (way new point.value ns 0)) nothing in omega arith;
    }
