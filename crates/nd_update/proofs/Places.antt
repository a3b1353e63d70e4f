-- A node among its siblings: the one to which a value goes, and those beside it.
use Rattle.std.proofs.Common.{◌≡◌, ℕ, zero, suc, ◌<◌, nat_le, if◌then◌else◌, List, [], ◌∷◌, ◌++◌, length, get_or, set, refl, sym, ap, ◌∙◌, arith, append_assoc}
use Rattle.era_core.specs.Versions.{Cell}
use Rattle.pls_archive.specs.declared.point.Point.{Point}
use Rattle.pls_archive.specs.Lists.{Every}
use Rattle.nd_tree.specs.Split.{split}
use Rattle.nd_rows.specs.Nodes.{Placed, Nodes, no_nodes, leaf, inner, heads, rows_of, rows_with, followed_by}
use Rattle.nd_rows.specs.Layout.{IsPointRow, AreWritten}
use Rattle.nd_update.specs.Insertion.{values_with, group_leaves, divided, leaf_box, new_placed, with_point, way}
use Rattle.nd_update.specs.Naming.{ArePlacedNamed, AreNamed, ArePlacedWritten, AreNamesWritten}
use Rattle.nd_update.specs.Ways.{AreFit, at_node}
use Rattle.nd_update.proofs.Filters.{by_test}

pub heads-followed : (ns others : Nodes) → heads (followed_by ns others) ≡ heads ns ++ heads others
heads-followed no_nodes others = refl
heads-followed (leaf r b placed later) others = ap (λ xs. r ∷ xs) (heads-followed later others)
heads-followed (inner r b kids later) others = ap (λ xs. r ∷ xs) (heads-followed later others)

pub rows-followed : (ns others : Nodes) → rows_of (followed_by ns others) ≡ rows_of ns ++ rows_of others
rows-followed no_nodes others = refl
rows-followed (leaf r b placed later) others = ap (λ xs. r ∷ (rows_with placed ++ xs)) (rows-followed later others) ∙ ap (λ xs. r ∷ xs) (sym (append_assoc (rows_with placed) (rows_of later) (rows_of others)))
rows-followed (inner r b kids later) others = ap (λ xs. r ∷ (rows_of kids ++ xs)) (rows-followed later others) ∙ ap (λ xs. r ∷ xs) (sym (append_assoc (rows_of kids) (rows_of later) (rows_of others)))

module _ (objectives : ℕ) (cells : List Cell) where
  pub written-followed : (ns others : Nodes) → AreWritten objectives cells ns → AreWritten objectives cells others → AreWritten objectives cells (followed_by ns others)
  written-followed no_nodes others first second = second
  written-followed (leaf r b placed later) others first second = (first.0, first.1, first.2, written-followed later others first.3 second)
  written-followed (inner r b kids later) others first second = (first.0, first.1, first.2, written-followed later others first.3 second)

  pub written-parts : (ns others : Nodes) → AreWritten objectives cells (followed_by ns others) → AreWritten objectives cells ns × AreWritten objectives cells others
  written-parts no_nodes others all = (tt, all)
  written-parts (leaf r b placed later) others all = let rest = written-parts later others all.3 in ((all.0, all.1, all.2, rest.0), rest.1)
  written-parts (inner r b kids later) others all = let rest = written-parts later others all.3 in ((all.0, all.1, all.2, rest.0), rest.1)

pub fit-parts : (objectives : ℕ) (ns others : Nodes) → AreFit objectives (followed_by ns others) → AreFit objectives ns × AreFit objectives others
fit-parts objectives no_nodes others all = (tt, all)
fit-parts objectives (leaf r b placed later) others all = let rest = fit-parts objectives later others all.2 in ((all.0, all.1, rest.0), rest.1)
fit-parts objectives (inner r b kids later) others all = let rest = fit-parts objectives later others all.5 in ((all.0, all.1, all.2, all.3, all.4, rest.0), rest.1)

module _ (new : ℕ) where
  -- what is written of named nodes is written of the names
  module _ (objectives : ℕ) (cells : List Cell) where
    placed_names : (placed named : List Placed) → ArePlacedNamed new placed named → Every (IsPointRow objectives cells) named → ArePlacedWritten new objectives cells placed named
    placed_names [] named are each = tt
    placed_names (p ∷ placed) [] are each = absurd are
    placed_names (p ∷ placed) (q ∷ named) are each = ((λ fresh. each.0), placed_names placed named are.2 each.1)

    pub names_written : (ns ms : Nodes) → AreNamed new ns ms → AreWritten objectives cells ms → AreNamesWritten new objectives cells ns ms
    names_written no_nodes ms are written = tt
    names_written (leaf r b placed later) no_nodes are written = absurd are
    names_written (leaf r b placed later) (leaf name box named others) are written =
        ((λ fresh. record { links = written.0; boxed = written.1 }), placed_names placed named are.2 written.2, names_written later others are.3 written.3)
    names_written (leaf r b placed later) (inner name box named others) are written = absurd are
    names_written (inner r b kids later) no_nodes are written = absurd are
    names_written (inner r b kids later) (leaf name box named others) are written = absurd are
    names_written (inner r b kids later) (inner name box named others) are written =
        ((λ fresh. record { links = written.0; boxed = written.1 }), names_written kids named are.2 written.2, names_written later others are.3 written.3)

  module _ (p : Point) where
    divided-followed : (b : _) (placed : List Placed) (later : Nodes) → divided new b placed later ≡ followed_by (divided new b placed no_nodes) later
    divided-followed b placed later =
        by_test (λ s. (if s then leaf new b placed later else inner new b (group_leaves new placed (split (values_with placed))) later)
        ≡ followed_by (if s then leaf new b placed no_nodes else inner new b (group_leaves new placed (split (values_with placed))) no_nodes) later) (nat_le (length placed) 20) (λ fits. refl) (λ full. refl)

    -- named nodes, parted at the one at this place, and what happens to them as the point goes to it
    pub record IsParted (ns ms : Nodes) (k : ℕ) : Type 0 where
      pub first : Nodes
      pub rest : Nodes
      pub first' : Nodes
      pub node' : Nodes
      pub rest' : Nodes
      pub row : ℕ
      pub are_first : AreNamed new first first'
      pub is_node : AreNamed new (at_node ns k) node'
      pub are_rest : AreNamed new rest rest'
      pub parts : ns ≡ followed_by first (followed_by (at_node ns k) rest)
      pub parts' : ms ≡ followed_by first' (followed_by node' rest')
      pub here : heads node' ≡ row ∷ []
      pub row_is : row ≡ get_or (heads ms) k 0
      pub moved : (c : ℕ) → set (heads ms) k c ≡ heads first' ++ c ∷ heads rest'
      pub inserted : with_point new p ns k ≡ followed_by first (followed_by (with_point new p (at_node ns k) 0) rest)
      pub is_way : way new p.value ns k ≡ way new p.value (at_node ns k) 0
      pub itself : node' ≡ at_node ms k

    pub parted : (ns ms : Nodes) (k : ℕ) → k < length (heads ns) → AreNamed new ns ms → IsParted ns ms k
    parted no_nodes ms k low are = absurd (omega arith)
    parted (leaf r b placed later) no_nodes k low are = absurd are
    parted (leaf r b placed later) (inner name box named others) k low are = absurd are
    parted (inner r b kids later) no_nodes k low are = absurd are
    parted (inner r b kids later) (leaf name box named others) k low are = absurd are
    parted (leaf r b placed later) (leaf name box named others) zero low are = record {
      first = no_nodes;
      rest = later;
      first' = no_nodes;
      node' = leaf name box named no_nodes;
      rest' = others;
      row = name;
      are_first = tt;
      is_node = (are.0, are.1, are.2, tt);
      are_rest = are.3;
      parts = refl;
      parts' = refl;
      here = refl;
      row_is = refl;
      moved = λ c. refl;
      inserted = divided-followed (leaf_box b placed p.value) (placed ++ new_placed new p ∷ []) later;
      is_way = refl;
      itself = refl;
    }
    parted (inner r b kids later) (inner name box named others) zero low are = record {
      first = no_nodes;
      rest = later;
      first' = no_nodes;
      node' = inner name box named no_nodes;
      rest' = others;
      row = name;
      are_first = tt;
      is_node = (are.0, are.1, are.2, tt);
      are_rest = are.3;
      parts = refl;
      parts' = refl;
      here = refl;
      row_is = refl;
      moved = λ c. refl;
      inserted = refl;
      is_way = refl;
      itself = refl;
    }
    parted (leaf r b placed later) (leaf name box named others) (suc k) low are =
        let below = parted later others k (omega arith) are.3 in record {
          first = leaf r b placed below.first;
          rest = below.rest;
          first' = leaf name box named below.first';
          node' = below.node';
          rest' = below.rest';
          row = below.row;
          are_first = (are.0, are.1, are.2, below.are_first);
          is_node = below.is_node;
          are_rest = below.are_rest;
          parts = ap (λ ns. leaf r b placed ns) below.parts;
          parts' = ap (λ ns. leaf name box named ns) below.parts';
          here = below.here;
          row_is = below.row_is;
          moved = λ c. ap (λ xs. name ∷ xs) (below.moved c);
          inserted = ap (λ ns. leaf r b placed ns) below.inserted;
          is_way = below.is_way;
          itself = below.itself;
        }
    parted (inner r b kids later) (inner name box named others) (suc k) low are =
        let below = parted later others k (omega arith) are.3 in record {
          first = inner r b kids below.first;
          rest = below.rest;
          first' = inner name box named below.first';
          node' = below.node';
          rest' = below.rest';
          row = below.row;
          are_first = (are.0, are.1, are.2, below.are_first);
          is_node = below.is_node;
          are_rest = below.are_rest;
          parts = ap (λ ns. inner r b kids ns) below.parts;
          parts' = ap (λ ns. inner name box named ns) below.parts';
          here = below.here;
          row_is = below.row_is;
          moved = λ c. ap (λ xs. name ∷ xs) (below.moved c);
          inserted = ap (λ ns. inner r b kids ns) below.inserted;
          is_way = below.is_way;
          itself = below.itself;
        }
