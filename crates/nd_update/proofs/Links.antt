-- The rows of a tree by the links of its rows: the copy that these words make at its root is the tree.
use Rattle.std.proofs.Common.{◌≡◌, ℕ, zero, suc, ◌<◌, ◌≤◌, List, [], ◌∷◌, ◌++◌, length, refl, sym, ap, ap₂, subst, ◌∙◌, arith, length-append, append-nil}
use Rattle.std.specs.List.{flat_map}
use Rattle.era_core.specs.Lists.{In, times, tree}
use Rattle.era_core.specs.Versions.{Cell, known_links}
use Rattle.era_rows.specs.Known.{of_rows, copy_by}
use Rattle.era_rows.proofs.Trees.{look_up-of_rows}
use Rattle.pls_archive.specs.Lists.{Every}
use Rattle.nd_rows.specs.declared.layout.TheConstants.{LEAF, INNER, POINT}
use Rattle.nd_rows.specs.Nodes.{Placed, Nodes, no_nodes, leaf, inner, heads, rows_of, rows_with, AreFormed}
use Rattle.nd_rows.specs.Layout.{IsLinkRow, IsPointRow, AreWritten, IsTreeOf}
use Rattle.nd_update.proofs.Alike.{written-alike}

module _ (objectives : ℕ) (cells : List Cell) (reads : (kind r : ℕ) (links : List ℕ) → IsLinkRow cells kind r links → kind < 4 → length links ≤ 39 → known_links cells r ≡ links) where
  abbrev at : ℕ → ℕ → List ℕ
  at n r = tree (known_links cells) n r

  point-links : (n : ℕ) (p : Placed) → IsPointRow objectives cells p → at n p.row ≡ p.row ∷ []
  point-links zero p is = refl
  point-links (suc n) p is = ap (λ links. p.row ∷ flat_map (at n) links) (reads POINT p.row [] is.first (omega arith) (omega arith))

  points-links : (n : ℕ) (placed : List Placed) → Every (IsPointRow objectives cells) placed → flat_map (at n) (rows_with placed) ≡ rows_with placed
  points-links n [] each = refl
  points-links n (p ∷ placed) each = ap₂ (λ xs ys. xs ++ ys) (point-links n p each.0) (points-links n placed each.1)

  length-rows : (placed : List Placed) → length (rows_with placed) ≡ length placed
  length-rows [] = refl
  length-rows (p ∷ placed) = ap suc (length-rows placed)

  -- as many levels as there are rows are enough
  pub rows_by_links : (n : ℕ) (ns : Nodes) → AreWritten objectives cells ns → AreFormed objectives ns → length (rows_of ns) ≤ n → flat_map (at n) (heads ns) ≡ rows_of ns
  rows_by_links n no_nodes written formed low = refl
  rows_by_links zero (leaf r b placed later) written formed low = absurd (omega arith)
  rows_by_links (suc n) (leaf r b placed later) written formed low =
      let parts = length-append (rows_with placed) (rows_of later) in
      let most = formed.1 in
      let long = length-rows placed in
      ap₂ (λ links xs. (r ∷ flat_map (at n) links) ++ xs) (reads LEAF r (rows_with placed) written.0 (omega arith) (omega arith)) (rows_by_links (suc n) later written.3 formed.2 (omega arith))
      ∙ ap (λ ys. (r ∷ ys) ++ rows_of later) (points-links n placed written.2)
  rows_by_links zero (inner r b kids later) written formed low = absurd (omega arith)
  rows_by_links (suc n) (inner r b kids later) written formed low =
      let parts = length-append (rows_of kids) (rows_of later) in
      ap₂ (λ links xs. (r ∷ flat_map (at n) links) ++ xs) (reads INNER r (heads kids) written.0 (omega arith) formed.2) (rows_by_links (suc n) later written.3 formed.4 (omega arith))
      ∙ ap (λ ys. (r ∷ ys) ++ rows_of later) (rows_by_links n kids written.2 formed.3 (omega arith))

  -- what these words make at the root
  module _ (rows root : ℕ) (t : Nodes) (is : IsTreeOf objectives (record { root = root; rows = rows_of t; cells = cells }) t) (formed : AreFormed objectives t) (low : length (rows_of t) ≤ rows) where
    pub rows_made : (copy_by rows cells root).rows ≡ rows_of t
    rows_made =
        sym (append-nil (at rows root)) ∙ sym (ap (flat_map (at rows)) is.rooted) ∙ rows_by_links rows t is.written formed low

    pub tree_made : IsTreeOf objectives (copy_by rows cells root) t
    tree_made = record {
      rooted = is.rooted;
      rows_are = rows_made;
      once = λ r. subst (λ xs. times r xs ≤ 1) (sym rows_made) (is.once r);
      written = written-alike objectives cells (of_rows (at rows root) cells) t (λ r here p w there. look_up-of_rows (at rows root) cells r p (subst (In r) (sym rows_made) here) ∙ there) is.written;
      formed = is.formed;
      boxed = is.boxed;
      apart = is.apart;
    }
