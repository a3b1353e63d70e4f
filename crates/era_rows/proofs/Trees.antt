-- Trees by the words that a pass knows, and the copies that they make.
use Rattle.std.proofs.Common.{◌≡◌, ℕ, ◌<◌, Bool, true, false, cond, eqb, Some, List, [], ◌∷◌, refl, sym, ap, ◌∙◌, arith, lt-ltb}
use Rattle.std.specs.Prelude.{◌&&◌, is_some, unwrap_or}
use Rattle.std.proofs.lemmas.Bool.{and_parts, eqb-true, true≢false, ltb-true}
use Rattle.era_core.specs.declared.sizes.TheConstants.{WIDTH}
use Rattle.era_core.specs.Lists.{times, In, is_in, tree}
use Rattle.era_core.specs.Words.{tree_at}
use Rattle.era_core.specs.Versions.{Cell, look_up, known, known_links, Covers, IsClosed, Stands}
use Rattle.era_core.proofs.WordFacts.{links_by-same}
use Rattle.era_core.proofs.TreeFacts.{tree_same}
use Rattle.era_core.proofs.Readers.{tree_stands}
use Rattle.era_rows.specs.Trees.{IsTree}
use Rattle.era_rows.specs.Known.{of_rows, copy_by}
use Rattle.era_rows.proofs.Seats.{at_filter}
use mathlib.Core.Option.{some}
use lib.ListN.{get_elem?}

-- the words of a row that is one of these are looked up as before
pub look_up-of_rows : (xs : List ℕ) (cells : List Cell) (r p : ℕ) → In r xs → look_up (of_rows xs cells) r p ≡ look_up cells r p
look_up-of_rows xs [] r p here = refl
look_up-of_rows xs (c ∷ cs) r p here = by_test (eqb c.row r && eqb c.place p) refl (is_in c.row xs) refl (look_up-of_rows xs cs r p here)
  where
    by_test : (t : Bool) → (eqb c.row r && eqb c.place p) ≡ t → (b : Bool) → is_in c.row xs ≡ b → look_up (of_rows xs cs) r p ≡ look_up cs r p
        → look_up (cond b (c ∷ of_rows xs cs) (of_rows xs cs)) r p ≡ cond t (Some c.word) (look_up cs r p)
    by_test true e true i rest = ap (λ t. cond t (Some c.word) (look_up (of_rows xs cs) r p)) e
    by_test true e false i rest =
        let same = eqb-true c.row r (and_parts (eqb c.row r) (eqb c.place p) e).0 in
        absurd (true≢false (sym (ap (λ x. is_in x xs) same ∙ lt-ltb 0 (times r xs) here) ∙ i))
    by_test false e true i rest = ap (λ t. cond t (Some c.word) (look_up (of_rows xs cs) r p)) e ∙ rest
    by_test false e false i rest = rest

module _ (xs : List ℕ) (cells : List Cell) (r : ℕ) (here : In r xs) where
  pub known-of_rows : (p : ℕ) → known (of_rows xs cells) r p ≡ known cells r p
  known-of_rows p = ap (λ o. unwrap_or o 0) (look_up-of_rows xs cells r p here)

  pub known_links-of_rows : known_links (of_rows xs cells) r ≡ known_links cells r
  known_links-of_rows = links_by-same (known (of_rows xs cells) r) (known cells r) (λ p place. known-of_rows p)

  pub covers-of_rows : Covers (of_rows xs cells) r → Covers cells r
  covers-of_rows covers p below = ap is_some (sym (look_up-of_rows xs cells r p here)) ∙ covers p (let same = known-of_rows 0 in omega arith)

-- each cell of these rows is one of before, and its row is one of these
pub cell-of_rows : (xs : List ℕ) (cells : List Cell) (i : ℕ) (c : Cell) → get_elem? (of_rows xs cells) i ≡ some c → (j : ℕ) × (get_elem? cells j ≡ some c) × In c.row xs
cell-of_rows xs cells i c there = let was = at_filter (λ (x : Cell). is_in x.row xs) cells i c there in (was.0, was.1, ltb-true 0 (times c.row xs) was.2)

module _ (rows : ℕ) (cells : List Cell) (q : ℕ) where
  abbrev rows_by : List ℕ
  rows_by = tree (known_links cells) rows q

  -- the words of the tree alone make the same tree
  pub tree_by_own : rows_by ≡ tree (known_links (of_rows rows_by cells)) rows q
  tree_by_own = sym (tree_same (known_links cells) (known_links (of_rows rows_by cells)) rows q (λ x here. known_links-of_rows rows_by cells x here))

  -- a tree by known words is a closed copy, where each word has a place
  pub copy_closed : IsTree (copy_by rows cells q) → ((i : ℕ) (c : Cell) → get_elem? cells i ≡ some c → c.place < WIDTH) → IsClosed rows (copy_by rows cells q)
  copy_closed is_tree placed = record {
    once = is_tree.once;
    within = λ i c there. (cell-of_rows rows_by cells i c there).2;
    placed = λ i c there. let was = cell-of_rows rows_by cells i c there in placed was.0 c was.1;
    covers = is_tree.covered;
    is_tree = tree_by_own;
  }

  module _ (passes : ℕ) (ws : List ℕ) (stand : Stands passes rows ws cells) where
    -- where the known words stand, those of the copy do
    pub copy_stands : Stands passes rows ws (copy_by rows cells q).cells
    copy_stands i c there = let was = cell-of_rows rows_by cells i c there in stand was.0 c was.1

    -- and the tree stands that they make
    pub copy_tree : IsTree (copy_by rows cells q) → tree_at passes rows ws q ≡ (copy_by rows cells q).rows
    copy_tree is_tree = tree_stands passes rows ws cells stand q (λ x here. covers-of_rows rows_by cells x here (is_tree.covered x here))
