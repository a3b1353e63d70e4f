-- The word arena: the root, one reservation for each pass, one owner for each row, and the words of each row.
-- A reservation is a hazard era: the version from which on its pass may read.
use Rattle.std.specs.Prelude.{ℕ, zero, suc, ◌+◌, ◌*◌, ◌/◌, ◌%◌, min, List, [], ◌∷◌, slice_index, slice_set, replicate}
use Rattle.era_core.specs.declared.sizes.TheConstants.{WIDTH, MOST_LINKS, KINDS, ROOT_ROWS}
use Rattle.era_core.specs.Lists.{tree}

-- the root word: a version, and the row at which its tree stands
abbrev pub root_word : ℕ → ℕ → ℕ
root_word n r = n * ROOT_ROWS + r

abbrev pub version : List ℕ → ℕ
version ws = slice_index ws 0 / ROOT_ROWS

abbrev pub root_row : List ℕ → ℕ
root_row ws = slice_index ws 0 % ROOT_ROWS

-- so many values of f, from p on
abbrev pub run_of : (ℕ → ℕ) → ℕ → ℕ → List ℕ
run_of f p zero = []
run_of f p (suc n) = f p ∷ run_of f (p + 1) n

-- the links of a row whose words f gives: words 1 to n, where n is what word 0 counts, and as many as there is room for at most
abbrev pub links_by : (ℕ → ℕ) → List ℕ
links_by f = run_of f 1 (min MOST_LINKS (f 0 / KINDS))

module _ (passes rows : ℕ) where
  -- where the words stand
  abbrev pub reservation_at : ℕ → ℕ
  reservation_at k = 1 + k

  abbrev pub owner_at : ℕ → ℕ
  owner_at r = 1 + passes + r

  abbrev pub cell_at : ℕ → ℕ → ℕ
  cell_at r p = 1 + passes + rows + WIDTH * r + p

  -- how many words there are
  abbrev pub words_len : ℕ
  words_len = 1 + passes + rows + WIDTH * rows

  -- the reservation of a pass: 0 for none, n + 1 for version n
  abbrev pub reservation : List ℕ → ℕ → ℕ
  reservation ws k = slice_index ws (reservation_at k)

  -- the owner of a row: 0 for a free row, k + 1 for one that pass k took
  abbrev pub owner : List ℕ → ℕ → ℕ
  owner ws r = slice_index ws (owner_at r)

  -- the word of a row at a place
  abbrev pub cell : List ℕ → ℕ → ℕ → ℕ
  cell ws r p = slice_index ws (cell_at r p)

  abbrev pub links : List ℕ → ℕ → List ℕ
  links ws r = links_by (cell ws r)

  -- the tree at a row, as the words stand
  abbrev pub tree_at : List ℕ → ℕ → List ℕ
  tree_at ws r = tree (links ws) rows r

  -- the rows of the current version
  abbrev pub live : List ℕ → List ℕ
  live ws = tree_at ws (root_row ws)

  -- version 0 stands at row 0, an empty leaf with owner 1, and all else is 0
  abbrev pub start_words : List ℕ
  start_words = slice_set (replicate words_len 0) (owner_at 0) 1
