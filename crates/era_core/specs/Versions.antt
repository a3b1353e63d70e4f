-- Versions: copies of the trees that were published. The running words keep none of them.
use Rattle.std.specs.Prelude.{◌≡◌, ℕ, zero, suc, ◌+◌, ◌/◌, ◌<◌, ◌≤◌, min, true, ◌&&◌, ◌==◌, if◌then◌else◌, Option, Some, None, is_some, unwrap_or, List, [], ◌∷◌, flat_map}
use Rattle.era_core.specs.declared.sizes.TheConstants.{WIDTH, MOST_LINKS, KINDS}
use Rattle.era_core.specs.Lists.{times, In, tree}
use Rattle.era_core.specs.Words.{links_by, cell, tree_at}
use mathlib.Core.Option.{some}
use lib.ListN.{get_elem?}

-- the word of a row at a place
pub record Cell : Type 0 where
  pub row : ℕ
  pub place : ℕ
  pub word : ℕ

-- a published tree: its root row, its rows, and words of them
pub record Copy : Type 0 where
  pub root : ℕ
  pub rows : List ℕ
  pub cells : List Cell

-- the word of the row at the place, where the cells have one: the first that they have
abbrev pub look_up : List Cell → ℕ → ℕ → Option ℕ
look_up [] r p = None
look_up (c ∷ cs) r p = if (c.row == r) && (c.place == p) then Some c.word else look_up cs r p

-- the same, and 0 where the cells have none
abbrev pub known : List Cell → ℕ → ℕ → ℕ
known cells r p = unwrap_or (look_up cells r p) 0

abbrev pub known_links : List Cell → ℕ → List ℕ
known_links cells r = links_by (known cells r)

-- the cells have word 0 of the row and each link that it counts
abbrev pub Covers : List Cell → ℕ → Type 0
Covers cells r = (p : ℕ) → p < 1 + min MOST_LINKS (known cells r 0 / KINDS) → is_some (look_up cells r p) ≡ true

-- the copy has words of its rows alone, and at least those that the tree at its root is made of; its rows are that tree's,
-- and no row stands there twice
pub record IsClosed (rows : ℕ) (c : Copy) : Type 0 where
  pub once : (r : ℕ) → times r c.rows ≤ 1
  pub within : (i : ℕ) (x : Cell) → get_elem? c.cells i ≡ some x → In x.row c.rows
  pub placed : (i : ℕ) (x : Cell) → get_elem? c.cells i ≡ some x → x.place < WIDTH
  pub covers : (r : ℕ) → In r c.rows → Covers c.cells r
  pub is_tree : c.rows ≡ tree (known_links c.cells) rows c.root

module _ (passes rows : ℕ) where
  -- each word of the copy stands now as in the copy
  abbrev pub Stands : List ℕ → List Cell → Type 0
  Stands ws cells = (i : ℕ) (c : Cell) → get_elem? cells i ≡ some c → cell passes rows ws c.row c.place ≡ c.word

  -- words p, p + 1 and so on of the row, so many of them
  abbrev pub cells_from : List ℕ → ℕ → ℕ → ℕ → List Cell
  cells_from ws r p zero = []
  cells_from ws r p (suc n) = record { row = r; place = p; word = cell passes rows ws r p } ∷ cells_from ws r (p + 1) n

  -- the tree at the row as it stands, with all words of its rows
  abbrev pub copy_at : List ℕ → ℕ → Copy
  copy_at ws r = record { root = r; rows = tree_at passes rows ws r; cells = flat_map (λ x. cells_from ws x 0 WIDTH) (tree_at passes rows ws r) }
