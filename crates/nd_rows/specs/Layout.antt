-- How nodes and points stand in rows of words.
use Rattle.std.specs.Prelude.{◌≡◌, ℕ, ◌+◌, ◌*◌, ◌<◌, ◌≤◌, ◌⊎◌, ℤ, Some, List, [], ◌∷◌, map, length}
use Rattle.era_core.specs.declared.sizes.TheConstants.{KINDS}
use Rattle.era_core.specs.Lists.{times}
use Rattle.era_core.specs.Versions.{Cell, Copy, look_up}
use Rattle.pls_vectors.specs.Box.{Box}
use Rattle.pls_vectors.specs.Dominance.{IsValue}
use Rattle.pls_vectors.specs.Word.{to_word}
use Rattle.pls_archive.specs.declared.point.Point.{Point}
use Rattle.pls_archive.specs.Lists.{Every, AsOften}
use Rattle.pls_archive.specs.History.{submissions}
use Rattle.pls_archive.specs.Reply.{members}
use Rattle.pls_archive.specs.declared.call.Entry.{Entry}
use Rattle.nd_rows.specs.declared.layout.TheConstants.{LEAF, INNER, POINT, FIRST_LINK, IDEAL, NADIR, VALUE, SOL_LEN, SOL_WORDS, PARTS}
use Rattle.nd_rows.specs.Nodes.{Placed, Nodes, no_nodes, leaf, inner, heads, rows_of, rows_with, points_of, AreBoxed, AreFormed, IsEmptyLeaf, AreApart}

-- these words stand in row r from place p on
abbrev pub HasWords : List Cell → ℕ → ℕ → List ℕ → Type 0
HasWords cells r p [] = Unit {0}
HasWords cells r p (w ∷ ws) = (look_up cells r p ≡ Some w) × HasWords cells r (p + 1) ws

-- so do the words of this value, which has so many parts
pub record HasValue (objectives : ℕ) (cells : List Cell) (r p : ℕ) (v : List ℤ) : Type 0 where
  pub words : HasWords cells r p (map to_word v)
  pub is_value : IsValue v
  pub parts : length v ≡ objectives

-- a row of this kind with these links
pub record IsLinkRow (cells : List Cell) (kind r : ℕ) (links : List ℕ) : Type 0 where
  pub first : look_up cells r 0 ≡ Some (KINDS * length links + kind)
  pub linked : HasWords cells r FIRST_LINK links

-- the row has the corners of this box
pub record IsBoxRow (objectives : ℕ) (cells : List Cell) (r : ℕ) (b : Box) : Type 0 where
  pub ideal : HasValue objectives cells r IDEAL b.ideal
  pub nadir : HasValue objectives cells r NADIR b.nadir

-- the row has this point
pub record IsPointRow (objectives : ℕ) (cells : List Cell) (p : Placed) : Type 0 where
  pub first : IsLinkRow cells POINT p.row []
  pub value : HasValue objectives cells p.row VALUE p.point.value
  pub sol_len : look_up cells p.row SOL_LEN ≡ Some p.point.sol.len
  pub sol_words : HasWords cells p.row SOL_WORDS p.point.sol.words
  pub parts : look_up cells p.row PARTS ≡ Some (length p.point.value)
  pub some_items : 1 ≤ p.point.sol.len
  pub few_items : p.point.sol.len ≤ 256
  pub all_words : length p.point.sol.words ≡ 32

-- the row of the copy has this point
abbrev pub HasPoint : ℕ → Copy → ℕ → Point → Type 0
HasPoint objectives c row p = IsPointRow objectives c.cells (record { row = row; point = p })

-- The nodes stand in their rows, with what is below them. A leaf without points has no box
abbrev pub AreWritten : ℕ → List Cell → Nodes → Type 0
AreWritten objectives cells no_nodes = Unit {0}
AreWritten objectives cells (leaf r b placed later) =
    IsLinkRow cells LEAF r (rows_with placed) × (0 < length placed → IsBoxRow objectives cells r b) × Every (IsPointRow objectives cells) placed × AreWritten objectives cells later
AreWritten objectives cells (inner r b kids later) =
    IsLinkRow cells INNER r (heads kids) × IsBoxRow objectives cells r b × AreWritten objectives cells kids × AreWritten objectives cells later

-- The copy reads as this tree: all its rows are different, each node has as many links as its kind may have, each box encloses
-- the points below it, and no point weakly dominates another
pub record IsTreeOf (objectives : ℕ) (c : Copy) (t : Nodes) : Type 0 where
  pub rooted : heads t ≡ c.root ∷ []
  pub rows_are : c.rows ≡ rows_of t
  pub once : (r : ℕ) → times r c.rows ≤ 1
  pub written : AreWritten objectives c.cells t
  pub formed : IsEmptyLeaf t ⊎ AreFormed objectives t
  pub boxed : AreBoxed t
  pub apart : AreApart (points_of t)

-- the copy reads as a tree
abbrev pub IsLawful : ℕ → Copy → Type 0
IsLawful objectives c = (t : Nodes) × IsTreeOf objectives c t

-- the copy reads as a tree whose points are the members of the nondominated archive after these entries
abbrev pub StandsFor : ℕ → Copy → List Entry → Type 0
StandsFor objectives c entries = (t : Nodes) × IsTreeOf objectives c t × AsOften (members (submissions entries)) (points_of t)
