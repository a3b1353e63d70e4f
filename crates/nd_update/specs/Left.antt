-- What is left of a tree without the points that a value weakly dominates, as it stands in rows: the nodes that may change are put on
-- a list, and then settled from its end.
use Rattle.std.specs.Prelude.{◌≡◌, ℕ, zero, suc, ◌+◌, ◌-◌, ◌*◌, ◌%◌, ◌<◌, ◌≤◌, nat_lt, nat_le, ◌&&◌, Bool, true, false, IsTrue, ℤ, Option, Some, None, List, [], ◌∷◌, ◌++◌, length, map, replicate, if◌then◌else◌}
use Rattle.std.specs.List.{list_any}
use Rattle.era_core.specs.declared.sizes.TheConstants.{ROOT_ROWS}
use Rattle.era_core.specs.Lists.{times, In}
use Rattle.era_core.specs.Versions.{Cell, Copy}
use Rattle.pls_vectors.specs.Box.{Box}
use Rattle.pls_vectors.specs.Dominance.{weakly_dominates}
use Rattle.pls_archive.specs.declared.point.Point.{Point}
use Rattle.pls_archive.specs.Lists.{how_many}
use Rattle.nd_rows.specs.Nodes.{Placed, Nodes, no_nodes, leaf, inner, heads, rows_of, points_of, followed_by}
use Rattle.nd_rows.specs.Layout.{IsBoxRow}
use Rattle.nd_rows.specs.Walk.{ArePending, HasPlaced}
use Rattle.nd_update.specs.Removal.{is_hit, without_dominated, dropped}
use Rattle.nd_update.specs.Naming.{AreNamed, names_of, AreNamesWritten}

-- the points that go
abbrev pub hits : List ℤ → List Point → ℕ
hits v points = how_many (λ (p : Point). weakly_dominates v p.value) points

-- ---- the list

-- A word of the list for each node: its row; and where the value weakly dominates the nadir of its box, so that points below it may
-- go, a mark for a leaf, or one with the number of its children for an inner node
abbrev pub leaf_word : ℕ → ℕ
leaf_word r = 3 * ROOT_ROWS + r

abbrev pub inner_word : ℕ → ℕ → ℕ
inner_word n r = (4 + n) * ROOT_ROWS + r

module _ (v : List ℤ) where
  -- the word of the first of the nodes
  abbrev pub entry : Nodes → ℕ
  entry no_nodes = 0
  entry (leaf r b placed later) = if nat_lt 0 (length placed) && weakly_dominates v b.nadir then leaf_word r else r
  entry (inner r b kids later) = if weakly_dominates v b.nadir then inner_word (length (heads kids)) r else r

  -- the nodes that are still to be looked at after the first: the children of one that may change come last
  abbrev pub next : Nodes → Nodes
  next no_nodes = no_nodes
  next (leaf r b placed later) = later
  next (inner r b kids later) = followed_by later (if weakly_dominates v b.nadir then kids else no_nodes)

  -- the nodes that are still to be looked at after k of them, and the words of these k
  abbrev pub left : ℕ → Nodes → Nodes
  left zero ns = ns
  left (suc k) ns = next (left k ns)

  abbrev pub entries : ℕ → Nodes → List ℕ
  entries zero ns = []
  entries (suc k) ns = entries k ns ++ entry (left k ns) ∷ []

  -- all that may change are on the list
  pub record AreAllListed (ns : Nodes) (n : ℕ) (work : List ℕ) : Type 0 where
    pub none_left : left n ns ≡ no_nodes
    pub some : (k : ℕ) → k < n → 0 < length (heads (left k ns))
    pub listed : work ≡ entries n ns

-- These nodes of a copy are still to be looked at, and stand on the list after others that were; there are so many rows
pub record AreListed (objectives : ℕ) (c : Copy) (rows : ℕ) (ns : Nodes) (others work : List ℕ) : Type 0 where
  pub pending : ArePending objectives c ns
  pub listed : work ≡ others ++ heads ns
  pub room : length others + length (rows_of ns) ≤ rows

-- ---- a leaf

-- which of its points go, at 20 places
abbrev pub hits_of : List ℤ → List Placed → List Bool
hits_of v placed = map (λ (p : Placed). weakly_dominates v p.point.value) placed ++ replicate (20 - length placed) false

abbrev pub hits_in : List Bool → ℕ
hits_in hits = how_many (λ (hit : Bool). hit) hits

-- the row of the copy has this leaf, and these of its points go
pub record IsHitLeaf (objectives : ℕ) (c : Copy) (row count : ℕ) (hits : List Bool) (v : List ℤ) (b : Box) (placed : List Placed) : Type 0 where
  pub points : HasPlaced objectives c row placed
  pub counted : length placed ≡ count
  pub few : length placed ≤ 20
  pub boxed : IsBoxRow objectives c.cells row b
  pub corners : IsTrue (weakly_dominates b.ideal b.nadir)
  pub hit : hits ≡ hits_of v placed

-- the row of the copy has the box of an inner node
pub record IsBoxed (objectives : ℕ) (c : Copy) (row : ℕ) (b : Box) : Type 0 where
  pub boxed : IsBoxRow objectives c.cells row b
  pub corners : IsTrue (weakly_dominates b.ideal b.nadir)

-- ---- what is left of each

-- A node that was settled: it is gone, it stands as it did in its row, or what is left of it stands in this row
abbrev pub gone_word : ℕ
gone_word = 2 * ROOT_ROWS

abbrev pub result_word : Bool → List ℕ → ℕ
result_word changed [] = gone_word
result_word false (r ∷ rs) = r
result_word true (r ∷ rs) = ROOT_ROWS + r

-- whether one of the nodes has changed or is gone, and the rows of those that are left, by their words
abbrev pub is_touched : List ℕ → Bool
is_touched words = list_any (λ w. nat_le ROOT_ROWS w) words

abbrev pub alive : List ℕ → List ℕ
alive [] = []
alive (w ∷ words) = if nat_lt w gone_word then w % ROOT_ROWS ∷ alive words else alive words

module _ (new : ℕ) (v : List ℤ) where
  -- what is left of this node is named like this, and told by the word
  pub record IsResult (word : ℕ) (node named : Nodes) : Type 0 where
    pub is_named : AreNamed new (without_dominated new v node) named
    pub told : word ≡ result_word (is_hit v (points_of node)) (heads named)

  -- the same of nodes side by side, a word for each
  abbrev pub AreResults : List ℕ → Nodes → Nodes → Type 0
  AreResults [] no_nodes named = named ≡ no_nodes
  AreResults [] (leaf r b placed later) named = ⊥
  AreResults [] (inner r b kids later) named = ⊥
  AreResults (w ∷ ws) no_nodes named = ⊥
  AreResults (w ∷ ws) (leaf r b placed later) named =
      (m : Nodes) × (others : Nodes) × (named ≡ followed_by m others) × IsResult w (leaf r b placed no_nodes) m × AreResults ws later others
  AreResults (w ∷ ws) (inner r b kids later) named =
      (m : Nodes) × (others : Nodes) × (named ≡ followed_by m others) × IsResult w (inner r b kids no_nodes) m × AreResults ws later others

  -- What is left of the nodes stands in these cells: where a row is named, it is one that was taken; the rows that are marked are those
  -- that go; and so many points go
  pub record IsSettled (objectives : ℕ) (ns named : Nodes) (cells : List Cell) (taken marked : List ℕ) (removed : ℕ) : Type 0 where
    pub is_named : AreNamed new (without_dominated new v ns) named
    pub written : AreNamesWritten new objectives cells (without_dominated new v ns) named
    pub taken_are : (x : ℕ) → times x taken ≡ times x (names_of new (without_dominated new v ns) named)
    pub marked_are : (x : ℕ) → times x marked ≡ times x (dropped v ns)
    pub counted : removed ≡ hits v (points_of ns)

  -- The list after these nodes were settled: words of other nodes, and then one for each of them
  pub record IsSwept (objectives : ℕ) (ns : Nodes) (others work : List ℕ) (cells : List Cell) (taken marked : List ℕ) (removed : ℕ) : Type 0 where
    pub results : List ℕ
    pub named : Nodes
    pub listed : work ≡ others ++ results
    pub are_results : AreResults results ns named
    pub settled : IsSettled objectives ns named cells taken marked removed

  -- What is left of one node, told by the word
  pub record IsNodeLeft (objectives : ℕ) (node : Nodes) (cells : List Cell) (taken marked : List ℕ) (removed word : ℕ) : Type 0 where
    pub named : Nodes
    pub result : IsResult word node named
    pub settled : IsSettled objectives node named cells taken marked removed

  -- The first of these nodes of a copy is the next to be settled, and is the last on the list but for those that were
  pub record CanSettle (objectives : ℕ) (c : Copy) (ns : Nodes) (others work : List ℕ) (cells : List Cell) (taken marked : List ℕ) (removed : ℕ) : Type 0 where
    pub pending : ArePending objectives c ns
    pub some : 0 < length (heads ns)
    pub once : (x : ℕ) → times x (rows_of ns) ≤ 1
    pub swept : IsSwept objectives (next v ns) (others ++ entry v ns ∷ []) work cells taken marked removed

  -- The children of an inner node were settled, and some of their points go
  pub record AreKidsLeft (objectives : ℕ) (words : List ℕ) (kids named : Nodes) (cells : List Cell) (fresh : List ℕ) : Type 0 where
    pub are_results : AreResults words kids named
    pub written : AreNamesWritten new objectives cells (without_dominated new v kids) named
    pub among : (x : ℕ) → times x (names_of new (without_dominated new v kids) named) ≤ times x fresh
    pub small : (x : ℕ) → In x (heads named) → x < ROOT_ROWS
    pub known : times new (rows_of kids) ≡ 0
    pub hit : is_hit v (points_of kids) ≡ true

  -- what is left of a tree: its root row, if any node is left
  pub record IsLeft (objectives : ℕ) (t : Nodes) (cells : List Cell) (taken marked : List ℕ) (root : Option ℕ) (removed : ℕ) : Type 0 where
    pub named : Nodes
    pub settled : IsSettled objectives t named cells taken marked removed
    pub none_left : root ≡ None → named ≡ no_nodes
    pub rooted : (r : ℕ) → root ≡ Some r → heads named ≡ r ∷ []
