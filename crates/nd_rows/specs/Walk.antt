-- The walk over a tree: the nodes that are pending, and what one of them answers, or gives.
use Rattle.std.specs.Prelude.{is_some, unwrap_or, ◌≡◌, ℕ, ◌+◌, ◌≤◌, ◌⊎◌, ◌&&◌, ℤ, Bool, true, false, Option, Some, None, List, [], ◌∷◌, ◌++◌, length, reverse, if◌then◌else◌}
use Rattle.era_core.specs.Lists.{In}
use Rattle.era_core.specs.Versions.{Copy}
use Rattle.pls_vectors.specs.Box.{Box}
use Rattle.pls_vectors.specs.Dominance.{weakly_dominates}
use Rattle.pls_archive.specs.declared.point.Point.{Point}
use Rattle.pls_archive.specs.Lists as lists
use Rattle.nd_rows.specs.declared.question.Question.{Question}
use Rattle.nd_rows.specs.declared.question.Question.TheVariants.{Covers, Equals}
use Rattle.std.specs.List.{list_any}
use Rattle.nd_rows.specs.declared.layout.TheConstants.{FIRST_LINK}
use Rattle.nd_rows.specs.Nodes.{Placed, Nodes, no_nodes, leaf, inner, heads, rows_of, rows_with, points_of, points_with, AreBoxed, AreFormed, IsEmptyLeaf, is_mixed, necessary}
use Rattle.nd_rows.specs.Layout.{HasWords, IsPointRow, HasPoint, AreWritten}

-- one more pair of parts was compared, which may be equal
abbrev pub with_equal : Bool → Option Bool → Option Bool
with_equal equal None = None
with_equal equal (Some all) = Some (equal && all)

-- the first value weakly dominates the second: whether they are equal
abbrev pub sided : List ℤ → List ℤ → Option Bool
sided xs v = if weakly_dominates xs v then Some (weakly_dominates v xs) else None

-- or the second the first, where they are turned round
abbrev pub side_of : Bool → List ℤ → List ℤ → Option Bool
side_of false xs v = sided xs v
side_of true xs v = sided v xs

-- a point with this value answers the question: it weakly dominates the value, or has it
abbrev pub meets : Question → List ℤ → List ℤ → Bool
meets Covers x v = weakly_dominates x v
meets Equals x v = weakly_dominates x v && weakly_dominates v x

-- some point does
abbrev pub some_meets : Question → List Point → List ℤ → Bool
some_meets ask points v = list_any (λ (p : Point). meets ask p.value v) points

-- whether a point answers the question, by the side of its value
abbrev pub point_answer : Question → Option Bool → Bool
point_answer Covers side = is_some side
point_answer Equals side = unwrap_or side false

-- What the nadir and the ideal tell, by their sides: whether some point in the box weakly dominates the value, or nothing
abbrev pub box_answer : Option Bool → Option Bool → Option Bool
box_answer (Some equal) ideal = Some true
box_answer None None = Some false
box_answer None (Some true) = Some false
box_answer None (Some false) = None

-- the same, whether some point in the box has the value, by the value's side of the nadir
abbrev pub equal_answer : Option Bool → Option Bool → Option Bool
equal_answer None ideal = Some false
equal_answer (Some at_nadir) None = Some false
equal_answer (Some true) (Some at_ideal) = Some at_ideal
equal_answer (Some false) (Some true) = Some false
equal_answer (Some false) (Some false) = None

-- what the box tells about the question
abbrev pub box_told : Question → Box → List ℤ → Option Bool
box_told Covers b v = box_answer (sided b.nadir v) (sided b.ideal v)
box_told Equals b v = equal_answer (sided v b.nadir) (sided b.ideal v)

-- the row links these points, which are in the copy
pub record HasPlaced (objectives : ℕ) (c : Copy) (row : ℕ) (placed : List Placed) : Type 0 where
  pub linked : HasWords c.cells row FIRST_LINK (rows_with placed)
  pub points : lists.Every (IsPointRow objectives c.cells) placed
  pub among : (x : ℕ) → In x (rows_with placed) → In x c.rows
  pub few : length placed ≤ 38

-- what is below the first of the nodes, and the others
abbrev pub points_below : Nodes → List Point
points_below no_nodes = []
points_below (leaf r b placed later) = points_with placed
points_below (inner r b kids later) = points_of kids

abbrev pub kids_of : Nodes → Nodes
kids_of no_nodes = no_nodes
kids_of (leaf r b placed later) = no_nodes
kids_of (inner r b kids later) = kids

abbrev pub later_of : Nodes → Nodes
later_of no_nodes = no_nodes
later_of (leaf r b placed later) = later
later_of (inner r b kids later) = later

-- the box of the first node leaves the question open
abbrev pub is_open : List ℤ → Nodes → Bool
is_open v no_nodes = false
is_open v (leaf r b placed later) = is_mixed b v
is_open v (inner r b kids later) = is_mixed b v

-- nodes of a copy, as they are in a tree
pub record ArePending (objectives : ℕ) (c : Copy) (ns : Nodes) : Type 0 where
  pub written : AreWritten objectives c.cells ns
  pub formed : IsEmptyLeaf ns ⊎ AreFormed objectives ns
  pub boxed : AreBoxed ns
  pub among : (x : ℕ) → In x (rows_of ns) → In x c.rows

-- and the first of them stands in this row
pub record BeginAt (objectives : ℕ) (c : Copy) (row : ℕ) (ns : Nodes) : Type 0 where
  pub pending : ArePending objectives c ns
  pub here : heads ns ≡ row ∷ heads (later_of ns)

-- The first node answers the question for the points below it, and leaves the work list; or it puts its children
-- at the end, the first one last
abbrev pub Asks : Question → List ℤ → Nodes → Option Bool → List ℕ → List ℕ → Type 0
Asks ask v ns (Some answer) before after = (some_meets ask (points_below ns) v ≡ answer) × (after ≡ before)
Asks ask v ns None before after =
    (points_below ns ≡ points_of (kids_of ns)) × (is_open v ns ≡ true) × (reverse after ≡ heads (kids_of ns) ++ reverse before)

-- the nodes on a work list, read from its end, where there are so many rows
pub record AreOnList (objectives : ℕ) (c : Copy) (rows : ℕ) (work : List ℕ) (ns : Nodes) : Type 0 where
  pub pending : ArePending objectives c ns
  pub on_list : heads ns ≡ reverse work
  pub few : length (rows_of ns) ≤ rows

-- The nodes that are left on the work list, after k that were taken from it
pub record AreLeft (objectives : ℕ) (c : Copy) (ns : Nodes) (k : ℕ) (work : List ℕ) (left : Nodes) : Type 0 where
  pub pending : ArePending objectives c left
  pub on_list : heads left ≡ reverse work
  pub counted : length (rows_of left) + k ≤ length (rows_of ns)

-- the row has one of these points, and is one of these rows
pub record IsRowOf (objectives : ℕ) (c : Copy) (rows : List ℕ) (points : List Point) (row : ℕ) : Type 0 where
  pub point : Point
  pub has : HasPoint objectives c row point
  pub needed : In row rows
  pub among : lists.In point points

-- the row that is found is what it was before, or such a row
abbrev pub Finds : ℕ → Copy → List ℕ → List Point → Option ℕ → Option ℕ → Type 0
Finds objectives c rows points before after = (after ≡ before) ⊎ ((row : ℕ) × (after ≡ Some row) × IsRowOf objectives c rows points row)

-- After k nodes were asked, those that are left answer the question as those at the start do, and have and need no other rows; each
-- of them has points below it
pub record Asked (objectives : ℕ) (c : Copy) (ask : Question) (v : List ℤ) (ns : Nodes) (k : ℕ) (work : List ℕ) : Type 0 where
  pub left : Nodes
  pub are_left : AreLeft objectives c ns k work left
  pub formed : AreFormed objectives left
  pub same_answer : some_meets ask (points_of left) v ≡ some_meets ask (points_of ns) v
  pub needed : (x : ℕ) → In x (necessary v left) → In x (necessary v ns)
  pub below : (p : Point) → lists.In p (points_of left) → lists.In p (points_of ns)

-- the points that a leaf has itself
abbrev pub own_points : Nodes → List Point
own_points no_nodes = []
own_points (leaf r b placed later) = points_with placed
own_points (inner r b kids later) = []

-- The points of the first node stand at the end of the list, and its children at the end of the work list, the first one last
pub record Gathers (ns : Nodes) (before after : List ℕ) (points more : List Point) : Type 0 where
  pub work : reverse after ≡ heads (kids_of ns) ++ reverse before
  pub gathered : more ≡ points ++ own_points ns

-- after k nodes the points that were gathered, followed by those of the nodes that are left, are all
pub record Gathered (objectives : ℕ) (c : Copy) (ns : Nodes) (all : List Point) (k : ℕ) (work : List ℕ) (points : List Point) : Type 0 where
  pub left : Nodes
  pub are_left : AreLeft objectives c ns k work left
  pub gathered : points ++ points_of left ≡ all
