-- What a pass may rely on between its steps, and how the lists that it keeps at run time agree with what it knows.
use Rattle.std.specs.Prelude.{◌≡◌, ℕ, ◌+◌, ◌*◌, ◌<◌, ◌≤◌, ◌⊎◌, Bool, false, ◌==◌, if◌then◌else◌, Option, Some, None, List, [], filter, map, flat_map, length, slice_index_or}
use Rattle.era_core.specs.declared.sizes.TheConstants.{ROOT_ROWS, LAST_VERSION, MOST_ROWS}
use Rattle.era_core.specs.Lists.{times, In, is_in}
use Rattle.era_core.specs.Views.{Batch, held}
use Rattle.era_core.specs.Versions.{Cell}
use Rattle.era_rows.specs.Trees.{IsTree}
use Rattle.era_rows.specs.Known.{Known, pinned_copy}
use Rattle.era_rows.specs.Ring.{AreInOrder}
use mathlib.Core.Option.{some}
use lib.ListN.{get_elem?}

-- the pass holds no row twice, as a fresh one or a retired one, and each that it holds is a row
pub record HoldsRows (k : Known) : Type 0 where
  pub different : (r : ℕ) → times r (held k.core) ≤ 1
  pub inside : (r : ℕ) → In r (held k.core) → r < k.rows

-- the pinned tree is a tree of rows, with words of its own rows alone, and no fresh row is in it
pub record HoldsTree (k : Known) : Type 0 where
  pub is_tree : IsTree (pinned_copy k)
  pub within : (i : ℕ) (c : Cell) → get_elem? (pinned_copy k).cells i ≡ some c → In c.row (pinned_copy k).rows
  pub inside : (r : ℕ) → In r (pinned_copy k).rows → r < k.rows
  pub unread : (r : ℕ) → In r k.core.fresh → times r (pinned_copy k).rows ≡ 0

-- there is one pass, which has pinned the last version that it knows
abbrev pub IsAlone : Known → Type 0
IsAlone k = (k.passes ≡ 1) × ((n p : ℕ) × (k.core.pinned ≡ Some (n, p)) × (length k.copies ≡ n + 1))

-- the row is one of the pass's own, fresh or retired, or in the tree that it has pinned
abbrev pub IsOwn : ℕ → Known → Type 0
IsOwn r k = In r (held k.core) ⊎ In r (pinned_copy k).rows

-- the rows that were retired at version n: in a list of versions with rows, and in batches
abbrev pub rows_at : ℕ → List (ℕ × ℕ) → List ℕ
rows_at n pairs = map (λ pair. pair.1) (filter (λ pair. pair.0 == n) pairs)

abbrev pub rows_of : ℕ → List Batch → List ℕ
rows_of n batches = flat_map (λ b. if b.0 == n then b.1 else []) batches

-- the lists of a pass have room for all rows: its fresh, reached, marked and retired ones, and two words of work for each
abbrev pub HasRoom : ℕ → ℕ → ℕ → ℕ → ℕ → ℕ → Type 0
HasRoom rows fresh reached marked retired work = (rows ≤ fresh) × (rows ≤ reached) × (rows ≤ marked) × (rows ≤ retired) × (2 * rows ≤ work)

-- The number, the pinned version, the fresh rows, a mark for each fresh row, the marked rows and the retired rows that a pass
-- keeps are those that it knows. It has noted nothing, and what is not pinned is not reserved
pub record IsTied (k : Known) (number next : ℕ) (pinned : Option (ℕ × ℕ)) (fresh : List ℕ) (loose : List Bool) (marked : List ℕ) (retired : List (ℕ × ℕ)) : Type 0 where
  pub numbered : k.core.number ≡ Some number
  pub turn : next ≤ k.rows
  pub pinned_is : pinned ≡ k.core.pinned
  pub settled : k.core.noted ≡ None
  pub silent : k.core.pinned ≡ None → k.reserves ≡ 0
  pub fresh_are : fresh ≡ k.core.fresh
  pub counted : length loose ≡ k.rows
  pub flagged : (r : ℕ) → r < k.rows → slice_index_or loose r false ≡ is_in r k.core.fresh
  pub batched : (n x : ℕ) → times x (rows_at n retired) ≡ times x (rows_of n k.core.retired)
  pub holds : HoldsRows k
  pub tree : HoldsTree k
  pub marks_different : (r : ℕ) → times r marked ≤ 1
  pub marks_inside : (r : ℕ) → In r marked → r < k.rows
  -- the pinned version is one that it knows, and what it wrote it wrote into its fresh rows
  pub knows_pinned : (n p : ℕ) → k.core.pinned ≡ Some (n, p) → n < length k.copies
  pub written_fresh : (i : ℕ) (c : Cell) → get_elem? k.written i ≡ some c → In c.row k.core.fresh
  -- its number is that of a pass
  pub some_pass : number < k.passes
  -- the pinned version and its root row fit into a root word
  pub pinned_low : (n p : ℕ) → k.core.pinned ≡ Some (n, p) → (n ≤ LAST_VERSION) × (p < ROOT_ROWS)
  -- each batch has a row
  pub filled : (i : ℕ) (b : Batch) → get_elem? k.core.retired i ≡ some b → 0 < length b.1
  -- the retired rows stand in the order of their versions
  pub in_order : AreInOrder retired
  -- there are no more rows than a root word can name
  pub few : k.rows ≤ MOST_ROWS
