-- What a running pass knows beside the entries that it has seen, and what each step adds to it.
use Rattle.std.specs.Prelude.{◌/◌, ◌%◌, ℕ, ◌+◌, ◌&&◌, not, ◌==◌, nat_le, if◌then◌else◌, Option, Some, None, option_and_then, List, [], ◌∷◌, ◌++◌, filter, drop, length, slice_get, unwrap_or}
use Rattle.era_core.specs.declared.sizes.TheConstants.{ROOT_ROWS}
use Rattle.era_core.specs.Lists.{is_in, tree}
use Rattle.era_core.specs.Words.{root_word, reservation_at, owner_at}
use Rattle.era_core.specs.Views.{View, start_view, versions_of, noting, pinning, reading, taking, publishing, unpinning, looking, freeing}
use Rattle.era_core.specs.Versions.{Cell, Copy, known_links}
use Rattle.era_rows.specs.Trees.{first_copy, no_copy}

-- a word that a load or a compare and exchange found, with its place
abbrev pub Look : Type 0
Look = ℕ × ℕ

-- What is recorded where no row was free: the looks since the last pin, which show that each row has an owner and, after a
-- scan of the reservations, what blocks each batch; the versions of the batches kept then; how many rows were fresh then; and
-- the pass that looked
pub record Shortage : Type 0 where
  pub looks : List Look
  pub versions : List ℕ
  pub fresh : ℕ
  pub number : ℕ

pub record Known : Type 0 where
  -- the view of the machine
  pub core : View
  -- the shape of the rows, and how many rows and passes there are
  pub shape : ℕ
  pub rows : ℕ
  pub passes : ℕ
  -- the word of the pass's own reservation, which no other pass stores
  pub reserves : ℕ
  -- how many passes have begun: the pass with number 0 alone counts them
  pub made : Option ℕ
  -- the copies of the versions that it knows
  pub copies : List Copy
  -- the words that it wrote into its fresh rows
  pub written : List Cell
  -- the words that its steps found, the oldest first, and how many of them are older than its last pin
  pub looks : List Look
  pub since : ℕ
  pub full : Option Shortage

-- what the first pass knows at the start
abbrev pub first_known : ℕ → ℕ → ℕ → Known
first_known shape rows passes =
    record {
      core = start_view 0;
      shape = shape;
      rows = rows;
      passes = passes;
      reserves = 0;
      made = Some 1;
      copies = first_copy ∷ [];
      written = [];
      looks = [];
      since = 0;
      full = None;
    }

-- the number of the next pass that begins
abbrev pub next_number : Known → ℕ
next_number k = unwrap_or k.made 0

-- the first pass has given out one more number
abbrev pub having_made : Known → Known
having_made k = record k { made = Some (next_number k + 1) }

-- the pass with that number, as it begins
abbrev pub beginning : Known → Known
beginning k = record k { core = start_view (next_number k); reserves = 0; made = None; written = []; looks = []; since = 0; full = None }

-- a step found the word at the place
abbrev pub finding : ℕ → ℕ → Known → Known
finding i w k = record k { looks = k.looks ++ (i, w) ∷ [] }

-- a step found the owner of row r to be 0, and took the row
abbrev pub taking_row : ℕ → Known → Known
taking_row r k = record k { core = taking r k.core; looks = k.looks ++ (owner_at k.passes k.rows r, 0) ∷ [] }

-- the cells but for the row's word at the place
abbrev pub forget : ℕ → ℕ → List Cell → List Cell
forget r p cells = filter (λ c. not ((c.row == r) && (c.place == p))) cells

-- the cells of these rows, and those of all other rows
abbrev pub of_rows : List ℕ → List Cell → List Cell
of_rows rows cells = filter (λ c. is_in c.row rows) cells

abbrev pub of_others : List ℕ → List Cell → List Cell
of_others rows cells = filter (λ c. not (is_in c.row rows)) cells

-- the copy of the version that is pinned, if one is
abbrev pub copy_of : Option (ℕ × ℕ) → List Copy → Copy
copy_of pinned copies = unwrap_or (option_and_then (λ (pin : ℕ × ℕ). slice_get copies pin.0) pinned) no_copy

abbrev pub pinned_copy : Known → Copy
pinned_copy k = copy_of k.core.pinned k.copies

-- the words that the pass knows: those that it wrote, and those of the version that it has pinned
abbrev pub known_words : Known → List Cell
known_words k = k.written ++ (pinned_copy k).cells

-- the tree at row q that these words make, where there are so many rows
abbrev pub copy_by : ℕ → List Cell → ℕ → Copy
copy_by rows cells q = record { root = q; rows = tree (known_links cells) rows q; cells = of_rows (tree (known_links cells) rows q) cells }

-- the tree at row q, by the words that the pass knows
abbrev pub copy_known : Known → ℕ → Copy
copy_known k q = copy_by k.rows (known_words k) q

-- a step wrote the word into row r at the place
abbrev pub writing : ℕ → ℕ → ℕ → Known → Known
writing r p w k = record k { written = record { row = r; place = p; word = w } ∷ forget r p k.written }

-- a step gave row r back, a fresh one or a retired one
abbrev pub freeing_row : ℕ → Known → Known
freeing_row r k = record k { core = freeing r k.core; written = of_others (r ∷ []) k.written }

-- Note found this root word
abbrev pub noting_root : ℕ → Known → Known
noting_root w k = record k { core = noting (w / ROOT_ROWS) k.core; looks = k.looks ++ (0, w) ∷ [] }

-- Announce reserved version n
abbrev pub reserving : ℕ → Known → Known
reserving n k = record k { reserves = n + 1 }

-- Pin found this root word, and the pass knows these copies
abbrev pub pinning_root : ℕ → List Copy → Known → Known
pinning_root w copies k = record k { core = pinning (w / ROOT_ROWS) (w % ROOT_ROWS) k.core; copies = copies; looks = k.looks ++ (0, w) ∷ []; since = length k.looks }

-- Read found the word at the place
abbrev pub reading_word : ℕ → ℕ → Known → Known
reading_word i w k = record k { core = reading w k.core; looks = k.looks ++ (i, w) ∷ [] }

-- Publish found another root word, and the pass knows these copies
abbrev pub losing : ℕ → List Copy → Known → Known
losing w copies k = record k { copies = copies; looks = k.looks ++ (0, w) ∷ [] }

-- Publish put the tree at row q in the place of version n, whose root row is p
abbrev pub publishing_tree : ℕ → ℕ → ℕ → Known → Known
publishing_tree n p q k =
    record k {
      core = publishing n (pinned_copy k).rows (copy_known k q).rows k.core;
      copies = k.copies ++ copy_known k q ∷ [];
      written = of_others (copy_known k q).rows k.written;
      looks = k.looks ++ (0, root_word n p) ∷ [];
    }

-- Unpin gave the reservation up
abbrev pub leaving : Known → Known
leaving k = record k { core = unpinning k.core; reserves = 0 }

-- Look found the word in the reservation of pass j
abbrev pub looking_at : ℕ → ℕ → Known → Known
looking_at j w k = record k { core = looking j w k.core; looks = k.looks ++ (reservation_at k.passes k.rows j, w) ∷ [] }

-- what is recorded where no row is free: the looks from the last pin on
abbrev pub shortage : Known → Option Shortage
shortage k = Some (record { looks = drop k.since k.looks; versions = versions_of k.core.retired; fresh = length k.core.fresh; number = unwrap_or k.core.number 0 })

-- a search that goes on records nothing
abbrev pub same_shortage : Known → Option Shortage
same_shortage k = k.full

abbrev pub recording : (Known → Option Shortage) → Known → Known
recording full k = record k { full = full k }

-- the longer one of two lists that begin alike
abbrev pub longer : {A : Type 0} → List A → List A → List A
longer xs ys = if nat_le (length ys) (length xs) then xs else ys

-- the first, where it is there
abbrev pub either_full : Option Shortage → Option Shortage → Option Shortage
either_full None other = other
either_full (Some full) other = Some full

-- view u takes over what view v holds, and begins its scan anew
abbrev pub joining : View → View → View
joining u v = record u { fresh = u.fresh ++ v.fresh; retired = u.retired ++ v.retired; scanned = 0; least = None }

-- what is left of a view that was joined into another
abbrev pub spent_view : View
spent_view = record { number = None; noted = None; pinned = None; fresh = []; retired = []; scanned = 0; least = None; last = None }

-- the pass takes over what another knows and has, and begins its scan anew
abbrev pub joining_known : Known → Known → Known
joining_known k l =
    record k {
      core = joining k.core l.core;
      copies = longer k.copies l.copies;
      written = k.written ++ l.written;
      full = either_full k.full l.full;
    }
