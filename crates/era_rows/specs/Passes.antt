-- What a running pass is, to its callers, and what its calls do.
use Rattle.std.specs.Prelude.{◌==◌, if◌then◌else◌, ◌≡◌, ℕ, ◌+◌, ◌/◌, ◌<◌, ◌≤◌, ◌⊎◌, Bool, Option, Some, None, Result, Ok, Err, List, [], ◌∷◌, ◌++◌, flat_map, length, replicate}
use Rattle.atomic_table.specs.declared.shared.Seat.{Seat}
use Rattle.era_core.specs.declared.sizes.TheConstants.{WIDTH, ROOT_ROWS, LAST_VERSION}
use Rattle.era_core.specs.Lists.{In, without}
use Rattle.era_core.specs.Words.{root_word, reservation_at, owner_at, cell_at}
use Rattle.era_core.specs.Views.{Batch, start_view, batch_of, reserved, lesser, clears}
use Rattle.era_core.specs.Versions.{Copy}
use Rattle.era_rows.specs.Known.{Known, Look, first_known, taking_row, recording, shortage, of_others, noting_root, reserving, pinned_copy, looking_at}
use Rattle.era_rows.specs.Held.{IsAlone, IsOwn}
use Rattle.era_rows.specs.declared.memory.TheConstants.{MEMORY_PLACES}
use Rattle.era_rows.specs.Memory.{Memory}
use Rattle.era_rows.specs.Plays.{IsUnused, Pins, Loses, Publishes}
use Rattle.era_rows.specs.Rule.{HasSizes, knowing, both_knows}
use Rattle.era_rows.specs.declared.views.Knows.{Knows}
use Rattle.era_rows.specs.declared.pass.Pass.{Pass}
use Rattle.era_rows.specs.declared.rows.Rows.{Rows}
use Rattle.era_rows.specs.declared.law.Law.{Ghosts}
use Rattle.era_rows.specs.declared.refusal.PublishRefusal.{PublishRefusal}
use Rattle.era_rows.specs.declared.refusal.PublishRefusal.TheVariants.{Beaten, Spent}
use mathlib.Core.Option.{some}
use lib.ListN.{get_elem?}

-- the pass has also found these words
abbrev pub having_looked : List Look → Known → Known
having_looked more k = record k { looks = k.looks ++ more }

-- the looks found a word that is not 0 in the owner of each of these rows, from one up to another
abbrev pub AreTaken : ℕ → ℕ → ℕ → ℕ → List Look → Type 0
AreTaken passes rows from to more = (r : ℕ) → from ≤ r → r < to → (i w : ℕ) × (0 < w) × (get_elem? more i ≡ some (owner_at passes rows r, w))

-- each of the looks found a word that is not 0 in the owner of one of these rows
abbrev pub OnlyTaken : ℕ → ℕ → ℕ → ℕ → List Look → Type 0
OnlyTaken passes rows from to more = (i : ℕ) (l : Look) → get_elem? more i ≡ some l → (r : ℕ) × (from ≤ r) × (r < to) × (0 < l.1) × (l.0 ≡ owner_at passes rows r)

-- the pass looked at owners of these rows alone, and found each that it looked at taken
abbrev pub LooksTaken : ℕ → ℕ → Known → Known → Type 0
LooksTaken from to before after = (more : List Look) × (after ≡ having_looked more before) × OnlyTaken before.passes before.rows from to more

-- After looks at owners of these rows, which were not 0, the pass took row r, one of these, which it did not hold and which is
-- not in the tree that it has pinned
abbrev pub Takes : ℕ → ℕ → ℕ → Known → Known → Type 0
Takes from to r before after =
    (from ≤ r) × (r < to) × IsUnused r before × ((more : List Look) × (after ≡ taking_row r (having_looked more before)) × OnlyTaken before.passes before.rows from to more)

-- The pass looked at the owners of these rows alone, and found each row taken. Where there is one pass, which has pinned the
-- last version, each of these rows is its own
abbrev pub FindsTaken : ℕ → ℕ → Known → Known → Type 0
FindsTaken from to before after =
    (more : List Look) × (after ≡ having_looked more before) × AreTaken before.passes before.rows from to more × OnlyTaken before.passes before.rows from to more
    × (IsAlone before → (r : ℕ) → from ≤ r → r < to → IsOwn r before)

-- what a search among these rows does, by its answer
abbrev pub Searches : ℕ → ℕ → Known → Known → Option ℕ → Type 0
Searches from to before after None = FindsTaken from to before after
Searches from to before after (Some r) = Takes from to r before after

-- what a search does, by its answer, that looks at some of the rows before this one alone
abbrev pub SearchesSome : ℕ → Known → Known → Option ℕ → Type 0
SearchesSome to before after None = LooksTaken 0 to before after
SearchesSome to before after (Some r) = Takes 0 to r before after

-- what a search among all of them does, by its answer, where no free row is recorded
abbrev pub SearchesOrFull : ℕ → Known → Known → Option ℕ → Type 0
SearchesOrFull to before after None = (mid : Known) × FindsTaken 0 to before mid × (after ≡ recording shortage mid)
SearchesOrFull to before after (Some r) = Takes 0 to r before after

-- the row is fresh, or in the tree that is pinned
abbrev pub IsReadable : ℕ → Known → Type 0
IsReadable r k = In r k.core.fresh ⊎ In r (pinned_copy k).rows

-- the pass has read words, each of one of its fresh rows
pub record HasRead (before after : Known) : Type 0 where
  pub more : List Look
  pub last : Option ℕ
  pub now : after ≡ record before { core = record before.core { last = last }; looks = before.looks ++ more }
  pub only : (i : ℕ) (l : Look) → get_elem? more i ≡ some l → (r p : ℕ) × In r before.core.fresh × (p < WIDTH) × (l.0 ≡ cell_at before.passes before.rows r p)

-- the looks of a scan that found these words in the reservations from pass j on, and the least version that they name
abbrev pub looks_of : ℕ → ℕ → ℕ → List ℕ → List Look
looks_of passes rows j [] = []
looks_of passes rows j (w ∷ ws) = (reservation_at passes rows j, w) ∷ looks_of passes rows (j + 1) ws

abbrev pub least_of : List ℕ → Option ℕ
least_of [] = None
least_of (w ∷ ws) = lesser (reserved w) (least_of ws)

-- the batches that these reservations block: those of the least version that they name, and of later ones
abbrev pub blocked : Option ℕ → List Batch → List Batch
blocked least batches = flat_map (λ b. if clears least b.0 then [] else batch_of b.0 b.1) batches

-- A look at each reservation, in order, found these words, of which the pass's own is the one that it knows. This is the least
-- version that they name
pub record Scans (least : Option ℕ) (before after : Known) : Type 0 where
  pub words : List ℕ
  pub all : length words ≡ before.passes
  pub own : (j : ℕ) → before.core.number ≡ Some j → get_elem? words j ≡ some before.reserves
  pub least_is : least ≡ least_of words
  pub now : after
      ≡ record before {
        core = record before.core { scanned = before.passes; least = least_of words };
        looks = before.looks ++ looks_of before.passes before.rows 0 words;
      }

-- after a look at each reservation, in order, the pass freed each batch that none of them blocks
pub record Tidies (before after : Known) : Type 0 where
  pub words : List ℕ
  pub all : length words ≡ before.passes
  pub own : (j : ℕ) → before.core.number ≡ Some j → get_elem? words j ≡ some before.reserves
  pub now : after
      ≡ record before {
        core = record before.core { retired = blocked (least_of words) before.core.retired; scanned = before.passes; least = least_of words };
        looks = before.looks ++ looks_of before.passes before.rows 0 words;
      }

-- the pass gave back row r, one of its fresh rows, and forgets what it wrote there
abbrev pub giving_back : ℕ → Known → Known
giving_back r k = record k { core = record k.core { fresh = without (r ∷ []) k.core.fresh }; written = of_others (r ∷ []) k.written }

-- the seat is at the table of these rows
pub record IsSeatOf {L E : Type 0} (r : Rows L E) (seat : Seat (Unit {0}) (Knows E)) : Type 0 where
  pub at_table : seat.table_id ≡ r.table.shared.table_id
  pub sized : HasSizes (record { shape = r.shape; rows = r.rows; passes = r.passes }) seat.me.0.view.shape seat.me.0.view.rows seat.me.0.view.passes

module _ {L E : Type 0} {G : Ghosts L E} where
  -- what the pass knows, and of it: what it knows of the rows, the accepted entries that it has seen, and the lists that it holds
  abbrev pub knows_of : Pass L E G → Knows E
  knows_of p = p.seat.me.0

  abbrev pub known_of : Pass L E G → Known
  known_of p = p.seat.me.0.view

  abbrev pub seen_of : Pass L E G → List E
  seen_of p = p.seat.me.0.seen

  abbrev pub lists_of : Pass L E G → List (ℕ × List E)
  lists_of p = p.seat.me.0.lists

  -- the rows that the next publication retires, and the work list
  abbrev pub marked_of : Pass L E G → List ℕ
  marked_of p = p.marked.items

  abbrev pub work_of : Pass L E G → List ℕ
  work_of p = p.work.items

  -- the words that the pass remembers at each place
  abbrev pub memory_of : Pass L E G → Memory
  memory_of p = p.memory

  -- the pass belongs to these rows
  abbrev pub IsPassOf : Rows L E → Pass L E G → Type 0
  IsPassOf r p = IsSeatOf r p.seat

  -- it is the pass that it was, with the same work list, and remembers what it did
  pub record IsSamePass (p q : Pass L E G) : Type 0 where
    pub same_number : q.number ≡ p.number
    pub same_work : work_of q ≡ work_of p
    pub same_memory : memory_of q ≡ memory_of p

  -- and it has the entries and the marks that it had
  pub record HasSame (p q : Pass L E G) : Type 0 where
    pub same_pass : IsSamePass p q
    pub same_marks : marked_of q ≡ marked_of p
    pub same_seen : seen_of q ≡ seen_of p
    pub same_lists : lists_of q ≡ lists_of p

module _ {E : Type 0} (caller stamp : E → ℕ) (accepted : ℕ → E → Bool) (lawful : ℕ → Copy → Type 0) (stands : ℕ → Copy → List E → Type 0) (right : ℕ → E → List E → Type 0) where
  -- the pass found a root word, reserved its version, and pinned the version with this root row, which it then found
  abbrev pub PinsVersion : ℕ → ℕ → Knows E → Knows E → Type 0
  PinsVersion n p before after =
      (w : ℕ) × Pins caller stamp accepted lawful stands right (root_word n p) (knowing before.seen before.lists (reserving (w / ROOT_ROWS) (noting_root w before.view))) after

  -- a publication over version n, with root row p, of the tree at row q with entry e, by its answer: the pass has read words
  -- of its fresh rows, and then found the root. Nothing was done exactly where version n is the last of all
  abbrev pub Publication : ℕ → ℕ → ℕ → E → Knows E → Knows E → Result ℕ PublishRefusal → Type 0
  Publication n p q e before after (Ok v) =
      (n < LAST_VERSION) × (v ≡ n + 1) × ((mid : Known) × HasRead before.view mid × Publishes caller stamp accepted lawful stands right n p q e (knowing before.seen before.lists mid) after)
  Publication n p q e before after (Err (Beaten v)) =
      (n < LAST_VERSION) × ((w : ℕ) × (v ≡ w / ROOT_ROWS) × ((mid : Known) × HasRead before.view mid × Loses caller stamp accepted lawful stands right w (knowing before.seen before.lists mid) after))
  Publication n p q e before after (Err Spent) = (n ≡ LAST_VERSION) × (after ≡ before)

-- what a pass knows as it begins, where so many passes have begun
abbrev pub started_known : ℕ → ℕ → ℕ → ℕ → ℕ → Known
started_known shape rows passes made number =
    record (first_known shape rows passes) { core = start_view number; made = if number == 0 then Some made else None }

module _ {L E : Type 0} {G : Ghosts L E} where
  -- pass with this number, as the start leaves it: it has no row, no pin, no entry and no work, and remembers nothing
  pub record IsStarted (r : Rows L E) (number : ℕ) (p : Pass L E G) : Type 0 where
    pub is_pass : IsPassOf r p
    pub number_is : p.number ≡ number
    pub knows : known_of p ≡ started_known r.shape r.rows r.passes r.passes number
    pub nothing_seen : seen_of p ≡ []
    pub no_entry : lists_of p ≡ (number, []) ∷ []
    pub no_marks : marked_of p ≡ []
    pub no_work : work_of p ≡ []
    pub no_memory : memory_of p ≡ replicate MEMORY_PLACES None

  -- The pass has taken over what another had, and then looked at the first reservation
  pub record Joins (p other q : Pass L E G) : Type 0 where
    pub word : ℕ
    pub now : knows_of q ≡ (let k = both_knows (knows_of p) (knows_of other) in knowing k.seen k.lists (looking_at 0 word k.view))
