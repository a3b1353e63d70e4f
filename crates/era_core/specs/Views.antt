-- What a pass knows: its view, and what each event does to the view of the pass that steps.
use Rattle.std.specs.Prelude.{ℕ, zero, suc, ◌+◌, min, Bool, true, nat_lt, nat_le, ◌==◌, if◌then◌else◌, Option, Some, None, List, [], ◌∷◌, ◌++◌, map, flat_map}
use Rattle.era_core.specs.Lists.{is_in, without}

-- retired rows: those that a version had and the next one had no more
abbrev pub Batch : Type 0
Batch = ℕ × List ℕ

-- the view of a pass. One that was joined into another view has no number
pub record View : Type 0 where
  pub number : Option ℕ
  -- the version that the pass found at the root and has not pinned yet
  pub noted : Option ℕ
  -- the version that the pass reads, and its root row
  pub pinned : Option (ℕ × ℕ)
  -- the rows that the pass took and has not published
  pub fresh : List ℕ
  -- the rows that the pass retired, the oldest batch first
  pub retired : List Batch
  -- how many reservations the present scan has looked at, and the least version that they name
  pub scanned : ℕ
  pub least : Option ℕ
  -- the word that the pass read last
  pub last : Option ℕ

abbrev pub start_view : ℕ → View
start_view k = record { number = Some k; noted = None; pinned = None; fresh = []; retired = []; scanned = 0; least = None; last = None }

-- the rows of all batches
abbrev pub rows_in : List Batch → List ℕ
rows_in batches = flat_map (λ b. b.1) batches

abbrev pub versions_of : List Batch → List ℕ
versions_of batches = map (λ b. b.0) batches

-- the rows of the batches of version n and later
abbrev pub late : ℕ → List Batch → List ℕ
late n batches = flat_map (λ b. if nat_le n b.0 then b.1 else []) batches

-- the rows that the pass holds for itself alone
abbrev pub held : View → List ℕ
held v = v.fresh ++ rows_in v.retired

-- these rows as a batch, if there are any
abbrev pub batch_of : ℕ → List ℕ → List Batch
batch_of n [] = []
batch_of n (r ∷ rs) = (n, r ∷ rs) ∷ []

-- the version that a reservation names, if it names one
abbrev pub reserved : ℕ → Option ℕ
reserved zero = None
reserved (suc n) = Some n

-- the lesser of two versions, where they are there
abbrev pub lesser : Option ℕ → Option ℕ → Option ℕ
lesser None b = b
lesser (Some m) None = Some m
lesser (Some m) (Some n) = Some (min m n)

-- no reservation names version b or an earlier one, where this is the least version that one names
abbrev pub clears : Option ℕ → ℕ → Bool
clears None b = true
clears (Some m) b = nat_lt b m

-- Note found version n at the root
abbrev pub noting : ℕ → View → View
noting n v = record v { noted = Some n }

-- Pin found version n and row r at the root
abbrev pub pinning : ℕ → ℕ → View → View
pinning n r v = record v { noted = None; pinned = Some (n, r) }

-- Read found the word
abbrev pub reading : ℕ → View → View
reading w v = record v { last = Some w }

-- Take found row r free
abbrev pub taking : ℕ → View → View
taking r v = record v { fresh = v.fresh ++ r ∷ [] }

-- these rows are still fresh, and those are retired with version n
abbrev pub replacing : ℕ → List ℕ → List ℕ → View → View
replacing n fresh gone v = record v { fresh = fresh; retired = v.retired ++ batch_of n gone; scanned = 0; least = None }

-- Publish put the tree with the new rows in the place of version n, which has the old rows
abbrev pub publishing : ℕ → List ℕ → List ℕ → View → View
publishing n old new v = replacing n (without new v.fresh) (without new old) v

abbrev pub unpinning : View → View
unpinning v = record v { pinned = None }

-- Look found the word in the reservation of pass j; at pass 0 a new scan begins
abbrev pub looking : ℕ → ℕ → View → View
looking j w v = record v { scanned = j + 1; least = lesser (if j == 0 then None else v.least) (reserved w) }

-- the batches without row r, and without a batch that has no row any more
abbrev pub without_row : ℕ → List Batch → List Batch
without_row r batches = flat_map (λ b. batch_of b.0 (without (r ∷ []) b.1)) batches

-- Free gave row r back, a fresh one or a retired one
abbrev pub freeing : ℕ → View → View
freeing r v =
    if is_in r v.fresh
    then record v { fresh = without (r ∷ []) v.fresh }
    else record v { retired = without_row r v.retired }
