-- Why the workers of a search left, and what they did until then.
use Rattle.std.specs.Prelude.{◌≡◌, ◌⊎◌, ℕ, ◌%◌, ◌^◌, ◌<◌, List, [], ◌∷◌, length, Result, Ok, Err}
use Rattle.pls_archive.specs.declared.point.Point.{Point}
use Rattle.pls_archive.specs.declared.call.Call.{Call}
use Rattle.pls_archive.specs.declared.call.Reply.{Reply}
use Rattle.pls_archive.specs.SearchRun.{missing}
use Rattle.pls_pool.specs.declared.cause.Cause.{Cause}
use Rattle.pls_pool.specs.declared.cause.Cause.TheVariants.{Spent, Full, Memory}
use Rattle.pls_problem.specs.declared.instance.Instance.{Instance}
use Rattle.pls_search.specs.Workers.{Hands, Work, GoesOn}
use Rattle.pls_search.specs.Steps.{UnlessMemory, causes_of}
use Rattle.pls_search.specs.Onwards.{ExploresOn}
use Rattle.pls_search.specs.InLine.{ExploresInLine}
use Rattle.pls_search.specs.Teams.{IsTeam, fulls, spents}

-- the hands are those of a team of so many workers, of which this is true
pub record OfTeam (i : Instance) (starts : List Point) (workers : ℕ) (P : Work → List Work → Type 0) (h : Hands) : Type 0 where
  pub first : Work
  pub others : List Work
  pub team : IsTeam i starts first others h
  pub all : workers ≡ length (first ∷ others)
  pub why : P first others

-- no seat keeps a cause
abbrev pub IsUnhalted : Hands → Type 0
IsUnhalted h = h.tally.halts ≡ []

-- as many tasks are done as were opened
abbrev pub IsIdle : Hands → Type 0
IsIdle h = h.tally.done % 2 ^ 64 ≡ h.tally.opened % 2 ^ 64

-- a start is missing
abbrev pub Lacks : List Point → Work → List Work → Type 0
Lacks starts first others = 0 < length (missing starts first.run)

-- All starts were submitted, and this is the gravest cause for which a worker left: that the archive was full, else that no move
-- was left.
abbrev pub LeavesBy : {A : Type 0} → Type 0 → List Point → Result A Cause → Work → List Work → Type 0
LeavesBy otherwise starts (Ok a) first others =
    (missing starts first.run ≡ []) × (fulls (first ∷ others) ≡ 0) × (spents (first ∷ others) ≡ 0) × otherwise
LeavesBy otherwise starts (Err Spent) first others =
    (missing starts first.run ≡ []) × (fulls (first ∷ others) ≡ 0) × (0 < spents (first ∷ others))
LeavesBy otherwise starts (Err Full) first others = (missing starts first.run ≡ []) × (0 < fulls (first ∷ others))
LeavesBy otherwise starts (Err Memory) first others = Unit {0}

-- Where memory ran out, nothing is said.
abbrev pub Leaves : {A : Type 0} → (Hands → Type 0) → Instance → List Point → ℕ → Result A Cause → Hands → Type 0
Leaves otherwise i starts workers (Ok a) h = OfTeam i starts workers (LeavesBy (otherwise h) starts (Ok a)) h
Leaves otherwise i starts workers (Err Spent) h = OfTeam i starts workers (LeavesBy {A = Unit} (otherwise h) starts (Err Spent)) h
Leaves otherwise i starts workers (Err Full) h = OfTeam i starts workers (LeavesBy {A = Unit} (otherwise h) starts (Err Full)) h
Leaves otherwise i starts workers (Err Memory) h = Unit {0}

-- all starts were submitted, and nothing was explored in vain nor halted
abbrev pub AreReady : Instance → List Point → ℕ → Hands → Type 0
AreReady i starts workers h = Leaves IsUnhalted i starts workers (Ok (tt {0})) h

-- the workers left after all starts were submitted, or no worker explored since the archive had no room for a start
abbrev pub Ended : {A : Type 0} → Instance → List Point → ℕ → Result A Cause → Hands → Type 0
Ended i starts workers (Ok a) h = Leaves IsIdle i starts workers (Ok a) h
Ended i starts workers (Err Spent) h = Leaves {A = Unit} IsIdle i starts workers (Err Spent) h
Ended i starts workers (Err Full) h = Leaves {A = Unit} IsIdle i starts workers (Err Full) h ⊎ OfTeam i starts workers (Lacks starts) h
Ended i starts workers (Err Memory) h = Unit {0}

-- the graver of two causes
abbrev pub graver : {A : Type 0} → Result A Cause → Result A Cause → Result A Cause
graver (Ok a) b = b
graver (Err Memory) b = Err Memory
graver (Err Full) (Ok b) = Err Full
graver (Err Full) (Err Spent) = Err Full
graver (Err Full) (Err Full) = Err Full
graver (Err Full) (Err Memory) = Err Memory
graver (Err Spent) (Ok b) = Err Spent
graver (Err Spent) (Err cause) = Err cause

-- a worker left for this cause: what it explored until then, and what it holds
pub record Departs (reply : List Point → Call → Reply) (i : Instance) (started : ℕ) (end : Result (Unit {0}) Cause) (before after : Hands) : Type 0 where
  pub explores : UnlessMemory end (λ spent full. ExploresOn i spent full before after)
  pub goes_on : GoesOn reply started (causes_of end) before after
  -- its seat is at the same desk, and where that has one seat alone, it explored in order
  pub seats : after.tally.seats ≡ before.tally.seats
  pub in_line : before.tally.seats ≡ 1 → UnlessMemory end (ExploresInLine i before after)
