-- What the steps of a worker promise, by how they end.
use Rattle.std.specs.Prelude.{◌≡◌, ◌⊎◌, ℕ, ◌+◌, Bool, true, false, not, ◌||◌, ◌==◌, List, [], ◌∷◌, length, map, Result, Ok, Err}
use Rattle.pls_archive.specs.declared.point.Point.{Point}
use Rattle.pls_archive.specs.declared.call.Call.TheVariants.{Update}
use Rattle.pls_archive.specs.declared.call.Entry.{Entry}
use Rattle.pls_archive.specs.declared.shared.Refusal.{Refusal}
use Rattle.pls_archive.specs.declared.shared.Refusal.TheVariants as refusal
use Rattle.pls_archive.specs.Lists.{Every, IsPrefix, one_if}
use Rattle.pls_archive.specs.History.{submissions}
use Rattle.pls_archive.specs.Explorations.{Task, Exploration, IsExploration, calls_for, entries_of, evaluated_in, is_whole}
use Rattle.pls_archive.specs.SearchRun.{SubmitsFirst}
use Rattle.pls_pool.specs.declared.cause.Cause.{Cause}
use Rattle.pls_pool.specs.declared.cause.Cause.TheVariants.{Spent, Full, Memory}
use Rattle.pls_pool.specs.Tallies.{halting}
use Rattle.pls_pool.specs.declared.tally.Tally.{Tally}
use Rattle.pls_problem.specs.declared.instance.Instance.{Instance}
use Rattle.pls_search.specs.Neighbours.{neighbours_of, is_of, IsPointOf}
use Rattle.pls_search.specs.Workers.{Hands, Did, is_explored}

-- It ended in one of three ways: not halted, halted as spent, or halted as full. For want of memory nothing is said.
abbrev pub UnlessMemory : {A : Type 0} → Result A Cause → (Bool → Bool → Type 0) → Type 0
UnlessMemory (Ok a) P = P false false
UnlessMemory (Err Spent) P = P true false
UnlessMemory (Err Full) P = P false true
UnlessMemory (Err Memory) P = Unit {0}

-- the causes for which it halted the run
abbrev pub causes_of : {A : Type 0} → Result A Cause → List Cause
causes_of (Ok a) = []
causes_of (Err cause) = cause ∷ []

-- why a search is halted whose archive refused a point: Spent counts as want of memory
abbrev pub cause_for : Refusal → Cause
cause_for refusal.Full = Full
cause_for refusal.Spent = Memory
cause_for refusal.Memory = Memory

-- a point was submitted, or there was no room for it
abbrev pub Submits : Point → Hands → Hands → Bool → Bool → Type 0
Submits p before after true full = ⊥
Submits p before after false true = Did [] [] 0 0 0 0 0 before after
Submits p before after false false = (e : Entry) × (e.call ≡ Update p) × Did (e ∷ []) [] 0 0 0 0 0 before after

-- a neighbour was submitted after a draw, or there was no move or no room for it
abbrev pub SubmitsNeighbour : Point → Hands → Hands → Bool → Bool → Type 0
SubmitsNeighbour p before after true full = Did [] [] 1 0 0 0 0 before after
SubmitsNeighbour p before after false true = Did [] [] 1 1 0 0 0 before after
SubmitsNeighbour p before after false false = (e : Entry) × (e.call ≡ Update p) × Did (e ∷ []) [] 1 1 0 0 1 before after

-- The neighbours of a point were submitted in order, a move drawn before each: all of them, or those before the one for which
-- there was no move or no room.
pub record SubmitsNeighbours (i : Instance) (p : Point) (before after : Hands) (spent full : Bool) : Type 0 where
  pub points : List Point
  pub entries : List Entry
  pub calls : map (λ e. e.call) entries ≡ calls_for points
  pub first : IsPrefix points (neighbours_of i p)
  pub all : (length points == length (neighbours_of i p)) ≡ not (spent || full)
  pub each : Every (IsPointOf i) points
  pub did : Did entries [] (length points + one_if full + one_if spent) (length points + one_if full) 0 0 (length points) before after

-- A task was explored: wholly, or until there was no move or no room. So many tasks were counted as done.
pub record ExploresTask (i : Instance) (t : Task) (done : ℕ) (before after : Hands) (spent full : Bool) : Type 0 where
  pub exploration : Exploration
  pub is : IsExploration (neighbours_of i) exploration
  pub of : exploration.task ≡ t
  pub whole : is_whole (neighbours_of i) exploration ≡ not (spent || full)
  pub each : Every (IsPointOf i) (submissions exploration.updates)
  pub did :
      Did (entries_of exploration) [] (evaluated_in exploration + one_if full + one_if spent) (evaluated_in exploration + one_if full) done
      (one_if (is_explored i exploration)) (evaluated_in exploration) before after

-- a task that was taken was explored and is done, unless that was cut; or it is none of this instance
pub record TakesUp (i : Instance) (t : Task) (before after : Hands) (spent full : Bool) : Type 0 where
  pub does :
      (ExploresTask i t (one_if (not (spent || full))) before after spent full)
      ⊎ ((is_of i t.point ≡ false) × (spent ≡ false) × (full ≡ false) × Did [] [] 0 0 0 0 0 before after)

-- what is said of the desk where a step ended so
abbrev pub Halts : {A : Type 0} → Result A Cause → Tally → Tally → Type 0
Halts (Ok a) before after = after ≡ before
Halts (Err cause) before after = after ≡ halting cause before

-- Points were submitted in order, without a draw: all of them, or those before the one for which there was no room.
pub record SubmitsAll (i : Instance) (points : List Point) (before after : Hands) (spent full : Bool) : Type 0 where
  pub entries : List Entry
  pub first : SubmitsFirst points entries
  pub unspent : spent ≡ false
  pub all : (length entries == length points) ≡ not full
  pub each : Every (IsPointOf i) (submissions entries)
  pub did : Did entries [] 0 0 0 0 0 before after
