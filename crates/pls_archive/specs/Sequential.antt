-- The sequential run of Pareto local search: the one search run of one caller that explores the accepted points in order.
use Rattle.std.specs.Prelude.{◌≡◌, ◌⊎◌, ℕ, zero, suc, ◌+◌, ◌-◌, Bool, true, false, List, [], ◌∷◌, ◌++◌, length, take, slice_get, Option, Some, None, ⊤}
use Rattle.std.specs.List.{flat_map}
use Rattle.pls_archive.specs.declared.point.Point.{Point}
use Rattle.pls_archive.specs.declared.call.Call.{Call}
use Rattle.pls_archive.specs.declared.call.Call.TheVariants.{Member, Snapshot}
use Rattle.pls_archive.specs.declared.call.Reply.{Reply}
use Rattle.pls_archive.specs.declared.call.Entry.{Entry}
use Rattle.pls_archive.specs.History.{submissions, accepting, next_entry, calling, submitting}
use Rattle.pls_archive.specs.Explorations.{Task, Exploration, CallerRun, tasks, entries_of, entries_of_run, calls_for, evaluated_in, due, is_whole}
use Rattle.pls_archive.specs.SearchRun.{IsSearchRun, IsClosed, IsStopped}

-- after a history the explorations are of its tasks in order, from the k-th on, counted from 0
abbrev pub InOrder : List Entry → ℕ → List Exploration → Type 0
InOrder history k [] = Unit {0}
InOrder history k (x ∷ xs) = (slice_get (tasks history) k ≡ Some x.task) × InOrder (history ++ entries_of x) (suc k) xs

-- nothing more is explored where no task is left
abbrev pub for_task : Option Task → (Task → List Exploration) → List Exploration
for_task None continued = []
for_task (Some t) continued = continued t

-- A run goes on after a whole exploration alone. What goes on is a function, since both branches of an `if` compute.
abbrev pub after_whole : Bool → (⊤ → List Exploration) → List Exploration
after_whole true continued = continued tt
after_whole false continued = []

module _ (reply : List Point → Call → Reply) (neighbours : Point → List Point) where
  -- a search run of one caller that explores in order, closed or stopped
  pub record IsSequentialRun (starts : List Point) (moves : ℕ) (r : CallerRun) : Type 0 where
    pub run : IsSearchRun reply neighbours starts moves (length (accepting (entries_of_run r))) r []
    pub in_order : InOrder r.starts 0 r.explorations
    pub ends : IsClosed neighbours starts r [] ⊎ IsStopped neighbours starts moves r []

  -- the exploration of a task after a history, with so many moves: a move is drawn before each neighbour
  abbrev pub exploration_of : List Entry → ℕ → Task → Exploration
  exploration_of history moves t =
      let asked = next_entry reply 0 history (Member t.point.value) in
      record { task = t; asked = asked; updates = calling reply 0 (history ++ asked ∷ []) (calls_for (take moves (due neighbours t asked))) }

  -- the tasks are explored in order, from the k-th on, until an exploration is cut; at most `fuel`
  abbrev pub explorations_from : ℕ → List Entry → ℕ → ℕ → List Exploration
  explorations_from zero history moves k = []
  explorations_from (suc fuel) history moves k =
      for_task (slice_get (tasks history) k) (λ t.
      let x = exploration_of history moves t in
      x ∷ after_whole (is_whole neighbours x) (λ _. explorations_from fuel (history ++ entries_of x) (moves - evaluated_in x) (suc k)))

  -- The same with fuel enough: no more points are accepted than were submitted, and than there are moves.
  abbrev pub explorations_left : List Entry → ℕ → ℕ → List Exploration
  explorations_left history moves k = explorations_from (length (submissions history) + moves + 1) history moves k

  -- The sequential run: the starts are submitted, then every accepted point is explored in order of acceptance, and last the
  -- archive is asked for its members.
  abbrev pub sequential_run : List Point → ℕ → CallerRun
  sequential_run starts moves =
      let begun = submitting reply 0 [] starts in
      let xs = explorations_left begun moves 0 in
      record {
        starts = begun;
        explorations = xs;
        last = next_entry reply 0 (begun ++ flat_map entries_of xs) Snapshot ∷ [];
      }
