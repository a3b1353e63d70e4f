-- All workers of a search together: what their joined hands tell of the callers' lists.
use Rattle.std.specs.Prelude.{◌≡◌, ℕ, ◌^◌, ◌<◌, ◌≤◌, Bool, List, [], ◌∷◌, length, map}
use Rattle.std.specs.List.{range_with_len}
use Rattle.pls_archive.specs.declared.point.Point.{Point}
use Rattle.pls_archive.specs.declared.call.Entry.{Entry}
use Rattle.pls_archive.specs.Lists.{Every, total, how_many}
use Rattle.pls_archive.specs.Explorations.{Task, CallerRun, entries_of_run}
use Rattle.pls_archive.specs.SearchRun.{SubmitsFirst, OnlyExplores, missing}
use Rattle.pls_archive.specs.Sequential.{InOrder}
use Rattle.pls_archive.specs.View.{Joins as JoinsViews}
use Rattle.pls_pool.specs.Accounts.{Joins as JoinsAccounts}
use Rattle.pls_pool.specs.DeskRule.{AllWent}
use Rattle.pls_pool.specs.Tallies.{joining}
use Rattle.pls_problem.specs.declared.instance.Instance.{Instance}
use Rattle.pls_search.specs.Workers.{Hands, Work, IsWork, RisesBy, LinesUp, HasCounted, put_by, taken_by}

-- the runs that these works are of
abbrev pub runs_of : List Work → List CallerRun
runs_of works = map (λ w. w.run) works

-- how many workers cut an exploration since the archive was full, and how many since no move was left
abbrev pub fulls : List Work → ℕ
fulls works = how_many (λ w. w.full) works

abbrev pub spents : List Work → ℕ
spents works = how_many (λ w. w.spent) works

-- a run that ends with this call
abbrev pub ending_with : Entry → CallerRun → CallerRun
ending_with e r = record { starts = r.starts; explorations = r.explorations; last = e ∷ [] }

-- the hands show all that was put, taken and counted in these works
pub record AddsUp (works : List Work) (h : Hands) : Type 0 where
  pub put_are : (test : Task → Bool) → put_by h test ≡ total (λ w. w.put test) works
  pub taken_are : (test : Task → Bool) → taken_by h test ≡ total (λ w. w.taken test) works
  pub opened_are : h.tally.opened ≡ total (λ w. w.opened) works
  pub done_are : h.tally.done ≡ total (λ w. w.done) works
  pub draws_are : h.tally.draws ≡ total (λ w. w.draws) works
  pub goes_are : h.tally.goes ≡ total (λ w. w.goes) works

-- what a worker has in its hands is its own work, with no last call so far
pub record HasDone (i : Instance) (w : Work) (h : Hands) : Type 0 where
  pub work : IsWork i w
  pub goes_on : w.run.last ≡ []
  pub own : h.view.own ≡ entries_of_run w.run
  pub adds_up : AddsUp (w ∷ []) h
  pub counts : HasCounted i (w.run ∷ []) h

-- Where the desk has one seat, so that the first worker is the only one: it explored in order the tasks that its entries made, and
-- those that wait are the ones that follow.
abbrev pub InTurn : Work → List Work → Hands → Type 0
InTurn first others h =
    h.tally.seats ≡ 1 → others ≡ []
    → InOrder first.run.starts 0 first.run.explorations × LinesUp (map (λ x. x.task) first.run.explorations) h

-- The first worker's hands, into which those of the others were joined in order, stand for what all of them did.
pub record IsTeam (i : Instance) (starts : List Point) (first : Work) (others : List Work) (h : Hands) : Type 0 where
  pub works : Every (IsWork i) (first ∷ others)
  -- the first submitted the starts, or some of them in order, and the others explored alone: nothing where a start is missing
  pub begins : SubmitsFirst starts first.run.starts
  pub goes_on : first.run.last ≡ []
  pub explore : Every (λ w. OnlyExplores w.run) others
  pub waits : 0 < length (missing starts first.run) → Every (λ w. w.run.explorations ≡ []) (first ∷ others)
  -- the lists of the callers 0, 1 and so on
  pub number : h.view.number ≡ 0
  pub own : h.view.own ≡ entries_of_run first.run
  pub callers : map (λ (list : ℕ × List Entry). list.0) h.view.others ≡ range_with_len 1 (length others)
  pub lists : map (λ (list : ℕ × List Entry). list.1) h.view.others ≡ map entries_of_run (runs_of others)
  pub adds_up : AddsUp (first ∷ others) h
  pub counts : HasCounted i (runs_of (first ∷ others)) h
  pub in_turn : InTurn first others h

-- what is taken is among what was put, and as many draws gave a move as there are moves
pub record IsAccounted (moves : ℕ) (h : Hands) : Type 0 where
  pub among : (test : Task → Bool) → taken_by h test ≤ put_by h test
  pub went : AllWent h.tally
  pub budget : h.tally.moves ≡ moves

-- a search of so many starts and moves is small enough for the counts at the desk
pub record IsSmall (starts : List Point) (moves : ℕ) : Type 0 where
  pub few_starts : length starts ≤ 64
  pub few_moves : moves ≤ 10 ^ 9

-- the hands of one worker take over what another has in its hands
pub record JoinsHands (before other after : Hands) : Type 0 where
  pub views : JoinsViews before.view other.view after.view
  pub accounts : JoinsAccounts before.account other.account after.account
  pub tallies : after.tally ≡ joining before.tally other.tally
  pub explored : RisesBy other.explored before.explored after.explored
  pub evaluated : RisesBy other.evaluated before.evaluated after.evaluated
