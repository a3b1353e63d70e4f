-- What a worker of a search did, and what it hands on when it leaves.
use Rattle.std.specs.Prelude.{◌≡◌, ◌⊎◌, ℕ, ◌+◌, ◌%◌, ◌^◌, ◌<◌, ◌≤◌, Bool, ◌&&◌, not, ◌||◌, List, [], ◌∷◌, ◌++◌, length, map}
use Rattle.pls_archive.specs.declared.point.Point.{Point}
use Rattle.pls_archive.specs.declared.call.Call.{Call}
use Rattle.pls_archive.specs.declared.call.Reply.{Reply}
use Rattle.pls_archive.specs.declared.call.Entry.{Entry}
use Rattle.pls_archive.specs.Lists.{Every, how_many, one_if}
use Rattle.pls_archive.specs.History.{submissions}
use Rattle.pls_archive.specs.View.{View, IsConsistent}
use Rattle.pls_archive.specs.Explorations.{Task, Exploration, CallerRun, tasks, entries_of_run, is_whole, is_cut, is_skipped, explored, evaluated}
use Rattle.pls_archive.specs.SearchRun.{Explores}
use Rattle.pls_pool.specs.Accounts.{Account}
use Rattle.pls_pool.specs.DeskRule.{HoldsAll, AllWent}
use Rattle.pls_pool.specs.declared.cause.Cause.{Cause}
use Rattle.pls_pool.specs.declared.tally.Tally.{Tally}
use Rattle.pls_problem.specs.declared.instance.Instance.{Instance}
use Rattle.pls_search.specs.declared.task.Task.{Task as Waiting}
use Rattle.pls_search.specs.Neighbours.{neighbours_of, IsPointOf}

-- the task that waits in the pool
abbrev pub task_of : Waiting → Task
task_of t = record { point = t.point; stamp = t.stamp }

-- What a worker's pass, its seat at the pool and its seat at the desk are seen as; and its own counts, modulo 2^64, of the
-- explorations that were whole and not skipped, and of the neighbours that it submitted.
pub record Hands : Type 0 where
  pub view : View
  pub account : Account Waiting
  pub tally : Tally
  pub explored : ℕ
  pub evaluated : ℕ

abbrev pub hands : View → Account Waiting → Tally → ℕ → ℕ → Hands
hands v a t n m = record { view = v; account = a; tally = t; explored = n; evaluated = m }

-- how many of the tasks that its seat put pass a test, and how many of those that it took
abbrev pub put_by : Hands → (Task → Bool) → ℕ
put_by h test = h.account.put (λ t. test (task_of t))

abbrev pub taken_by : Hands → (Task → Bool) → ℕ
taken_by h test = h.account.taken (λ t. test (task_of t))

-- the exploration was whole and not skipped
abbrev pub is_explored : Instance → Exploration → Bool
is_explored i x = is_whole (neighbours_of i) x && not (is_skipped x)

-- ---- steps of a worker

-- a count rose by so much, modulo 2^64
abbrev pub RisesBy : ℕ → ℕ → ℕ → Type 0
RisesBy n before after = after % 2 ^ 64 ≡ (before + n) % 2 ^ 64

-- Between two moments a worker made these entries, and took these tasks; it drew so often, so many of its draws gave a move,
-- and it counted so many tasks as done, so many explorations as whole and not skipped, and so many neighbours.
pub record Did (entries : List Entry) (took : List Task) (draws goes done explores evaluates : ℕ) (before after : Hands) : Type 0 where
  pub own : after.view.own ≡ before.view.own ++ entries
  pub put : (test : Task → Bool) → put_by after test ≡ put_by before test + how_many test (tasks entries)
  pub taken : (test : Task → Bool) → taken_by after test ≡ taken_by before test + how_many test took
  pub opened : after.tally.opened ≡ before.tally.opened + length (tasks entries)
  pub draws_are : after.tally.draws ≡ before.tally.draws + draws
  pub goes_are : after.tally.goes ≡ before.tally.goes + goes
  pub done_are : after.tally.done ≡ before.tally.done + done
  pub explored_are : RisesBy explores before.explored after.explored
  pub evaluated_are : RisesBy evaluates before.evaluated after.evaluated

-- Whatever it did, its view stays consistent, and it holds what it held; it halted the run for these causes.
pub record GoesOn (reply : List Point → Call → Reply) (started : ℕ) (causes : List Cause) (before after : Hands) : Type 0 where
  pub number : after.view.number ≡ before.view.number
  pub others : after.view.others ≡ before.view.others
  pub consistent : IsConsistent reply started before.view → IsConsistent reply started after.view
  pub numbers : after.account.numbers ≡ before.account.numbers
  pub share : after.tally.share ≡ before.tally.share
  pub halts : after.tally.halts ≡ before.tally.halts ++ causes

-- ---- where the pool was made for one seat: what waits there, in order

-- the tasks that its entries made are these, followed by those that wait
abbrev pub LinesUp : List Task → Hands → Type 0
LinesUp explored h = tasks h.view.own ≡ explored ++ map task_of h.account.waiting

-- tasks that it made wait behind those that waited, and none was taken
abbrev pub StaysInLine : Hands → Hands → Type 0
StaysInLine before after = (explored : List Task) → LinesUp explored before → LinesUp explored after

-- ---- what a worker hands on

-- The work of a worker: its run; whether an exploration was cut since no move was left, or since the archive was full; its
-- tasks that were put and taken, by tests; and its counts at the desk.
pub record Work : Type 0 where
  pub run : CallerRun
  pub spent : Bool
  pub full : Bool
  pub put : (Task → Bool) → ℕ
  pub taken : (Task → Bool) → ℕ
  pub opened : ℕ
  pub done : ℕ
  pub draws : ℕ
  pub goes : ℕ

-- the work of a worker on an instance is as the search wants it
pub record IsWork (i : Instance) (w : Work) : Type 0 where
  pub explores : Explores (neighbours_of i) w.run
  -- each submission is a feasible solution with its value
  pub points : Every (IsPointOf i) (submissions (entries_of_run w.run))
  -- each task that its entries make was opened and put, and each that it explored was taken
  pub put_are : (test : Task → Bool) → w.put test ≡ how_many test (tasks (entries_of_run w.run))
  pub opened_are : w.opened ≡ length (tasks (entries_of_run w.run))
  pub taken_are : (test : Task → Bool) → how_many test (map (λ x. x.task) w.run.explorations) ≤ w.taken test
  -- as many are done as explorations were whole, and only for want of a move or of room one was cut
  pub done_are : w.done ≡ how_many (is_whole (neighbours_of i)) w.run.explorations
  pub cut : how_many (is_cut (neighbours_of i)) w.run.explorations ≡ one_if (w.spent || w.full)
  -- a move was drawn before each neighbour, and before the one that found no room
  pub went : w.goes ≡ evaluated (w.run ∷ []) + one_if w.full
  pub drawn : w.draws ≡ w.goes + one_if w.spent

-- the work that is seen with a run
abbrev pub work_of : CallerRun → Bool → Bool → Hands → Work
work_of r spent full h = record {
  run = r;
  spent = spent;
  full = full;
  put = put_by h;
  taken = taken_by h;
  opened = h.tally.opened;
  done = h.tally.done;
  draws = h.tally.draws;
  goes = h.tally.goes;
}

-- the counts in the hands are those of these runs
pub record HasCounted (i : Instance) (runs : List CallerRun) (h : Hands) : Type 0 where
  pub explored_are : h.explored % 2 ^ 64 ≡ explored (neighbours_of i) runs % 2 ^ 64
  pub evaluated_are : h.evaluated % 2 ^ 64 ≡ evaluated runs % 2 ^ 64

-- what a worker has in its hands stands for a run that it made
pub record StandsFor (i : Instance) (spent full : Bool) (h : Hands) (r : CallerRun) : Type 0 where
  pub own : h.view.own ≡ entries_of_run r
  pub last : r.last ≡ []
  pub work : IsWork i (work_of r spent full h)
  pub counts : HasCounted i (r ∷ []) h

-- a worker that has done nothing
pub record IsNewWorker (h : Hands) : Type 0 where
  pub own : h.view.own ≡ []
  pub put : (test : Waiting → Bool) → h.account.put test ≡ 0
  pub taken : (test : Waiting → Bool) → h.account.taken test ≡ 0
  pub opened : h.tally.opened ≡ 0
  pub done : h.tally.done ≡ 0
  pub draws : h.tally.draws ≡ 0
  pub goes : h.tally.goes ≡ 0
  pub explored : h.explored ≡ 0
  pub evaluated : h.evaluated ≡ 0

-- ---- why a worker leaves that halted nothing, as it is told to a seat that holds all seats of the desk

-- some seat keeps a cause
abbrev pub IsHalted : Tally → Type 0
IsHalted t = HoldsAll t → (0 < length t.halts) × AllWent t

-- as many tasks are done as were opened
abbrev pub IsQuiet : Tally → Type 0
IsQuiet t = HoldsAll t → (t.done % 2 ^ 64 ≡ t.opened % 2 ^ 64) × AllWent t

abbrev pub HasLeft : Tally → Type 0
HasLeft t = IsHalted t ⊎ IsQuiet t
