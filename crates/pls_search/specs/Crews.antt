-- All workers of a search: those that have not begun, those that have left and were joined, and what the search gives back.
use Rattle.std.specs.Prelude.{◌≡◌, ◌↔◌, ◌⊎◌, ℕ, ◌+◌, ◌≤◌, List, length, Result, Err, OnOk, IfOk, IfErr, vec_len}
use Rattle.std.specs.List.{range_with_len}
use Rattle.pls_archive.specs.declared.point.Point.{Point}
use Rattle.pls_archive.specs.declared.rule.Rule as rule
use Rattle.pls_archive.specs.declared.shared.Shared as shared
use Rattle.pls_pool.specs.DeskSeats.{IsNewDeskSeat, tally_of}
use Rattle.pls_pool.specs.declared.cause.Cause.TheVariants.{Full}
use Rattle.pls_pool.specs.declared.pool.Pool as pool
use Rattle.pls_problem.specs.Instance.{objectives}
use Rattle.pls_search.specs.declared.crew.Crew.{Crew}
use Rattle.pls_search.specs.declared.departs.Left.{Left}
use Rattle.pls_search.specs.declared.end.End.TheVariants as ends
use Rattle.pls_search.specs.declared.outcome.NoMemory.{NoMemory}
use Rattle.pls_search.specs.declared.outcome.Outcome.{Outcome}
use Rattle.pls_search.specs.declared.task.Task.{Task as Waiting}
use Rattle.pls_search.specs.declared.worker.Search.{Search}
use Rattle.pls_search.specs.declared.worker.Worker.{Worker}
use Rattle.pls_search.specs.Leaving.{IsUnhalted, AreReady, Leaves, Departs}
use Rattle.pls_search.specs.Outcomes.{Finds}
use Rattle.pls_search.specs.Seats.{IsFresh, IsNewPass, IsNewSeat, hands_of, HasSeatEach, IsSeated, IsShown, HasLists}
use mathlib.Core.Option.{some}
use lib.ListN.{get_elem?}

-- P holds of each element and its place
abbrev pub AreSeated : {T : Type 0} → (ℕ → T → Type 0) → List T → Type 0
AreSeated P xs = (k : ℕ) (x : _) → get_elem? xs k ≡ some x → P k x

module _ {A P G Law Pass Seat : Type 0} (a : shared.Ghosts A Law Pass) (p : pool.Ghosts P Waiting Seat) (s : Search A P G Law Pass Seat) where
  -- the passes and the seats are those of workers n, n + 1 and so on, which have done nothing
  pub record IsNewCrew (n : ℕ) (crew : Crew A P Law Pass Seat) : Type 0 where
    pub few : vec_len crew.passes ≤ 16
    pub even : (vec_len crew.pool_seats ≡ vec_len crew.passes) × (vec_len crew.desk_seats ≡ vec_len crew.passes)
    pub passes : AreSeated (λ k q. IsNewPass a p s.archive.now (n + k) q) crew.passes.items
    pub pool_seats : AreSeated (λ k t. IsNewSeat a p s.pool.now (n + k) t) crew.pool_seats.items
    pub desk_seats : AreSeated (λ k t. IsNewDeskSeat s.desk.now t) crew.desk_seats.items

module _ {A P G Law Pass Seat : Type 0} (a : shared.Ghosts A Law Pass) (r : rule.Ghosts Law) (p : pool.Ghosts P Waiting Seat) (s : Search A P G Law Pass Seat) where
  -- the worker holds the passes and the seats of the first n workers
  pub record Holds (n : ℕ) (w : Worker A P Law Pass Seat) : Type 0 where
    pub seated : IsSeated a p s w
    pub numbers : (p.account w.pool_seat).numbers ≡ range_with_len 0 n
    pub share : (tally_of w.desk_seat).share ≡ n
    pub lists : HasLists a r p s w.pass

  -- the first worker has submitted the starts, and the others have not begun
  pub record MayExplore (first : Worker A P Law Pass Seat) (crew : Crew A P Law Pass Seat) : Type 0 where
    pub first_holds : Holds 1 first
    pub fresh : IsFresh first.desk_seat
    pub unfull : ¬ a.shows_full first.pass
    pub new_crew : IsNewCrew a p s 1 crew
    pub seats : vec_len crew.passes + 1 ≤ p.seats s.pool.now
    pub all : HasSeatEach a p s
    pub objectives_are : a.objectives s.archive.now ≡ objectives s.instance.now

  -- a worker has left, and what it explored until then
  pub record HasDeparted (before : Worker A P Law Pass Seat) (left : Left A P Law Pass Seat) : Type 0 where
    pub seated : IsSeated a p s left.worker
    pub departs : Departs (r.reply (a.number s.archive.now)) s.instance.now (a.passes s.archive.now) left.end (hands_of a p before) (hands_of a p left.worker)
    pub full : a.shows_full left.worker.pass ↔ (a.shows_full before.pass ⊎ (left.end ≡ Err Full))
    pub room : left.end ≡ Err Full → a.safe s.archive.now ≤ length (a.view left.worker.pass).observed

  -- all workers have left, and the first one holds what each of them had
  pub record HaveLeft (first : Worker A P Law Pass Seat) (crew : Crew A P Law Pass Seat) (left : Left A P Law Pass Seat) : Type 0 where
    pub holds : Holds (vec_len crew.passes + 1) left.worker
    pub fresh : OnOk left.end (IsFresh left.worker.desk_seat)
    pub shown : IsShown a p s left.end left.worker.pass
    pub leaves : (starts : List Point) → AreReady s.instance.now starts 1 (hands_of a p first)
        → Leaves IsUnhalted s.instance.now starts (vec_len crew.passes + 1) left.end (hands_of a p left.worker)

  -- what the search found, unless memory ran out
  abbrev pub HasFound : List Point → Result (Outcome Pass) (NoMemory Pass) → Type 0
  HasFound starts result =
      IfOk result (λ o. Finds (r.reply (a.number s.archive.now)) s.instance.now starts s.desk.now.moves (a.passes s.archive.now) (a.view o.pass) o.end o.front o.explored o.evaluated o.accepted)

  -- The pass that comes back is at rest, and shows want of room just where the search ended so. Where memory ran out, its lists
  -- are true still.
  pub record GivesBack (result : Result (Outcome Pass) (NoMemory Pass)) : Type 0 where
    pub pass : IfOk result (λ o. a.belongs s.archive.now o.pass × a.at_rest o.pass)
    pub full : IfOk result (λ o. a.shows_full o.pass ↔ (o.end ≡ ends.Full))
    pub room : IfOk result (λ o. o.end ≡ ends.Full → a.safe s.archive.now ≤ length (a.view o.pass).observed)
    pub no_memory : IfErr result (λ n. a.belongs s.archive.now n.pass × a.at_rest n.pass × HasLists a r p s n.pass)
