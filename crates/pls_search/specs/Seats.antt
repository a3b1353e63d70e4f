-- A worker at the archive, the pool and the desk of its search: what each step asks of it, and what it keeps.
use Rattle.std.specs.Prelude.{◌≡◌, ◌≢◌, ◌↔◌, ◌⊎◌, ℕ, ◌+◌, ◌<◌, ◌≤◌, List, length, Result, Err}
use Rattle.pls_archive.specs.declared.rule.Rule as rule
use Rattle.pls_archive.specs.declared.shared.Shared as shared
use Rattle.pls_archive.specs.History.{accepted}
use Rattle.pls_archive.specs.View.{new_view, IsConsistent}
use Rattle.pls_pool.specs.Accounts.{IsNew}
use Rattle.pls_pool.specs.DeskSeats.{IsDeskSeatOf, IsNewDeskSeat, tally_of}
use Rattle.pls_pool.specs.declared.cause.Cause.{Cause}
use Rattle.pls_pool.specs.declared.cause.Cause.TheVariants.{Full, Memory}
use Rattle.pls_pool.specs.declared.desk.DeskSeat.{DeskSeat}
use Rattle.pls_pool.specs.declared.pool.Pool as pool
use Rattle.pls_search.specs.declared.task.Task.{Task as Waiting}
use Rattle.pls_search.specs.declared.worker.Search.{Search}
use Rattle.pls_search.specs.declared.worker.Worker.{Worker}
use Rattle.pls_search.specs.Workers.{Hands, hands, StaysInLine, GoesOn}

-- each draw gave a move, so that the seat may draw
abbrev pub IsFresh : DeskSeat → Type 0
IsFresh t = (tally_of t).draws ≡ (tally_of t).goes

-- a pass and a seat that have done nothing, of worker n
module _ {A P Law Pass Seat : Type 0} (a : shared.Ghosts A Law Pass) (p : pool.Ghosts P Waiting Seat) where
  abbrev pub IsNewPass : A → ℕ → Pass → Type 0
  IsNewPass archive n q = a.belongs archive q × a.at_rest q × (a.view q ≡ new_view n) × ¬ a.shows_full q

  abbrev pub IsNewSeat : P → ℕ → Seat → Type 0
  IsNewSeat seats n t = p.belongs seats t × IsNew n (p.account t)

  -- what a worker has in its hands
  abbrev pub hands_of : Worker A P Law Pass Seat → Hands
  hands_of w = hands (a.view w.pass) (p.account w.pool_seat) (tally_of w.desk_seat) w.explored w.evaluated

module _ {A P G Law Pass Seat : Type 0} (a : shared.Ghosts A Law Pass) (p : pool.Ghosts P Waiting Seat) (s : Search A P G Law Pass Seat) where
  -- each pass has a seat at the pool and one at the desk
  abbrev pub HasSeatEach : Type 0
  HasSeatEach = (p.seats s.pool.now ≡ a.passes s.archive.now) × (s.desk.now.seats ≡ a.passes s.archive.now)

  -- its pass is at the archive, between two calls, and its seats are at the pool and at the desk
  pub record IsSeated (w : Worker A P Law Pass Seat) : Type 0 where
    pub pass : a.belongs s.archive.now w.pass × a.at_rest w.pass
    pub seats : p.belongs s.pool.now w.pool_seat × IsDeskSeatOf s.desk.now w.desk_seat

  -- worker n, which has done nothing
  pub record IsNewAt (n : ℕ) (w : Worker A P Law Pass Seat) : Type 0 where
    pub pass : IsNewPass a p s.archive.now n w.pass
    pub pool_seat : IsNewSeat a p s.pool.now n w.pool_seat
    pub desk_seat : IsNewDeskSeat s.desk.now w.desk_seat
    pub uncounted : (w.explored ≡ 0) × (w.evaluated ≡ 0)

  -- Unless memory ran out: where the pool was made for one seat, tasks that were made wait behind those that waited.
  abbrev pub StaysInOrder : {T : Type 0} → Result T Cause → Worker A P Law Pass Seat → Worker A P Law Pass Seat → Type 0
  StaysInOrder end before after = end ≢ Err Memory → p.seats s.pool.now ≡ 1 → StaysInLine (hands_of a p before) (hands_of a p after)

  -- Unless memory ran out: the pass shows want of room just where that is the cause. Then as many points were observed as the
  -- archive is safe for.
  pub record IsShown {T : Type 0} (end : Result T Cause) (q : Pass) : Type 0 where
    pub full : end ≢ Err Memory → (a.shows_full q ↔ (end ≡ Err Full))
    pub room : end ≡ Err Full → a.safe s.archive.now ≤ length (a.view q).observed

module _ {A P G Law Pass Seat : Type 0} (a : shared.Ghosts A Law Pass) (r : rule.Ghosts Law) (p : pool.Ghosts P Waiting Seat) (s : Search A P G Law Pass Seat) where
  -- the lists that the pass holds may be those of one legal history
  abbrev pub HasLists : Pass → Type 0
  HasLists q = IsConsistent (r.reply (a.number s.archive.now)) (a.passes s.archive.now) (a.view q)

  -- What a step keeps of its worker, that halts the run for these causes and ends so. Where the archive was full, as many points
  -- were accepted as it is safe for.
  pub record Keeps {T : Type 0} (causes : List Cause) (end : Result T Cause) (before after : Worker A P Law Pass Seat) : Type 0 where
    pub seated : IsSeated a p s after
    pub goes_on : GoesOn (r.reply (a.number s.archive.now)) (a.passes s.archive.now) causes (hands_of a p before) (hands_of a p after)
    pub full : a.shows_full after.pass ↔ (a.shows_full before.pass ⊎ (end ≡ Err Full))
    pub room : end ≡ Err Full → a.safe s.archive.now < length (accepted (a.view after.pass).observed) + 1
