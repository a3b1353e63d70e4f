-- A pool of one queue and its seats, as their callers see them.
use Rattle.std.specs.Prelude.{◌≡◌, ℕ, ◌*◌, ◌^◌, ◌<◌, ◌≤◌, [], ◌∷◌, length}
use Rattle.crossbeam_queue.specs.SegTies.{IsSegPassOf}
use Rattle.pls_pool.specs.Accounts.{Account, IsNew}
use Rattle.pls_pool.specs.Hands.{account_at}
use Rattle.pls_pool.specs.declared.hand.Hand.{Hand}
use Rattle.pls_pool.specs.declared.one_queue.OneQueue.{OneQueue}
use Rattle.pls_pool.specs.declared.one_queue.QueueSeat.{QueueSeat}

module _ {T : Type 0} where
  abbrev pub hand_of : QueueSeat T → Hand T
  hand_of s = s.pass.me.view.client

  abbrev pub account_of : QueueSeat T → Account T
  account_of s = account_at 0 (hand_of s ∷ []) s.spare

  -- the seat is of this pool, and has no more than so many spare tasks for each seat that it holds
  pub record IsQueueSeatOf (q : OneQueue T) (s : QueueSeat T) : Type 0 where
    pub at_queue : IsSegPassOf q.queue s.pass
    pub seats_are : (hand_of s).seats ≡ q.seats
    pub holds : 0 < length (hand_of s).numbers
    pub held : length (hand_of s).numbers ≤ q.seats
    -- where the pool was made for one seat, it took no more than it put
    pub ahead : q.seats ≡ 1 → length (hand_of s).taken ≤ length (hand_of s).put
    pub few_spare : length s.spare ≤ length (hand_of s).numbers * 2 ^ 57

  -- the seat is the k-th of this pool, and has done nothing
  pub record IsNewQueueSeat (q : OneQueue T) (k : ℕ) (s : QueueSeat T) : Type 0 where
    pub seat : IsQueueSeatOf q s
    pub account : IsNew k (account_of s)
