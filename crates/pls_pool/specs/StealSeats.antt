-- A pool of deques and its seats, as their callers see them.
use Rattle.std.specs.Prelude.{◌≡◌, ℕ, ◌+◌, ◌*◌, ◌^◌, ◌<◌, ◌≤◌, min, true, List, [], length, map, sum_by, vec_len}
use Rattle.pls_pool.specs.Accounts.{Account, In, IsNew}
use Rattle.pls_pool.specs.Hands.{own_hand, account_at}
use Rattle.pls_pool.specs.TaskRule.{Learns}
use Rattle.pls_pool.specs.Reaches.{Thief, hand_at, IsReach, AreOneReach, PutsTogether}
use Rattle.pls_pool.specs.declared.hand.Hand.{Hand}
use Rattle.pls_pool.specs.declared.stealing.Stealing.{Stealing}
use Rattle.pls_pool.specs.declared.stealing.Reach.{Reach}
use Rattle.pls_pool.specs.declared.stealing.StealSeat.{StealSeat}
use mathlib.Core.Option.{some}
use lib.ListN.{get_elem?}

module _ {T : Type 0} where
  -- what the seat did at each deque
  abbrev pub hands_of : StealSeat T → List (Hand T)
  hands_of s = map hand_at s.reaches.items

  -- what it did at its own
  abbrev pub own_at : ℕ → List (Reach T) → Hand T
  own_at number reaches = own_hand number (map hand_at reaches)

  abbrev pub account_of : StealSeat T → Account T
  account_of s = account_at s.number (hands_of s) s.spare

  -- what the seat has at the deque with this number is of this pool
  abbrev pub IsReachOf : Stealing T → ℕ → Reach T → Type 0
  IsReachOf q number r = (stealer : _) → get_elem? q.stealers.items number ≡ some stealer → IsReach (vec_len q.stealers) q.room stealer r

  -- 1 where it has the worker
  abbrev pub owned : Hand T → ℕ
  owned v = min v.seats 1

  -- the seats that it holds are those whose workers it has, and each of them is among those who did what it did at any deque
  pub record Holds (numbers : List ℕ) (hands : List (Hand T)) : Type 0 where
    pub count : sum_by owned hands ≡ length numbers
    pub workers : (j : ℕ) (v : Hand T) → get_elem? hands j ≡ some v → 0 < v.seats → In j numbers
    pub passes : (j : ℕ) (v : Hand T) → get_elem? hands j ≡ some v → v.seats ≡ 0 → v.numbers ≡ numbers
    pub as_many : (j : ℕ) (v : Hand T) → get_elem? hands j ≡ some v → length v.numbers ≡ length numbers

  -- the seat with this number, what it has at each deque, and its spare tasks
  pub record IsSeatWith (q : Stealing T) (number : ℕ) (reaches : List (Reach T)) (spare : List T) : Type 0 where
    pub count : length reaches ≡ vec_len q.stealers
    pub placed : number < vec_len q.stealers
    pub each : (j : ℕ) (r : Reach T) → get_elem? reaches j ≡ some r → IsReachOf q j r
    -- it has the worker of its own deque
    pub own : (own_at number reaches).seats ≡ vec_len q.stealers
    pub holds : Holds (own_at number reaches).numbers (map hand_at reaches)
    pub some_seat : 0 < length (own_at number reaches).numbers
    pub held : length (own_at number reaches).numbers ≤ vec_len q.stealers
    -- where the pool was made for one seat, it took no more than it put
    pub ahead : vec_len q.stealers ≡ 1 → length (own_at number reaches).taken ≤ length (own_at number reaches).put
    -- it has no more than so many spare tasks for each seat that it holds
    pub few_spare : length spare ≤ length (own_at number reaches).numbers * 2 ^ 57
    -- a seat into which none was joined has no spare task before its deque took `room` tasks
    pub roomy : length (own_at number reaches).numbers ≡ 1 → length (own_at number reaches).put < q.room → (spare ≡ []) × ((own_at number reaches).from_spare ≡ [])

  abbrev pub IsStealSeatOf : Stealing T → StealSeat T → Type 0
  IsStealSeatOf q s = IsSeatWith q s.number s.reaches.items s.spare

  -- none was joined into the seat, and it put fewer tasks than a deque has room for
  abbrev pub HasRoom : Stealing T → StealSeat T → Type 0
  HasRoom q s = (length (account_of s).numbers ≡ 1) × ((account_of s).put (λ x. true) < q.room)

  -- it did nothing
  abbrev pub IsSame : StealSeat T → StealSeat T → Type 0
  IsSame old new = (new.number ≡ old.number) × (hands_of new ≡ hands_of old) × (new.spare ≡ old.spare)

  -- the deque with this number was empty at some moment since the seat last took or put a task there
  abbrev pub IsBareAt : ℕ → StealSeat T → Type 0
  IsBareAt j s = (v : Hand T) → get_elem? (hands_of s) j ≡ some v → Learns v []

  -- what two seats have at one deque, and what both have there together
  abbrev pub AreJoined : Reach T → Reach T → Reach T → Type 0
  AreJoined r s both = ((seats room : ℕ) (stealer : Thief T) → IsReach seats room stealer r → IsReach seats room stealer s → IsReach seats room stealer both) × PutsTogether (hand_at r) (hand_at s) (hand_at both)

  -- the same at each deque
  abbrev pub AreAllJoined : List (Reach T) → List (Reach T) → List (Reach T) → Type 0
  AreAllJoined rs ss all = (length all ≡ length rs) × ((j : ℕ) (both : Reach T) → get_elem? all j ≡ some both → (r : Reach T) × (s : Reach T) × (get_elem? rs j ≡ some r) × (get_elem? ss j ≡ some s) × AreJoined r s both)

  -- what two seats have may be joined
  abbrev pub MayJoin : Reach T → Reach T → Type 0
  MayJoin r s = AreOneReach r s × (0 < (hand_at r).seats → (hand_at s).seats ≡ 0) × (length (hand_at r).numbers + length (hand_at s).numbers < 2 ^ 63)

  -- the seat is the k-th of this pool, and has done nothing
  pub record IsNewStealSeat (q : Stealing T) (k : ℕ) (s : StealSeat T) : Type 0 where
    pub seat : IsStealSeatOf q s
    pub account : IsNew k (account_of s)
