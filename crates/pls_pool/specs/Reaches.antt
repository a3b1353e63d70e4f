-- What a seat has at one deque, and what it did there.
use Rattle.std.specs.Prelude.{◌≡◌, ℕ, ◌+◌, ◌<◌, ◌≤◌, Bool, List, ◌∷◌, ◌++◌, length, count_by}
use Rattle.std.specs.List.{flat_map}
use Rattle.std.specs.declared.alloc.Global.{Global}
use Rattle.crossbeam_deque.specs.declared.handles.Worker.{Worker}
use Rattle.crossbeam_deque.specs.declared.handles.Stealer.{Stealer}
use Rattle.crossbeam_deque.specs.Handles.{Pass, view, IsPassOf, worker_deque, stealer_deque, worker_flavor, stealer_flavor, worker_view, worker_capacity, worker_index}
use Rattle.pls_pool.specs.Accounts.{one_if}
use Rattle.pls_pool.specs.Hands.{spent, waiting}
use Rattle.pls_pool.specs.TaskRule.{IsWhole, TookPut}
use Rattle.pls_pool.specs.declared.hand.Hand.{Hand}
use Rattle.pls_pool.specs.declared.task_plays.Keeping.{Keeping}
use Rattle.pls_pool.specs.declared.stealing.Reach.{Reach}
use Rattle.pls_pool.specs.declared.stealing.Reach.TheVariants.{Own, Guests}
use mathlib.Core.Option.{some}
use lib.ListN.{get_elem?}

abbrev pub Owner : Type 0 → Type 0
Owner T = Worker T Global (Hand T) Keeping

abbrev pub Thief : Type 0 → Type 0
Thief T = Stealer T Global (Hand T) Keeping

abbrev pub Guest : Type 0 → Type 0
Guest T = Pass T (Hand T) Global

module _ {T : Type 0} where
  abbrev pub numbers_of : List (Guest T) → List ℕ
  numbers_of ps = flat_map (λ (p : Guest T). (view p).numbers) ps

  -- What several passes did. They are of no whole pool, whatever numbers they hold: its number of seats is 0
  abbrev pub guests_hand : List (Guest T) → Hand T
  guests_hand ps =
      record spent {
        numbers = numbers_of ps;
        put = flat_map (λ (p : Guest T). (view p).put) ps;
        taken = flat_map (λ (p : Guest T). (view p).taken) ps;
        from_spare = flat_map (λ (p : Guest T). (view p).from_spare) ps;
      }

  abbrev pub hand_at : Reach T → Hand T
  hand_at (Own w) = worker_view w
  hand_at (Guests ps) = guests_hand ps

  -- the worker of the deque with this stealer
  pub record IsOwnerOf (seats room : ℕ) (stealer : Thief T) (w : Owner T) : Type 0 where
    pub deque : worker_deque w ≡ stealer_deque stealer
    pub fifo : worker_flavor w ≡ 0
    pub some_seats : 0 < seats
    pub seats_are : (worker_view w).seats ≡ seats
    pub holds : 0 < length (worker_view w).numbers
    -- a deque with a slot for each of `room` tasks takes as many before it has to grow
    pub slots : room ≤ worker_capacity w
    pub index : worker_index w ≤ length (worker_view w).put
    -- where it holds all numbers, it was told that what was taken is among what was put
    pub among : IsWhole (worker_view w) → TookPut (worker_view w)

  -- a pass of the deque with this stealer
  pub record IsGuestOf (seats : ℕ) (stealer : Thief T) (p : Guest T) : Type 0 where
    pub deque : IsPassOf (stealer_deque stealer) p
    pub fifo : stealer_flavor stealer ≡ 0
    pub seats_are : (view p).seats ≡ seats
    pub holds : 0 < length (view p).numbers

  pub record AreGuestsOf (seats : ℕ) (stealer : Thief T) (ps : List (Guest T)) : Type 0 where
    pub some_pass : 0 < length ps
    pub few : length ps ≤ length (numbers_of ps)
    pub each : (i : ℕ) (p : Guest T) → get_elem? ps i ≡ some p → IsGuestOf seats stealer p

  abbrev pub IsReach : ℕ → ℕ → Thief T → Reach T → Type 0
  IsReach seats room stealer (Own w) = IsOwnerOf seats room stealer w
  IsReach seats room stealer (Guests ps) = AreGuestsOf seats stealer ps

  -- passes of this worker's deque that hold numbers
  abbrev pub ArePassesOf : Owner T → List (Guest T) → Type 0
  ArePassesOf w ps = (i : ℕ) (p : Guest T) → get_elem? ps i ≡ some p → IsPassOf (worker_deque w) p × (0 < length (view p).numbers)

  -- both are of one deque
  abbrev pub AreOneReach : Reach T → Reach T → Type 0
  AreOneReach r s = (seats : ℕ) × (room : ℕ) × (stealer : Thief T) × IsReach seats room stealer r × IsReach seats room stealer s

  -- what it was of, it still is
  abbrev pub StaysReach : Reach T → Reach T → Type 0
  StaysReach old new = (seats room : ℕ) (stealer : Thief T) → IsReach seats room stealer old → IsReach seats room stealer new

  -- its deque has no room beyond so many tasks
  abbrev pub IsFullAt : ℕ → Reach T → Type 0
  IsFullAt n r = (seats room : ℕ) (stealer : Thief T) → IsReach seats room stealer r → room ≤ n

  -- one task more was taken, and nothing else was done
  pub record TookOne (x : T) (v w : Hand T) : Type 0 where
    pub same_numbers : w.numbers ≡ v.numbers
    pub same_seats : w.seats ≡ v.seats
    pub put : (p : T → Bool) → count_by p w.put ≡ count_by p v.put
    pub taken : (p : T → Bool) → count_by p w.taken ≡ count_by p v.taken + one_if (p x)
    pub from_spare : (p : T → Bool) → count_by p w.from_spare ≡ count_by p v.from_spare
    pub waits : v.seats ≡ 1 → waiting v ≡ x ∷ waiting w
    pub ahead : v.seats ≡ 1 → length w.taken ≤ length w.put

  -- what two seats did at one deque, of which one at most has its worker
  pub record PutsTogether (v w both : Hand T) : Type 0 where
    pub seats : both.seats ≡ v.seats + w.seats
    pub numbers : w.seats ≡ 0 → both.numbers ≡ v.numbers ++ w.numbers
    pub count : length both.numbers ≡ length v.numbers + length w.numbers
    pub put : (p : T → Bool) → count_by p both.put ≡ count_by p v.put + count_by p w.put
    pub taken : (p : T → Bool) → count_by p both.taken ≡ count_by p v.taken + count_by p w.taken
    pub from_spare : (p : T → Bool) → count_by p both.from_spare ≡ count_by p v.from_spare + count_by p w.from_spare
