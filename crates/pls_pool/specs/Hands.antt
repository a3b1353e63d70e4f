-- What each step of a pool adds to what a seat did at one queue, and what all of that is as an account.
use Rattle.std.specs.Prelude.{ℕ, ◌+◌, Bool, Option, Some, None, List, [], ◌∷◌, ◌++◌, length, take, drop, sum_by, count_by, slice_index_or}
use Rattle.pls_pool.specs.Accounts.{Account}
use Rattle.pls_pool.specs.declared.hand.Hand.{Hand}

module _ {T : Type 0} where
  -- a seat that holds these numbers, and has done nothing
  abbrev pub started : ℕ → List ℕ → Hand T
  started seats numbers = record { seats = seats; numbers = numbers; put = []; taken = []; from_spare = [] }

  -- the seat of a pool of one
  abbrev pub first : Hand T
  first = started 1 (0 ∷ [])

  -- a seat that was joined into another, or has not begun
  abbrev pub spent : Hand T
  spent = started 0 []

  -- it gives away the first of its numbers
  abbrev pub giving : Hand T → Hand T
  giving v = record v { numbers = drop 1 v.numbers }

  abbrev pub given : Hand T → Hand T
  given v = started v.seats (take 1 v.numbers)

  abbrev pub putting : List T → Hand T → Hand T
  putting xs v = record v { put = v.put ++ xs }

  abbrev pub taking : List T → Hand T → Hand T
  taking xs v = record v { taken = v.taken ++ xs }

  -- from the spare list
  abbrev pub taking_spare : T → Hand T → Hand T
  taking_spare x v = record v { from_spare = v.from_spare ++ x ∷ [] }

  -- what both did
  abbrev pub joining : Hand T → Hand T → Hand T
  joining v w =
      record v {
        numbers = v.numbers ++ w.numbers;
        put = v.put ++ w.put;
        taken = v.taken ++ w.taken;
        from_spare = v.from_spare ++ w.from_spare;
      }

  -- the change that a step names, if it names one
  abbrev pub noting : Option (Hand T) → Hand T → Hand T
  noting None v = v
  noting (Some w) v = w

  -- how many of the tasks that all these put, took, or took from spare lists pass a test
  abbrev pub put_by : (T → Bool) → List (Hand T) → ℕ
  put_by p vs = sum_by (λ (v : Hand T). count_by p v.put) vs

  abbrev pub taken_by : (T → Bool) → List (Hand T) → ℕ
  taken_by p vs = sum_by (λ (v : Hand T). count_by p v.taken) vs

  abbrev pub from_spare_by : (T → Bool) → List (Hand T) → ℕ
  from_spare_by p vs = sum_by (λ (v : Hand T). count_by p v.from_spare) vs

  -- the tasks that wait in the queue of a pool of one seat
  abbrev pub waiting : Hand T → List T
  waiting v = drop (length v.taken) v.put

  -- what a seat did at its own queue
  abbrev pub own_hand : ℕ → List (Hand T) → Hand T
  own_hand number hands = slice_index_or hands number spent

  -- what a seat with these spare tasks did at all queues, of which the one with this number is its own
  abbrev pub account_at : ℕ → List (Hand T) → List T → Account T
  account_at number hands spare =
      record {
        numbers = (own_hand number hands).numbers;
        put = λ p. put_by p hands + from_spare_by p hands + count_by p spare;
        taken = λ p. taken_by p hands + from_spare_by p hands;
        spare = spare;
        waiting = waiting (own_hand number hands) ++ spare;
      }
