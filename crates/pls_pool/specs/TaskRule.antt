-- The rule of a queue of tasks: what holds between any two steps, of the tasks in the queue and of what the seats did at it.
use Rattle.std.specs.Prelude.{◌≡◌, ℕ, ◌+◌, ◌<◌, ◌≤◌, Bool, List, [], ◌++◌, length, sum_by, count_by}
use Rattle.pls_pool.specs.Hands.{put_by, taken_by, taking, waiting}
use Rattle.pls_pool.specs.declared.hand.Hand.{Hand}
use mathlib.Core.Option.{some}
use lib.ListN.{get_elem?}

module _ {T : Type 0} where
  abbrev pub held : List (Hand T) → ℕ
  held vs = sum_by (λ (v : Hand T). length v.numbers) vs

  -- all seats of the pool were joined
  abbrev pub IsWhole : Hand T → Type 0
  IsWhole v = length v.numbers ≡ v.seats

  -- what was taken from the queue is among what was put into it, each task at most as often
  abbrev pub TookPut : Hand T → Type 0
  TookPut v = (p : T → Bool) → count_by p v.taken ≤ count_by p v.put

  -- the tasks that the seat of a pool of one put are those that it took and those in the queue, in this order
  abbrev pub InOrder : List T → Hand T → Type 0
  InOrder items v = v.put ≡ v.taken ++ items

  pub record Keeps (items : List T) (views : List (Hand T)) : Type 0 where
    -- what was put is what was taken and what is left, by every test
    pub balance : (p : T → Bool) → put_by p views ≡ taken_by p views + count_by p items
    -- all seats are held
    pub shares : (i : ℕ) (v : Hand T) → get_elem? views i ≡ some v → 0 < length v.numbers → v.seats ≡ held views
    -- a seat that holds no number has done nothing
    pub nothing : (i : ℕ) (v : Hand T) → get_elem? views i ≡ some v → length v.numbers ≡ 0 → (v.put ≡ []) × (v.taken ≡ [])
    pub in_order : (i : ℕ) (v : Hand T) → get_elem? views i ≡ some v → 0 < length v.numbers → v.seats ≡ 1 → InOrder items v

  -- what a seat learns at a moment at which the queue holds these tasks
  pub record Learns (v : Hand T) (items : List T) : Type 0 where
    pub balance : IsWhole v → (p : T → Bool) → count_by p v.put ≡ count_by p v.taken + count_by p items
    pub in_order : v.seats ≡ 1 → InOrder items v

  -- what a seat that takes these tasks from the queue learns
  pub record TakesFrom (v : Hand T) (xs : List T) (w : Hand T) : Type 0 where
    pub now : w ≡ taking xs v
    pub among : IsWhole v → TookPut w
    pub waits : v.seats ≡ 1 → waiting v ≡ xs ++ waiting w
