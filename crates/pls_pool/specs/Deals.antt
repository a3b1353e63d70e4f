-- The start of a pool of deques: each deque is opened, and each seat gets what reaches it.
use Rattle.std.specs.Prelude.{◌≡◌, ◌≢◌, ℕ, ◌+◌, ◌-◌, ◌<◌, ◌≤◌, ◌⊎◌, List, [], ◌∷◌, ◌++◌, length}
use Rattle.std.specs.List.{range_with_len}
use Rattle.crossbeam_deque.specs.Handles.{worker_deque, stealer_deque, stealer_flavor}
use Rattle.pls_pool.specs.Hands.{started}
use Rattle.pls_pool.specs.Reaches.{Owner, Thief, hand_at, IsReach}
use Rattle.pls_pool.specs.declared.stealing.Reach.{Reach}
use Rattle.pls_pool.specs.declared.stealing.StealSeat.{StealSeat}
use mathlib.Core.Option.{some}
use lib.ListN.{get_elem?}

-- the numbers of the others, in the order in which a worker gives them away, and then its own
abbrev pub in_turn : ℕ → ℕ → List ℕ
in_turn seats number = range_with_len 0 number ++ (range_with_len (number + 1) (seats - (number + 1)) ++ number ∷ [])

module _ {T : Type 0} where
  -- the seat reaches one deque more
  pub record Gains (s t : StealSeat T) (r : Reach T) : Type 0 where
    pub number : t.number ≡ s.number
    pub spare : t.spare ≡ s.spare
    pub reaches : t.reaches.items ≡ s.reaches.items ++ r ∷ []

  -- what the i-th seat has at this worker's deque, where it is another's
  abbrev pub IsGuestReach : ℕ → Owner T → ℕ → Reach T → Type 0
  IsGuestReach seats w i r = (hand_at r ≡ started 0 (i ∷ [])) × ((room : ℕ) (stealer : Thief T) → stealer_deque stealer ≡ worker_deque w → stealer_flavor stealer ≡ 0 → IsReach seats room stealer r)

  -- the seats with these numbers reach this worker's deque, and the others are as they were
  abbrev pub IsDealtTo : ℕ → Owner T → ℕ → ℕ → List (StealSeat T) → List (StealSeat T) → Type 0
  IsDealtTo seats w from to olds news =
      (length news ≡ length olds)
      × ((i : ℕ) (t : StealSeat T) → get_elem? news i ≡ some t → from ≤ i → i < to → (s : StealSeat T) × (r : Reach T) × (get_elem? olds i ≡ some s) × Gains s t r × IsGuestReach seats w i r)
      × ((i : ℕ) (t : StealSeat T) → get_elem? news i ≡ some t → (i < from) ⊎ (to ≤ i) → get_elem? olds i ≡ some t)

  -- what the i-th seat has at the deque with this number and stealer
  pub record IsNewReach (seats room number : ℕ) (stealer : Thief T) (i : ℕ) (r : Reach T) : Type 0 where
    pub reach : IsReach seats room stealer r
    pub other : i ≢ number → hand_at r ≡ started 0 (i ∷ [])
    pub own : i ≡ number → hand_at r ≡ started seats (i ∷ [])

  -- each seat reaches the deque with this number and stealer
  abbrev pub IsOpened : ℕ → ℕ → ℕ → Thief T → List (StealSeat T) → List (StealSeat T) → Type 0
  IsOpened seats room number stealer olds news =
      (length news ≡ length olds)
      × ((i : ℕ) (t : StealSeat T) → get_elem? news i ≡ some t → (s : StealSeat T) × (r : Reach T) × (get_elem? olds i ≡ some s) × Gains s t r × IsNewReach seats room number stealer i r)

  -- the i-th seat, when it reaches the deques with these stealers
  pub record IsBegun (seats room : ℕ) (stealers : List (Thief T)) (i : ℕ) (s : StealSeat T) : Type 0 where
    pub number : s.number ≡ i
    pub spare : s.spare ≡ []
    pub count : length s.reaches.items ≡ length stealers
    pub each : (j : ℕ) (r : Reach T) (stealer : Thief T) → get_elem? s.reaches.items j ≡ some r → get_elem? stealers j ≡ some stealer → IsNewReach seats room j stealer i r
