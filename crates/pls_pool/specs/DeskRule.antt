-- The rule of the desk: what holds between any two steps, of the three words and of what the seats have done.
use Rattle.std.specs.Prelude.{◌≡◌, ℕ, ◌+◌, ◌%◌, ◌^◌, ◌<◌, ◌≤◌, Bool, true, false, nat_lt, min, if◌then◌else◌, List, [], length, slice_index, sum_by, count_by}
use Rattle.pls_pool.specs.declared.cause.Cause.{Cause}
use Rattle.pls_pool.specs.declared.cause.Cause.TheVariants.{Spent, Full, Memory}
use Rattle.pls_pool.specs.declared.tally.Tally.{Tally}
use Rattle.pls_pool.specs.declared.sizes.Sizes.{Sizes}
use mathlib.Core.Option.{some}
use lib.ListN.{get_elem?}

abbrev pub is_cause : Cause → Cause → Bool
is_cause Spent Spent = true
is_cause Full Full = true
is_cause Memory Memory = true
is_cause c d = false

-- the seat keeps this cause so many times
abbrev pub times_halted : Cause → Tally → ℕ
times_halted c v = count_by (is_cause c) v.halts

-- some seat keeps this cause
abbrev pub is_kept : Cause → List Tally → Bool
is_kept c vs = nat_lt 0 (sum_by (times_halted c) vs)

-- the third word, by the causes that are kept
abbrev pub causes_word : Bool → Bool → Bool → ℕ
causes_word a b c = (if a then 1 else 0) + (if b then 2 else 0) + (if c then 4 else 0)

-- a seat that holds no seat has done nothing, and one that holds some drew no more than once past the moves for each
pub record IsSound (key : Sizes) (v : Tally) : Type 0 where
  pub sized : 0 < v.share → (v.moves ≡ key.moves) × (v.seats ≡ key.seats)
  pub few : v.draws ≤ v.goes + v.share
  pub nothing : v.share ≡ 0 → (v.opened ≡ 0) × (v.done ≡ 0) × (v.draws ≡ 0) × (v.goes ≡ 0) × (v.halts ≡ [])

pub record Kept (key : Sizes) (ws : List ℕ) (vs : List Tally) : Type 0 where
  pub long : length ws ≡ 17
  -- all seats are held
  pub shares : sum_by (λ (v : Tally). v.share) vs ≡ key.seats
  pub each : (i : ℕ) (v : Tally) → get_elem? vs i ≡ some v → IsSound key v
  -- the first word is the tasks opened minus the tasks done
  pub open_is : (slice_index ws 0 + sum_by (λ (v : Tally). v.done) vs) % 2 ^ 64 ≡ sum_by (λ (v : Tally). v.opened) vs % 2 ^ 64
  -- the second word is the number of draws, of which as many gave a move as there are moves
  pub drawn_is : slice_index ws 8 ≡ sum_by (λ (v : Tally). v.draws) vs
  pub goes_are : sum_by (λ (v : Tally). v.goes) vs ≡ min (sum_by (λ (v : Tally). v.draws) vs) key.moves
  -- the third word has a bit for each cause that some seat keeps
  pub causes_are : slice_index ws 16 ≡ causes_word (is_kept Spent vs) (is_kept Full vs) (is_kept Memory vs)

-- the seat holds all seats of the desk
abbrev pub HoldsAll : Tally → Type 0
HoldsAll v = v.share ≡ v.seats

-- as many draws gave a move as there are moves
abbrev pub AllWent : Tally → Type 0
AllWent v = v.goes ≡ min v.draws v.moves

-- what a look that found this in the first word tells a seat that holds all
abbrev pub LearnsOpen : ℕ → Tally → Type 0
LearnsOpen found v = HoldsAll v → ((found + v.done) % 2 ^ 64 ≡ v.opened % 2 ^ 64) × AllWent v

-- what a look that found this in the third word tells a seat that holds all
abbrev pub LearnsCauses : ℕ → Tally → Type 0
LearnsCauses found v = HoldsAll v → (found ≡ 0 → v.halts ≡ []) × (0 < found → 0 < length v.halts) × AllWent v

-- at a moment at which the third word is not 0, some seat keeps a cause
abbrev pub HaltedKeepsCause : Type 0
HaltedKeepsCause =
    (key : Sizes) (ws : List ℕ) (vs : List Tally) → Kept key ws vs → 0 < slice_index ws 16 → (i : ℕ) × (v : Tally) × (get_elem? vs i ≡ some v) × (0 < length v.halts)
