-- What a seat of a pool did, as contracts see it, and what each call adds to it. Tasks are counted by tests.
use Rattle.std.specs.Prelude.{◌≡◌, ℕ, ◌+◌, ◌≤◌, ◌⊎◌, Bool, if◌then◌else◌, List, [], ◌∷◌, ◌++◌, length}

pub record Account (T : Type 0) : Type 0 where
  -- the number of the seat, and then those of the seats joined into it
  pub numbers : List ℕ
  -- how many of the tasks that were put pass a test, and how many of those that were taken
  pub put : (T → Bool) → ℕ
  pub taken : (T → Bool) → ℕ
  -- the tasks in the spare list of the seat
  pub spare : List T
  -- where the pool was made for one seat: the tasks that were put and not taken, in order
  pub waiting : List T

abbrev pub one_if : Bool → ℕ
one_if b = if b then 1 else 0

-- it is one of these numbers
abbrev pub In : ℕ → List ℕ → Type 0
In k [] = ⊥
In k (n ∷ ns) = (k ≡ n) ⊎ In k ns

-- no number is in both
abbrev pub Apart : List ℕ → List ℕ → Type 0
Apart ms ns = (k : ℕ) → In k ms → ¬ In k ns

module _ {T : Type 0} where
  -- the account of the k-th seat at the start: it has done nothing
  pub record IsNew (k : ℕ) (a : Account T) : Type 0 where
    pub numbers : a.numbers ≡ k ∷ []
    pub put : (p : T → Bool) → a.put p ≡ 0
    pub taken : (p : T → Bool) → a.taken p ≡ 0
    pub spare : a.spare ≡ []
    pub waiting : a.waiting ≡ []

  -- the task goes to the end of the spare list while that is not empty, and else to a queue or into the spare list
  pub record Puts (seats : ℕ) (task : T) (before after : Account T) : Type 0 where
    pub same_numbers : after.numbers ≡ before.numbers
    pub put : (p : T → Bool) → after.put p ≡ before.put p + one_if (p task)
    pub taken : (p : T → Bool) → after.taken p ≡ before.taken p
    pub aside : ((before.spare ≡ []) × (after.spare ≡ [])) ⊎ (after.spare ≡ before.spare ++ task ∷ [])
    pub waits : seats ≡ 1 → after.waiting ≡ before.waiting ++ task ∷ []

  -- the task comes from a queue, or from the front of the spare list
  pub record Takes (seats : ℕ) (task : T) (before after : Account T) : Type 0 where
    pub same_numbers : after.numbers ≡ before.numbers
    pub put : (p : T → Bool) → after.put p ≡ before.put p
    pub taken : (p : T → Bool) → after.taken p ≡ before.taken p + one_if (p task)
    pub aside : (after.spare ≡ before.spare) ⊎ (before.spare ≡ task ∷ after.spare)
    pub waits : seats ≡ 1 → before.waiting ≡ task ∷ after.waiting

  -- all seats of the pool were joined
  abbrev pub HoldsAll : ℕ → Account T → Type 0
  HoldsAll seats a = length a.numbers ≡ seats

  -- what was taken is among what was put, each task at most as often
  abbrev pub IsAmong : Account T → Type 0
  IsAmong a = (p : T → Bool) → a.taken p ≤ a.put p

  pub record FindsNone (seats : ℕ) (before after : Account T) : Type 0 where
    pub same : after ≡ before
    pub bare : before.spare ≡ []
    -- what was taken is what was put, each task as often
    pub even : HoldsAll seats before → (p : T → Bool) → before.put p ≡ before.taken p
    pub waits : seats ≡ 1 → before.waiting ≡ []

  pub record Joins (before other after : Account T) : Type 0 where
    pub numbers : after.numbers ≡ before.numbers ++ other.numbers
    pub put : (p : T → Bool) → after.put p ≡ before.put p + other.put p
    pub taken : (p : T → Bool) → after.taken p ≡ before.taken p + other.taken p
    pub spare : after.spare ≡ before.spare ++ other.spare
