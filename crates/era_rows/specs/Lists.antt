-- Lists of entries: what was accepted, by whom, and which list is a caller's own.
use Rattle.std.specs.Prelude.{◌≡◌, ℕ, ◌+◌, ◌<◌, ◌≤◌, Bool, true, false, ◌==◌, if◌then◌else◌, Option, Some, None, List, [], ◌∷◌, ◌++◌, map, filter, take}
use mathlib.Core.Option.{some}
use lib.ListN.{get_elem?}

-- the first list begins the second
abbrev pub IsPrefix : {A : Type 0} → List A → List A → Type 0
IsPrefix {A} xs ys = (more : List A) × (xs ++ more ≡ ys)

-- those of the entries that name the caller
abbrev pub of_caller : {E : Type 0} → (E → ℕ) → ℕ → List E → List E
of_caller caller c es = filter (λ e. caller e == c) es

-- the entry goes to the end of the list of this caller
abbrev pub add_entry : {E : Type 0} → ℕ → E → List (ℕ × List E) → List (ℕ × List E)
add_entry c e lists = map (λ list. if list.0 == c then (list.0, list.1 ++ e ∷ []) else list) lists

-- the entry, if there is one, goes to the end of its caller's list
abbrev pub add_named : {E : Type 0} → (E → ℕ) → Option E → List (ℕ × List E) → List (ℕ × List E)
add_named caller None lists = lists
add_named caller (Some e) lists = add_entry (caller e) e lists

module _ {E : Type 0} (caller stamp : E → ℕ) (accepted : ℕ → E → Bool) (right : ℕ → E → List E → Type 0) where
  -- The longest list of accepted entries: each was accepted, is right at those before it, and has its place as its stamp,
  -- counted from 1. Its caller is one that has begun
  pub record IsLog (shape made : ℕ) (log : List E) : Type 0 where
    pub accepts : (n : ℕ) (e : E) → get_elem? log n ≡ some e → accepted shape e ≡ true
    pub judged : (n : ℕ) (e : E) → get_elem? log n ≡ some e → right shape e (take n log)
    pub stamped : (n : ℕ) (e : E) → get_elem? log n ≡ some e → stamp e ≡ n + 1
    pub begun : (n : ℕ) (e : E) → get_elem? log n ≡ some e → caller e < made

  -- The list of a caller, of which a pass that has seen so many accepted entries knows. Its accepted entries are those of
  -- the longest list that name the caller; each other one is right at the entries up to its stamp
  pub record IsListOf (shape : ℕ) (log : List E) (seen c : ℕ) (es : List E) : Type 0 where
    pub named : (n : ℕ) (e : E) → get_elem? es n ≡ some e → caller e ≡ c
    pub told : filter (accepted shape) es ≡ of_caller caller c log
    pub known : (n : ℕ) (e : E) → get_elem? es n ≡ some e → stamp e ≤ seen
    pub judged : (n : ℕ) (e : E) → get_elem? es n ≡ some e → accepted shape e ≡ false → right shape e (take (stamp e) log)
    -- stamps never fall, and an accepted entry has a greater one than all before it
    pub ordered : (m n : ℕ) (d e : E) → m < n → get_elem? es m ≡ some d → get_elem? es n ≡ some e → stamp d ≤ stamp e
    pub rising : (m n : ℕ) (d e : E) → m < n → get_elem? es m ≡ some d → get_elem? es n ≡ some e → accepted shape e ≡ true → stamp d < stamp e
