-- What is asked of a node.
use Rattle.std.specs.Prelude.{ℕ, ◌-◌, ◌==◌, nat_le, ℤ, Bool, if◌then◌else◌, List, Option, Some, None, IsTrue, IsFalse}
use Rattle.pls_vectors.specs.Dominance.{weakly_dominates}

-- what is found where v is asked for: a covered value that covers it, or none, where it is not covered
abbrev pub IsCover : (List ℤ → Bool) → List ℤ → Option (List ℤ) → Type 0
IsCover is_covered v (Some w) = IsTrue (weakly_dominates w v) × IsTrue (is_covered w)
IsCover is_covered v None = IsFalse (is_covered v)

-- the place to which one comes at step i, if the one at `first` is taken before the others
abbrev pub in_turn : ℕ → ℕ → ℕ
in_turn first i = if i == 0 then first else (if nat_le i first then i - 1 else i)
