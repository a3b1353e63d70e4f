use Rattle.std.specs.Prelude.{◌≡◌, ℕ, ◌<◌, ◌≤◌, List, [], length, drop, Option, Some}
use Rattle.pls_io.specs.Streams.{Writes}
use Rattle.pls_io.specs.declared.write.WriteRefusal.{WriteRefusal}
use Rattle.pls_io.specs.declared.write.WriteRefusal.TheVariants.{WriteFault}

-- some of what was left was taken, from its front, and the rest is left
abbrev pub TakesSome : Option (List ℕ) → Option (List ℕ) → Type 0
TakesSome left left' = (bytes : List ℕ) → left ≡ Some bytes → (n : ℕ) × (left' ≡ Some (drop n bytes))

-- all that was left was taken, and was at most the limit
pub record TakesAll (limit : ℕ) (left : Option (List ℕ)) (read : List ℕ) (left' : Option (List ℕ)) : Type 0 where
  pub within : length read ≤ limit
  pub whole : (bytes : List ℕ) → left ≡ Some bytes → read ≡ bytes
  pub none_left : (bytes : List ℕ) → left ≡ Some bytes → left' ≡ Some []

-- more than the limit was left
abbrev pub IsTooLong : ℕ → Option (List ℕ) → Type 0
IsTooLong limit left = (bytes : List ℕ) → left ≡ Some bytes → limit < length bytes

-- a proper prefix of the piece was written, as long as the refusal says
abbrev pub WritesPrefix : Option (List ℕ) → List ℕ → Option (List ℕ) → WriteRefusal → Type 0
WritesPrefix written piece written' (WriteFault n) = (n < length piece) × Writes n written piece written'
