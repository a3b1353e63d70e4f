use Rattle.std.specs.Prelude.{◌≡◌, ℕ, ◌+◌, ◌-◌, ◌^◌, ◌<◌, ◌≤◌, min, List, [], ◌++◌, length, take, drop, Option, None, Some}

-- one more, where a count stands still at the last value of a u64
abbrev pub counted : ℕ → ℕ
counted n = min (n + 1) (2 ^ 64 - 1)

-- a count of faults rose, or stands at that value
abbrev pub Rose : ℕ → ℕ → Type 0
Rose old new = counted old ≤ new

-- The next n of the bytes that were left stand at the front of the buffer, and are left no longer.
-- None comes into a buffer that has room only at the end of input.
pub record Takes (n : ℕ) (bytes buf : List ℕ) (left' : Option (List ℕ)) (buf' : List ℕ) : Type 0 where
  pub within : n ≤ length bytes
  pub filled : buf' ≡ take n bytes ++ drop n buf
  pub rest : left' ≡ Some (drop n bytes)
  pub ended : 0 < length buf → n ≡ 0 → bytes ≡ []

-- n bytes were read into the buffer: of a source that tells what is left, the next n
pub record Reads (n : ℕ) (left : Option (List ℕ)) (buf : List ℕ) (left' : Option (List ℕ)) (buf' : List ℕ) : Type 0 where
  pub fits : n ≤ length buf
  pub told : (bytes : List ℕ) → left ≡ Some bytes → Takes n bytes buf left' buf'

-- the first n bytes of a piece were written, and nothing else
pub record Writes (n : ℕ) (written : Option (List ℕ)) (piece : List ℕ) (written' : Option (List ℕ)) : Type 0 where
  pub within : n ≤ length piece
  pub told : (before : List ℕ) → written ≡ Some before → written' ≡ Some (before ++ take n piece)

-- what is left or written, where a stream does not tell
abbrev pub untold : Option (List ℕ)
untold = None
