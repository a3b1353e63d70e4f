-- A part as a word, which is never negative.
use Rattle.std.specs.Prelude.{ℕ, ◌^◌, ℤ, pos, ◌+ℤ◌, ◌-ℤ◌, unsigned_abs}

-- the word of a part, and the part of a word
abbrev pub to_word : ℤ → ℕ
to_word part = unsigned_abs (part +ℤ pos (2 ^ 40))

abbrev pub from_word : ℕ → ℤ
from_word word = pos word -ℤ pos (2 ^ 40)
