use Rattle.std.specs.Prelude.{ℕ, ◌-◌, ◌+◌, ◌*◌, ◌/◌, ◌%◌, ◌^◌, ◌==◌, Bool, List, [], ◌∷◌, map, length, reverse, replicate, slice_index, slice_set, bit_and, bit_or, if◌then◌else◌}
use Rattle.std.specs.Int.{bit_at}
use Rattle.std.specs.List.{range_with_len}

-- a solution as it is stored: how many items or places it has, and 32 words of 64 bits
pub record Solution : Type 0 where
  pub len : ℕ
  pub words : List ℕ

-- item i is chosen: its bit in word i / 64 is set, the least bit being that of i mod 64 = 0
abbrev pub chosen : Solution → ℕ → Bool
chosen s i = bit_at (slice_index s.words (i / 64)) (i % 64) == 1

-- a word with its bit k set, or cleared
abbrev pub with_bit : ℕ → ℕ → Bool → ℕ
with_bit word k on = if on then bit_or word (2 ^ k) else bit_and word (2 ^ 64 - 1 - 2 ^ k)

-- the choice with item i put in, or left out
abbrev pub with_item : Solution → ℕ → Bool → Solution
with_item s i on =
    record s { words = slice_set s.words (i / 64) (with_bit (slice_index s.words (i / 64)) (i % 64) on) }

-- the choice of nothing among n items
abbrev pub no_items : ℕ → Solution
no_items n = record { len = n; words = replicate 32 0 }

-- byte k of a word, the least significant one first
unfoldable pub byte : ℕ → ℕ → ℕ
byte word k = word / 256 ^ k % 256

-- the word with another byte k
unfoldable pub with_byte : ℕ → ℕ → ℕ → ℕ
with_byte word k x = word - byte word k * 256 ^ k + x * 256 ^ k

-- entry i of a permutation: byte i mod 8 of word i / 8
unfoldable pub entry : Solution → ℕ → ℕ
entry s i = byte (slice_index s.words (i / 8)) (i % 8)

-- the entries of a permutation, in order
unfoldable pub entries : Solution → List ℕ
entries s = map (λ i. entry s i) (range_with_len 0 s.len)

-- the permutation with another entry i
unfoldable pub with_entry : Solution → ℕ → ℕ → Solution
with_entry s i x =
    record s { words = slice_set s.words (i / 8) (with_byte (slice_index s.words (i / 8)) (i % 8) x) }

-- the permutation with other entries from entry i on
unfoldable pub with_entries : Solution → ℕ → List ℕ → Solution
with_entries s i [] = s
with_entries s i (x ∷ xs) = with_entries (with_entry s i x) (i + 1) xs

-- the permutation with these entries
unfoldable pub stored : List ℕ → Solution
stored xs = with_entries (no_items (length xs)) 0 xs

-- the permutation of n entries in which entry i is i
unfoldable pub order : ℕ → Solution
order n = stored (range_with_len 0 n)

-- entries i and j exchanged
unfoldable pub swapped : Solution → ℕ → ℕ → Solution
swapped s i j = with_entry (with_entry s i (entry s j)) j (entry s i)

-- the entries at i to j, both included, in reverse order
unfoldable pub reversed : Solution → ℕ → ℕ → Solution
reversed s i j = with_entries s i (reverse (map (λ k. entry s k) (range_with_len i (j + 1 - i))))
