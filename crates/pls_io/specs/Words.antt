use Rattle.std.specs.Prelude.{ℕ, ◌+◌, Bool, false, not, ◌&&◌, ◌||◌, ◌==◌, if◌then◌else◌, List, [], ◌∷◌, drop}
use Rattle.pls_io.specs.declared.words.Word.{Word}

-- a word of a text, and the number of bytes before it
pub record PlacedWord : Type 0 where
  pub place : ℕ
  pub text : List ℕ

-- a tab, a line feed, a carriage return or a space
abbrev pub is_space : ℕ → Bool
is_space b = b == 9 || b == 10 || b == 13 || b == 32

-- a byte that may stand in a word
abbrev pub is_word_byte : ℕ → Bool
is_word_byte b = not (is_space b || b == 35)

-- A comment begins with `#` and ends before the next line feed. `inside`: the byte before b was in one.
abbrev pub is_in_comment : Bool → ℕ → Bool
is_in_comment inside b = (b == 35 || inside) && not (b == 10)

-- the text with a space for each byte of a comment, so that places stay
abbrev pub uncommented : Bool → List ℕ → List ℕ
uncommented inside [] = []
uncommented inside (b ∷ bs) =
    let now = is_in_comment inside b in (if now then 32 else b) ∷ uncommented now bs

-- A byte at this place, before these words: it joins the word that begins directly after it, or is a word alone.
abbrev pub joined : ℕ → ℕ → List PlacedWord → List PlacedWord
joined place b [] = record { place = place; text = b ∷ [] } ∷ []
joined place b (w ∷ ws) =
    if w.place == place + 1
    then record { place = place; text = b ∷ w.text } ∷ ws
    else record { place = place; text = b ∷ [] } ∷ w ∷ ws

abbrev pub with_byte : ℕ → ℕ → List PlacedWord → List PlacedWord
with_byte place b ws = if is_space b then ws else joined place b ws

-- the words of a text without comments that begins at this place
abbrev pub words_from : ℕ → List ℕ → List PlacedWord
words_from place [] = []
words_from place (b ∷ bs) = with_byte place b (words_from (place + 1) bs)

-- the words of a text from a place on; `inside`: the byte before that place is in a comment
abbrev pub words_at : Bool → List ℕ → ℕ → List PlacedWord
words_at inside text place = words_from place (uncommented inside (drop place text))

-- the words of a text
abbrev pub words : List ℕ → List PlacedWord
words text = words_at false text 0

-- what a word of the program stands for
abbrev pub placed : Word → PlacedWord
placed w = record { place = w.place; text = w.text.now }
