-- The words of small texts.
use Rattle.std.proofs.Common.{◌≡◌, ℕ, List, [], ◌∷◌, length, refl}
use Rattle.std.specs.Prelude.{codes}
use Rattle.pls_io.specs.Words.{PlacedWord, words}

abbrev at : ℕ → List ℕ → PlacedWord
at place text = record { place = place; text = text }

no_words : words [] ≡ []
no_words = refl

-- a comment directly behind a word ends it, and ends itself before the line feed
comment_behind_word : words (codes "pls1#c\nlot") ≡ at 0 (codes "pls1") ∷ at 7 (codes "lot") ∷ []
comment_behind_word = refl

only_a_comment : words (codes "#pls1") ≡ []
only_a_comment = refl

comment_in_comment : words (codes "a # b # c\nd") ≡ at 0 (codes "a") ∷ at 10 (codes "d") ∷ []
comment_in_comment = refl

comment_behind_tab : words (codes "7\t# done\n") ≡ at 0 (codes "7") ∷ []
comment_behind_tab = refl

-- a byte 0 is no space
zero_byte : words (0 ∷ []) ≡ at 0 (0 ∷ []) ∷ []
zero_byte = refl

spaces : words (codes "a\tb\rc\nd e") ≡ at 0 (codes "a") ∷ at 2 (codes "b") ∷ at 4 (codes "c") ∷ at 6 (codes "d") ∷ at 8 (codes "e") ∷ []
spaces = refl

-- an instance of two items
abbrev two_items : List ℕ
two_items = codes "pls1 knapsack 2 2 1\n10\n3 1\n1 3\n2 3\n"

two_items-length : length two_items ≡ 35
two_items-length = refl

two_items-words : words two_items ≡ at 0 (codes "pls1") ∷ at 5 (codes "knapsack") ∷ at 14 (codes "2") ∷ at 16 (codes "2") ∷ at 18 (codes "1") ∷ at 20 (codes "10") ∷ at 23 (codes "3") ∷ at 25 (codes "1") ∷ at 27 (codes "1") ∷ at 29 (codes "3") ∷ at 31 (codes "2") ∷ at 33 (codes "3") ∷ []
two_items-words = refl
