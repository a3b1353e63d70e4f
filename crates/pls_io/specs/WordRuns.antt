-- The words of a text in other terms: its longest runs of bytes that are neither spaces nor in a comment.
use Rattle.std.specs.Prelude.{◌≡◌, ℕ, ◌+◌, ◌<◌, true, not, List, [], ◌∷◌, ◌++◌, length}
use Rattle.std.specs.List.{list_all}
use Rattle.pls_io.specs.Words.{PlacedWord, is_space}

-- nothing, or a space first
abbrev pub BeginsBlank : List ℕ → Type 0
BeginsBlank [] = Unit {0}
BeginsBlank (b ∷ bs) = is_space b ≡ true

-- The bytes from this place on are a gap of spaces, the word, and the rest, which does not prolong it.
pub record IsFirstRun (place : ℕ) (bs gap rest : List ℕ) (w : PlacedWord) : Type 0 where
  pub parts : bs ≡ gap ++ (w.text ++ rest)
  pub blank : list_all is_space gap ≡ true
  pub here : w.place ≡ place + length gap
  pub some : 0 < length w.text
  pub solid : list_all (λ b. not (is_space b)) w.text ≡ true
  pub longest : BeginsBlank rest

-- the bytes from this place on are gaps and these words in turn
abbrev pub AreRuns : ℕ → List ℕ → List PlacedWord → Type 0
AreRuns place bs [] = list_all is_space bs ≡ true
AreRuns place bs (w ∷ ws) =
    (gap : List ℕ) × (rest : List ℕ) × IsFirstRun place bs gap rest w × AreRuns (w.place + length w.text) rest ws
