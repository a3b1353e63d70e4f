use Rattle.std.specs.Prelude.{◌≡◌, ◌≤◌, ℕ, List, [], ◌∷◌, length, take, drop}
use Rattle.std.specs.Str.{IsUtf8}

-- the pieces of a text that end at these places, the first of them from the given place on
abbrev pub pieces : ℕ → List ℕ → List ℕ → List (List ℕ)
pieces from text [] = []
pieces from text (end ∷ ends) = drop from (take end text) ∷ pieces end text ends

-- the places rise from the given one up to the text's end, and what lies between is text each time
abbrev pub AreEnds : ℕ → List ℕ → List ℕ → Type 0
AreEnds from text [] = from ≡ length text
AreEnds from text (end ∷ ends) = (from ≤ end) × IsUtf8 (drop from (take end text)) × AreEnds end text ends
