use Rattle.std.specs.Prelude.{ℕ, ◌&&◌, nat_le, List, [], ◌∷◌, length, Option, Some, None, Result, Ok, Err, if◌then◌else◌, codes}
use Rattle.std.specs.Str.{all_ascii_digits, bytes_eq}
use Rattle.std.specs.Str.Parse.{digits_value}
use Rattle.pls_io.specs.Words.{PlacedWord, words}
use Rattle.pls_vectors.specs.Limits.{Limits}
use Rattle.pls_problem.specs.Kinds.{kind_named, size_limits, number_limits, instance_of}
use Rattle.pls_problem.specs.declared.instance.Instance.{Instance}
use Rattle.pls_problem.specs.declared.kind.Kind.{Kind}
use Rattle.pls_problem.specs.declared.reader.BadInstance.{BadInstance}
use Rattle.pls_problem.specs.declared.reader.BadInstance.TheVariants.{Head, Short, Word, Range, Extra, Shape}

-- what follows a successful reading; a fault stays
abbrev pub reading_then : {A B : Type 0} → (A → Result B BadInstance) → Result A BadInstance → Result B BadInstance
reading_then next (Ok x) = next x
reading_then next (Err fault) = Err fault

-- the number that a word writes in decimal, however long; none where a byte is no digit
abbrev pub number_of : List ℕ → Option ℕ
number_of text = if all_ascii_digits text then Some (digits_value 10 text) else None

-- a number within limits, or the fault at its place
abbrev pub within : Limits → ℕ → Option ℕ → Result ℕ BadInstance
within limits place None = Err (Word place)
within limits place (Some n) =
    if nat_le limits.least n && nat_le n limits.most then Ok n else Err (Range place)

-- the next word as a number within limits, with the words after it; `end` is the length of the text
abbrev pub number : ℕ → Limits → List PlacedWord → Result (ℕ × List PlacedWord) BadInstance
number end limits [] = Err (Short end)
number end limits (word ∷ words) =
    reading_then (λ (n : ℕ). Ok (n, words)) (within limits word.place (number_of word.text))

-- the next words as numbers within these limits, with the words after them
abbrev pub numbers : ℕ → List Limits → List PlacedWord → Result (List ℕ × List PlacedWord) BadInstance
numbers end [] words = Ok ([], words)
numbers end (limits ∷ wanted) words =
    reading_then
    (λ (first : ℕ × List PlacedWord).
    reading_then
    (λ (others : List ℕ × List PlacedWord). Ok (first.0 ∷ others.0, others.1))
    (numbers end wanted first.1))
    (number end limits words)

-- the instance is read, and no word may follow
abbrev pub ended_with : Instance → List PlacedWord → Result Instance BadInstance
ended_with i [] = Ok i
ended_with i (word ∷ words) = Err (Extra word.place)

-- the words after the sizes: the numbers that these call for
abbrev pub sized : ℕ → Kind → List ℕ → List PlacedWord → Result Instance BadInstance
sized end kind sizes words =
    reading_then
    (λ (rest : List ℕ × List PlacedWord). ended_with (instance_of kind sizes rest.0) rest.1)
    (numbers end (number_limits kind sizes) words)

-- the words after the kind: its sizes, and the numbers after them
abbrev pub of_kind : ℕ → Kind → List PlacedWord → Result Instance BadInstance
of_kind end kind words =
    reading_then (λ (sizes : List ℕ × List PlacedWord). sized end kind sizes.0 sizes.1) (numbers end (size_limits kind) words)

abbrev pub if_kind : ℕ → ℕ → Option Kind → List PlacedWord → Result Instance BadInstance
if_kind end place None words = Err (Shape place)
if_kind end place (Some kind) words = of_kind end kind words

-- the words after the head, of which the first names the kind
abbrev pub after_head : ℕ → List PlacedWord → Result Instance BadInstance
after_head end [] = Err (Short end)
after_head end (word ∷ words) = if_kind end word.place (kind_named word.text) words

abbrev pub headed_by : ℕ → List PlacedWord → Result Instance BadInstance
headed_by end [] = Err (Short end)
headed_by end (word ∷ words) =
    if bytes_eq word.text (codes "pls1") then after_head end words else Err (Head word.place)

-- the instance that a text stands for, or its first fault in the order of words
abbrev pub instance : List ℕ → Result Instance BadInstance
instance text = headed_by (length text) (words text)
