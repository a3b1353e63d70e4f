-- Words on lists: what holds of each element, sums, and how many elements pass a test.
use Rattle.std.specs.Prelude.{◌≡◌, ◌⊎◌, ℕ, ◌+◌, ◌≤◌, Bool, if◌then◌else◌, List, [], ◌∷◌, ◌++◌}

module _ {A : Type 0} where
  -- P holds of each element
  abbrev pub Every : (A → Type 0) → List A → Type 0
  Every P [] = Unit {0}
  Every P (x ∷ xs) = P x × Every P xs

  -- x stands in the list
  abbrev pub In : A → List A → Type 0
  In x [] = ⊥
  In x (y ∷ ys) = (x ≡ y) ⊎ In x ys

  -- the sum of f over the elements
  abbrev pub total : (A → ℕ) → List A → ℕ
  total f [] = 0
  total f (x ∷ xs) = f x + total f xs

  -- the first list begins the second
  abbrev pub IsPrefix : List A → List A → Type 0
  IsPrefix xs ys = (more : List A) × (xs ++ more ≡ ys)

abbrev pub one_if : Bool → ℕ
one_if b = if b then 1 else 0

module _ {A : Type 0} where
  -- how many elements pass the test
  abbrev pub how_many : (A → Bool) → List A → ℕ
  how_many test xs = total (λ x. one_if (test x)) xs

  -- every element of either list stands in the other as often: as many pass, whatever the test. Said by tests, since they add up
  -- over several lists
  abbrev pub AsOften : List A → List A → Type 0
  AsOften xs ys = (test : A → Bool) → how_many test xs ≡ how_many test ys

  -- every element of the first list stands in the second at least as often
  abbrev pub IsAmong : List A → List A → Type 0
  IsAmong xs ys = (test : A → Bool) → how_many test xs ≤ how_many test ys
