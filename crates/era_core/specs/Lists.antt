-- Lists of rows, how often a row stands in one, and the tree that links make.
use Rattle.std.specs.Prelude.{ℕ, zero, suc, ◌+◌, ◌<◌, Bool, not, nat_lt, ◌==◌, if◌then◌else◌, List, [], ◌∷◌, filter, flat_map}
use Rattle.std.specs.List.{list_all}

-- how often the row stands in the list
abbrev pub times : ℕ → List ℕ → ℕ
times x [] = 0
times x (y ∷ ys) = (if x == y then 1 else 0) + times x ys

-- the row stands in the list
abbrev pub In : ℕ → List ℕ → Type 0
In x xs = 0 < times x xs

abbrev pub is_in : ℕ → List ℕ → Bool
is_in x xs = nat_lt 0 (times x xs)

-- no row stands in the list twice
abbrev pub all_different : List ℕ → Bool
all_different xs = list_all (λ x. times x xs == 1) xs

-- each link of a row of the list is a row of the list too
abbrev pub AreClosed : (ℕ → List ℕ) → List ℕ → Type 0
AreClosed links xs = (x y : ℕ) → In x xs → In y (links x) → In y xs

-- the second list without the rows of the first
abbrev pub without : List ℕ → List ℕ → List ℕ
without gone xs = filter (λ x. not (is_in x gone)) xs

-- a number of each element, added up
abbrev pub total : {A : Type 0} → (A → ℕ) → List A → ℕ
total f [] = 0
total f (x ∷ xs) = f x + total f xs

-- the tree at a row, each row before its links and links in order, cut below so many levels.
-- At the cut the row itself still stands there, so that a way that comes back to a row shows it again
abbrev pub tree : (ℕ → List ℕ) → ℕ → ℕ → List ℕ
tree links zero r = r ∷ []
tree links (suc depth) r = r ∷ flat_map (tree links depth) (links r)
