-- The division of a full leaf into groups of places.
use Rattle.std.specs.Prelude.{◌≡◌, ℕ, zero, suc, ◌+◌, ℤ, ◌-ℤ◌, nat_le, List, [], ◌∷◌, ◌++◌, length, map, remove, slice_index, slice_index_or, All}
use Rattle.std.specs.List.{range_with_len, sum_by}
use Rattle.arrayvec.specs.ArrayVec.{ArrayVec}
use Rattle.pls_vectors.specs.Box.{Box, box_of, grown, square}
use Rattle.nd_tree.specs.First.{first_best}
use Rattle.nd_tree.specs.Closest.{closest}

-- the vector at this place
abbrev pub value_at : List (List ℤ) → ℕ → List ℤ
value_at values k = slice_index_or values k []

-- all have as many parts as the first
abbrev pub AreUniform : List (List ℤ) → Type 0
AreUniform values = All (λ v. length v ≡ length (value_at values 0)) values

-- the sum over the parts of the squared difference
abbrev pub distance : List ℤ → List ℤ → ℕ
distance [] w = 0
distance (x ∷ v) [] = 0
distance (x ∷ v) (y ∷ w) = square (x -ℤ y) + distance v w

-- the places 0, 1, 2 and so on of n elements
abbrev pub places : ℕ → List ℕ
places n = range_with_len 0 n

-- f of the element at place k, and the others as they are
abbrev pub changed_at : {A : Type 0} → ℕ → (A → A) → List A → List A
changed_at k f [] = []
changed_at zero f (x ∷ xs) = f x ∷ xs
changed_at (suc k) f (x ∷ xs) = x ∷ changed_at k f xs

-- the places that begin the groups, and those that are left, in order
pub record Begun : Type 0 where
  pub chosen : List ℕ
  pub left : List ℕ

-- where in a list of places the one with the largest number stands, the first of equals
abbrev pub largest : (ℕ → ℕ) → List ℕ → ℕ
largest number left = first_best (λ a b. nat_le (number b) (number a)) left

-- of those left the one with the largest number begins the next group
unfoldable pub with_largest : (ℕ → ℕ) → Begun → Begun
with_largest number b =
    let at = largest number b.left in
    record { chosen = b.chosen ++ slice_index b.left at ∷ []; left = remove b.left at }

module _ (values : List (List ℤ)) where
  -- the sum of the distances of the vector at place k to those at the other places; to itself it is 0
  abbrev pub total_distance : List ℕ → ℕ → ℕ
  total_distance others k = sum_by (λ j. distance (value_at values k) (value_at values j)) others

  -- a first group, begun by the vector that is farthest from all, and so many more, each begun by the one that is farthest from those chosen before
  unfoldable pub begun : ℕ → Begun
  begun zero = let all = places (length values) in with_largest (total_distance all) (record { chosen = []; left = all })
  begun (suc more) = let before = begun more in with_largest (total_distance before.chosen) before

  -- those left join the groups, in order: each that with the closest box, which grows by it
  unfoldable pub joined : List (List ℕ) → List Box → List ℕ → List (List ℕ)
  joined groups boxes [] = groups
  joined groups boxes (k ∷ left) =
      let v = value_at values k in
      let j = closest boxes v in
      joined (changed_at j (λ group. group ++ k ∷ []) groups) (changed_at j (λ box. grown box v) boxes) left

  -- one group more than a vector has parts
  unfoldable pub split : List (List ℕ)
  split =
      let b = begun (length (value_at values 0)) in
      joined (map (λ k. k ∷ []) b.chosen) (map (λ k. box_of (value_at values k)) b.chosen) b.left

-- the lists that are stored
abbrev pub lists_in : List (ArrayVec ℕ) → List (List ℕ)
lists_in stored = map (λ list. list.items) stored
