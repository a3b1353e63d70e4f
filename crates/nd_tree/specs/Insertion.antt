-- What comes of a new point.
use Rattle.std.specs.Prelude.{◌≡◌, ℕ, ◌<◌, ◌+◌, List, [], length, get_or, All}
use Rattle.std.specs.List.{concat}
use Rattle.std.specs.List.Sorted.{IsPermutation}
use Rattle.pls_vectors.specs.Solution.{no_items}
use Rattle.pls_archive.specs.declared.point.Point.{Point}
use Rattle.pls_archive.specs.Lists.{Every}
use Rattle.nd_tree.specs.Split.{places}

-- the point at a place
abbrev pub point_at : List Point → ℕ → Point
point_at points k = get_or points k (record { value = []; sol = no_items 0 })

-- all values have as many parts as the first
abbrev pub HaveEqualParts : List Point → Type 0
HaveEqualParts points = Every (λ p. length p.value ≡ length (point_at points 0).value) points

-- one group of places more than a value has parts, none empty, and each place in one of them
pub record AreGroups (points : List Point) (groups : List (List ℕ)) : Type 0 where
  pub count : length groups ≡ length (point_at points 0).value + 1
  pub some : All (λ group. 0 < length group) groups
  pub below : All (λ group. All (λ place. place < length points) group) groups
  pub once : IsPermutation (places (length points)) (concat groups)

-- what memory there is for an insertion: so many leaves, each for so many points, and lists for so many children
pub record Ready : Type 0 where
  pub leaves : ℕ
  pub room : ℕ
  pub links : ℕ
