use Rattle.std.specs.Prelude.{◌≡◌, ℕ, ◌%◌, ◌<◌, ◌≤◌, ℤ, true, List, length, map, slice_index}
use Rattle.pls_vectors.specs.Solution.{Solution, entry, reversed}
use Rattle.pls_perms.specs.declared.tour.walk.TourWalk.{TourWalk}
use Rattle.pls_perms.specs.Tour.{TourInstance, IsWithinLimits, feasible, tour_length, point}
use Rattle.pls_perms.specs.Walk.{IsPairIn, pairs_after}

-- a walk that was made by the instance: a feasible tour with its lengths and its cities, and the ends of a stretch of it without city 0
pub record IsWalkOf (k : TourInstance) (w : TourWalk) : Type 0 where
  pub limits : IsWithinLimits k
  pub words : length w.walk.start.words ≡ 32
  pub feasible : feasible k w.walk.start ≡ true
  pub sums : (list : ℕ) → list < 4 → slice_index w.walk.sums list ≡ tour_length k w.walk.start list
  pub cities : (i : ℕ) → i ≤ k.cities → slice_index w.cities i ≡ entry w.walk.start (i % k.cities)
  pub pair : IsPairIn 1 k.cities w.walk.pair

-- the neighbour that a walk gave last
abbrev pub current : TourWalk → Solution
current w = reversed w.walk.start w.walk.pair.first w.walk.pair.second

-- the neighbours that a walk has still to give
unfoldable pub left : TourInstance → TourWalk → List (List ℤ × Solution)
left k w = map (λ p. point k (reversed w.walk.start p.0 p.1)) (pairs_after k.cities w.walk.pair)
