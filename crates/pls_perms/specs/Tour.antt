use Rattle.std.specs.Prelude.{ℕ, ◌-◌, ◌*◌, ◌+◌, ◌/◌, ◌%◌, ◌==◌, ◌≡◌, ◌≤◌, ℤ, pos, neg_ℤ, Bool, ◌&&◌, nat_lt, List, map, length, slice_index, All, if◌then◌else◌}
use Rattle.std.specs.List.{range_with_len, sum_by}
use Rattle.pls_vectors.specs.Solution.{Solution, entry, reversed}
use Rattle.pls_perms.specs.Permutation.{is_permutation, pairs}

-- an instance of the symmetric travelling salesman problem with several lists of edges, one after another
pub record TourInstance : Type 0 where
  pub objectives : ℕ
  pub cities : ℕ
  pub edges : List ℕ

-- how many pairs of n cities there are
abbrev pub edge_count : ℕ → ℕ
edge_count n = n * (n - 1) / 2

-- the limits of an instance: its sizes, how many edges there are, and the greatest edge
pub record IsWithinLimits (k : TourInstance) : Type 0 where
  pub some_objectives : 2 ≤ k.objectives
  pub few_objectives : k.objectives ≤ 4
  pub some_cities : 3 ≤ k.cities
  pub few_cities : k.cities ≤ 256
  pub lists : length k.edges ≡ k.objectives * edge_count k.cities
  pub small_edges : All (λ x. x ≤ 1000000) k.edges

-- the instance with these sizes and these edges
abbrev pub instance_from : ℕ → ℕ → List ℕ → TourInstance
instance_from objectives cities edges = record { objectives = objectives; cities = cities; edges = edges }

-- the edge at a place of a list
abbrev pub edge : TourInstance → ℕ → ℕ → ℕ
edge k list place = slice_index k.edges (list * edge_count k.cities + place)

-- the place of the edge between cities a < b of n: (0, 1), (0, 2), .., (0, n-1), (1, 2), ..
abbrev pub place_from : ℕ → ℕ → ℕ → ℕ
place_from n a b = a * (2 * n - a - 1) / 2 + (b - a - 1)

-- the place of the edge between two cities, whichever comes first
unfoldable pub place_of : ℕ → ℕ → ℕ → ℕ
place_of n a b = if nat_lt a b then place_from n a b else place_from n b a

-- the edge of a list between two cities
abbrev pub edge_between : TourInstance → ℕ → ℕ → ℕ → ℕ
edge_between k list a b = edge k list (place_of k.cities a b)

-- the length of a tour by a list: the sum of the edges from each city to the next, and from the last to the first
unfoldable pub tour_length : TourInstance → Solution → ℕ → ℕ
tour_length k s list =
    sum_by (λ i. edge_between k list (entry s i) (entry s ((i + 1) % k.cities))) (range_with_len 0 k.cities)

-- the objective vector of a tour, which is maximised: for each list minus the length
unfoldable pub value : TourInstance → Solution → List ℤ
value k s = map (λ list. neg_ℤ (pos (tour_length k s list))) (range_with_len 0 k.objectives)

-- the feasible solutions are the permutations of the cities with city 0 first
unfoldable pub feasible : TourInstance → Solution → Bool
feasible k s = is_permutation k.cities s && (entry s 0 == 0)

-- a tour with its value
abbrev pub point : TourInstance → Solution → List ℤ × Solution
point k q = (value k q, q)

-- the neighbours of a tour, each with its value: a stretch without city 0 reversed, for each pair of its ends in lexicographic order
unfoldable pub neighbours : TourInstance → Solution → List (List ℤ × Solution)
neighbours k s = map (λ p. point k (reversed s p.0 p.1)) (pairs 1 k.cities)
