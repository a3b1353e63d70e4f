use Rattle.std.specs.Prelude.{◌≡◌, ◌<◌, ℕ, zero, suc, ◌-◌, List, [], ◌∷◌, slice_index}
use Rattle.std.specs.List.{range_with_len}
use Rattle.std.specs.List.Sorted.{IsPermutation}
use Rattle.rand_core.specs.Stream.{Stream}
use Rattle.pls_vectors.specs.Solution.{Solution, stored}
use Rattle.pls_knapsack.specs.Instance.{greedy}
use Rattle.pls_problem.specs.declared.instance.Instance.{Instance}
use Rattle.pls_problem.specs.declared.instance.Instance.TheVariants.{Knapsack, Assignment, Tour}
use Rattle.pls_problem.specs.Instance.{size}
use Rattle.pls_problem.specs.Shuffle.{seeded, shuffled}

-- the start that an order stands for: of a knapsack what a greedy fill takes along it, else the permutation itself
unfoldable pub start_of : Instance → List ℕ → Solution
start_of (Knapsack k) order = greedy k order
start_of (Assignment k) order = stored order
start_of (Tour k) order = stored order

-- the least place that is shuffled: a tour begins at city 0
abbrev pub least_shuffled : Instance → ℕ
least_shuffled (Knapsack k) = 0
least_shuffled (Assignment k) = 0
least_shuffled (Tour k) = 1

-- an order of the items, agents or cities, which begins with city 0 for a tour
pub record IsOrder (i : Instance) (order : List ℕ) : Type 0 where
  pub all : IsPermutation (range_with_len 0 (size i)) order
  pub kept : (place : ℕ) → place < least_shuffled i → slice_index order place ≡ place

-- the order 0, 1, .., n-1, shuffled from its least place on; beside it the words that are left
abbrev pub shuffled_order : Instance → Stream → List ℕ × Stream
shuffled_order i words = shuffled (least_shuffled i) (size i - least_shuffled i) words (range_with_len 0 (size i))

-- So many starts from one stream of words: each begins again with the order 0, 1, .., n-1.
unfoldable pub starts_from : Instance → ℕ → Stream → List Solution
starts_from i zero words = []
starts_from i (suc count) words =
    let first = shuffled_order i words in start_of i first.0 ∷ starts_from i count first.1

-- the starts of a seed
abbrev pub starts : Instance → ℕ → ℕ → List Solution
starts i seed count = starts_from i count (seeded seed)
