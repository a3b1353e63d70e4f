-- The sizes of an instance, and how many numbers they call for.
use Rattle.std.specs.Prelude.{◌≡◌, ◌≤◌, ℕ, ◌+◌, ◌*◌, List, [], ◌∷◌, length, All}
use Rattle.pls_perms.specs.Tour.{edge_count}
use Rattle.pls_problem.specs.Kinds.{least_size, least_rules}
use Rattle.pls_problem.specs.declared.kind.Kind.{Kind}
use Rattle.pls_problem.specs.declared.kind.Kind.TheVariants.{Knapsack, Assignment, Tour}
use Rattle.pls_problem.specs.declared.sizes.Sizes.{Sizes}

-- the sizes are within the limits of their kind
pub record AreWithinLimits (s : Sizes) : Type 0 where
  pub some_objectives : 2 ≤ s.objectives
  pub few_objectives : s.objectives ≤ 4
  pub some_size : least_size s.kind ≤ s.size
  pub small_size : s.size ≤ 256
  pub some_rules : least_rules s.kind ≤ s.rules
  pub few_rules : s.rules ≤ 8

-- the sizes as they stand in a text
abbrev pub listed : Kind → ℕ → ℕ → ℕ → List ℕ
listed Knapsack objectives size rules = objectives ∷ size ∷ rules ∷ []
listed Assignment objectives size rules = objectives ∷ size ∷ []
listed Tour objectives size rules = objectives ∷ size ∷ []

abbrev pub in_text : Sizes → List ℕ
in_text s = listed s.kind s.objectives s.size s.rules

-- how many capacities follow, and then how many profits and weights, costs or edges
abbrev pub capacities_for : Kind → ℕ → ℕ
capacities_for Knapsack rules = rules
capacities_for Assignment rules = 0
capacities_for Tour rules = 0

abbrev pub amounts_for : Kind → ℕ → ℕ → ℕ → ℕ
amounts_for Knapsack objectives size rules = (objectives + rules) * size
amounts_for Assignment objectives size rules = objectives * size * size
amounts_for Tour objectives size rules = objectives * edge_count size

abbrev pub capacity_count : Sizes → ℕ
capacity_count s = capacities_for s.kind s.rules

abbrev pub amount_count : Sizes → ℕ
amount_count s = amounts_for s.kind s.objectives s.size s.rules

-- as many numbers as the sizes call for, within their limits
pub record AreNumbersOf (s : Sizes) (capacities amounts : List ℕ) : Type 0 where
  pub capacity_list : length capacities ≡ capacity_count s
  pub amount_list : length amounts ≡ amount_count s
  pub small_capacities : All (λ x. x ≤ 1000000000) capacities
  pub small_amounts : All (λ x. x ≤ 1000000) amounts
