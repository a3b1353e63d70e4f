use Rattle.std.specs.Prelude.{ℕ, ◌*◌, ◌+◌, ◌≡◌, ◌≤◌, ℤ, pos, neg_ℤ, Bool, List, map, length, slice_index, All}
use Rattle.std.specs.List.{range_with_len, sum_by}
use Rattle.pls_vectors.specs.Solution.{Solution, entry, swapped}
use Rattle.pls_perms.specs.Permutation.{is_permutation, pairs}

-- an instance of the linear assignment problem with several cost matrices: all rows of all matrices one after another
pub record AssignmentInstance : Type 0 where
  pub objectives : ℕ
  pub agents : ℕ
  pub costs : List ℕ

-- the limits of an instance: its sizes, how many costs there are, and the greatest cost
pub record IsWithinLimits (k : AssignmentInstance) : Type 0 where
  pub some_objectives : 2 ≤ k.objectives
  pub few_objectives : k.objectives ≤ 4
  pub some_agents : 1 ≤ k.agents
  pub few_agents : k.agents ≤ 256
  pub matrices : length k.costs ≡ k.objectives * k.agents * k.agents
  pub small_costs : All (λ x. x ≤ 1000000) k.costs

-- the instance with these sizes and these costs
abbrev pub instance_from : ℕ → ℕ → List ℕ → AssignmentInstance
instance_from objectives agents costs = record { objectives = objectives; agents = agents; costs = costs }

-- the cost in a row and a column of a matrix
abbrev pub cost : AssignmentInstance → ℕ → ℕ → ℕ → ℕ
cost k matrix row column = slice_index k.costs ((matrix * k.agents + row) * k.agents + column)

-- the total cost of a permutation by a matrix: row i is assigned to column entry i
unfoldable pub total_cost : AssignmentInstance → Solution → ℕ → ℕ
total_cost k s matrix = sum_by (λ i. cost k matrix i (entry s i)) (range_with_len 0 k.agents)

-- the objective vector of a permutation, which is maximised: for each matrix minus the total cost
unfoldable pub value : AssignmentInstance → Solution → List ℤ
value k s = map (λ matrix. neg_ℤ (pos (total_cost k s matrix))) (range_with_len 0 k.objectives)

-- the feasible solutions are the permutations of the agents
unfoldable pub feasible : AssignmentInstance → Solution → Bool
feasible k s = is_permutation k.agents s

-- a permutation with its value
abbrev pub point : AssignmentInstance → Solution → List ℤ × Solution
point k q = (value k q, q)

-- the neighbours of a permutation, each with its value: two entries exchanged, for each pair of places in lexicographic order
unfoldable pub neighbours : AssignmentInstance → Solution → List (List ℤ × Solution)
neighbours k s = map (λ p. point k (swapped s p.0 p.1)) (pairs 0 k.agents)
