use Rattle.std.specs.Prelude.{◌≡◌, ℕ, ◌*◌, ◌<◌, ℤ, true, List, length, map, slice_index}
use Rattle.pls_vectors.specs.Solution.{Solution, swapped}
use Rattle.pls_perms.specs.declared.assignment.Assignment.TheInside.{Inside}
use Rattle.pls_perms.specs.declared.walk.Walk.{Walk}
use Rattle.pls_perms.specs.Assignment.{AssignmentInstance, IsWithinLimits, total_cost, feasible, point}
use Rattle.pls_perms.specs.Table.{IsTableOf, by_lists}
use Rattle.pls_perms.specs.Walk.{IsPairIn, pairs_after}

-- the instance that is stored as a table of its places, row by row
abbrev pub instance_in : Inside → AssignmentInstance
instance_in k = record { objectives = k.objectives; agents = k.agents; costs = by_lists k.objectives k.table.items }

-- it is within the limits, and the table is 0 in each matrix that it does not have
pub record IsStored (k : Inside) : Type 0 where
  pub limits : IsWithinLimits (instance_in k)
  pub table : IsTableOf (k.agents * k.agents) (k.agents * k.agents) (instance_in k).costs k.table.items

-- a walk that was made by the instance: it starts at a feasible permutation, with its total costs
pub record IsWalkOf (k : AssignmentInstance) (w : Walk) : Type 0 where
  pub feasible : feasible k w.start ≡ true
  pub words : length w.start.words ≡ 32
  pub sums : (matrix : ℕ) → matrix < 4 → slice_index w.sums matrix ≡ total_cost k w.start matrix
  pub pair : IsPairIn 0 k.agents w.pair

-- the neighbour that a walk gave last
abbrev pub current : Walk → Solution
current w = swapped w.start w.pair.first w.pair.second

-- the neighbours that a walk has still to give
unfoldable pub left : AssignmentInstance → Walk → List (List ℤ × Solution)
left k w = map (λ p. point k (swapped w.start p.0 p.1)) (pairs_after k.agents w.pair)
