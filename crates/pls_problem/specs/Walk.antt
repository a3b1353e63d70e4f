use Rattle.std.specs.Prelude.{ℤ, List, []}
use Rattle.pls_vectors.specs.Solution.{Solution}
use Rattle.pls_knapsack.specs.Walk as knapsack
use Rattle.pls_perms.specs.AssignmentWalk as assignment
use Rattle.pls_perms.specs.TourWalk as tour
use Rattle.pls_problem.specs.declared.instance.Instance.{Instance}
use Rattle.pls_problem.specs.declared.instance.Instance.TheVariants as instance
use Rattle.pls_problem.specs.declared.instance.Walk.{Walk}
use Rattle.pls_problem.specs.declared.instance.Walk.TheVariants as walk

-- a walk that was made by the instance
unfoldable pub IsWalkOf : Instance → Walk → Type 0
IsWalkOf (instance.Knapsack k) (walk.Knapsack w) = knapsack.IsWalkOf k w
IsWalkOf (instance.Assignment k) (walk.Assignment w) = assignment.IsWalkOf k w
IsWalkOf (instance.Tour k) (walk.Tour w) = tour.IsWalkOf k w
IsWalkOf i w = ⊥

-- the neighbour that a walk gave last
unfoldable pub current : Walk → Solution
current (walk.Knapsack w) = knapsack.current w
current (walk.Assignment w) = assignment.current w
current (walk.Tour w) = tour.current w

-- the neighbours that a walk has still to give
unfoldable pub left : Instance → Walk → List (List ℤ × Solution)
left (instance.Knapsack k) (walk.Knapsack w) = knapsack.left k w
left (instance.Assignment k) (walk.Assignment w) = assignment.left k w
left (instance.Tour k) (walk.Tour w) = tour.left k w
left i w = []
