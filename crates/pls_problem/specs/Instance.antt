use Rattle.std.specs.Prelude.{ℕ, ℤ, neg_ℤ, Bool, List, Option, Some, None, option_to_list, if◌then◌else◌}
use Rattle.std.specs.List.{flat_map, range_with_len}
use Rattle.pls_vectors.specs.Solution.{Solution, chosen, entry}
use Rattle.pls_knapsack.specs.Instance as knapsack
use Rattle.pls_knapsack.specs.Neighbours as knapsack_moves
use Rattle.pls_perms.specs.Assignment as assignment
use Rattle.pls_perms.specs.Tour as tour
use Rattle.pls_problem.specs.declared.instance.Instance.{Instance}
use Rattle.pls_problem.specs.declared.instance.Instance.TheVariants.{Knapsack, Assignment, Tour}

-- the limits of an instance
abbrev pub IsWithinLimits : Instance → Type 0
IsWithinLimits (Knapsack k) = knapsack.IsWithinLimits k
IsWithinLimits (Assignment k) = assignment.IsWithinLimits k
IsWithinLimits (Tour k) = tour.IsWithinLimits k

-- how many objectives an instance has, and of how many items, agents or cities its solutions are
abbrev pub objectives : Instance → ℕ
objectives (Knapsack k) = k.objectives
objectives (Assignment k) = k.objectives
objectives (Tour k) = k.objectives

abbrev pub size : Instance → ℕ
size (Knapsack k) = k.items
size (Assignment k) = k.agents
size (Tour k) = k.cities

-- which solutions are feasible
unfoldable pub feasible : Instance → Solution → Bool
feasible (Knapsack k) s = knapsack.feasible k s
feasible (Assignment k) s = assignment.feasible k s
feasible (Tour k) s = tour.feasible k s

-- the objective vector of a solution, in which larger is better
unfoldable pub value : Instance → Solution → List ℤ
value (Knapsack k) s = knapsack.value k s
value (Assignment k) s = assignment.value k s
value (Tour k) s = tour.value k s

-- the neighbours of a solution, in order, each with its value
unfoldable pub neighbours : Instance → Solution → List (List ℤ × Solution)
neighbours (Knapsack k) s = knapsack_moves.neighbours k s
neighbours (Assignment k) s = assignment.neighbours k s
neighbours (Tour k) s = tour.neighbours k s

-- ---- in print

-- a part of a value as the instance has it: costs and lengths are negated in a value
abbrev pub original : Instance → ℤ → ℤ
original (Knapsack k) part = part
original (Assignment k) part = neg_ℤ part
original (Tour k) part = neg_ℤ part

-- what a solution shows at a place: of a choice the item, where it is chosen; of a permutation the entry
abbrev pub shown_at : Instance → Solution → ℕ → Option ℕ
shown_at (Knapsack k) s place = if chosen s place then Some place else None
shown_at (Assignment k) s place = Some (entry s place)
shown_at (Tour k) s place = Some (entry s place)

-- the numbers that a solution is printed as: the chosen items in ascending order, or the entries in order
abbrev pub shown : Instance → Solution → List ℕ
shown i s = flat_map (λ place. option_to_list (shown_at i s place)) (range_with_len 0 s.len)
