use Rattle.std.specs.Prelude.{◌≡◌, ℕ, ◌+◌, ◌<◌, ℤ, true, false, not, List, ◌++◌, Option, Some, None, map, drop, length, slice_index, if◌then◌else◌}
use Rattle.std.specs.List.{filter, flat_map}
use Rattle.pls_vectors.specs.Solution.{Solution, chosen, with_item}
use Rattle.pls_knapsack.specs.declared.knapsack.tally.Tally.{Tally}
use Rattle.pls_knapsack.specs.declared.knapsack.walk.Walk.{Walk}
use Rattle.pls_knapsack.specs.Instance.{Instance, items_of, profit, sum_chosen, load, feasible}
use Rattle.pls_knapsack.specs.Neighbours.{flipped, exchanges_of, point, points}

-- a feasible choice with the sum of its profits in each row, and with what its weights leave of each capacity
pub record IsTally (k : Instance) (t : Tally) : Type 0 where
  pub stored : length t.sol.words ≡ 32
  pub feasible : feasible k t.sol ≡ true
  pub values : (row : ℕ) → row < 4 → slice_index t.values row ≡ sum_chosen k t.sol (profit k row)
  pub rooms : (row : ℕ) → row < 8 → slice_index t.rooms row + load k t.sol row ≡ slice_index k.capacities row

-- the choice as a point, where it is feasible
abbrev pub point_if_feasible : Instance → Solution → Option (List ℤ × Solution)
point_if_feasible k q = if feasible k q then Some (point k q) else None

-- a walk that was made by the instance: the sums fit its choices, and what is not chosen is not in the reduced choice
pub record IsWalkOf (k : Instance) (w : Walk) : Type 0 where
  pub start : IsTally k w.start
  pub reduced : IsTally k w.reduced
  pub smaller : (item : ℕ) → chosen w.start.sol item ≡ false → chosen w.reduced.sol item ≡ false
  pub item_in : w.item < k.items

-- the neighbour that a walk gave last
abbrev pub current : Walk → Solution
current w = flipped (if w.is_flip then w.start.sol else w.reduced.sol) w.item

-- the flips that a walk has still to try, in order
abbrev pub flips_left : Instance → Walk → List Solution
flips_left k w = map (λ i. flipped w.start.sol i) (drop w.flip (items_of k))

-- the exchanges that a walk has still to try: those of the item that is taken out, and then those of the chosen items after it
abbrev pub exchanges_left : Instance → Walk → List Solution
exchanges_left k w =
    map (λ j. with_item w.reduced.sol j true) (filter (λ j. not (chosen w.start.sol j)) (drop w.put (items_of k)))
    ++ flat_map (λ i. exchanges_of k w.start.sol i) (filter (λ i. chosen w.start.sol i) (drop w.take (items_of k)))

-- the neighbours that a walk has still to give
unfoldable pub left : Instance → Walk → List (List ℤ × Solution)
left k w = points k (flips_left k w) ++ points k (exchanges_left k w)
