use Rattle.std.specs.Prelude.{ℕ, ℤ, true, false, not, List, ◌++◌, map}
use Rattle.std.specs.List.{filter, flat_map}
use Rattle.pls_vectors.specs.Solution.{Solution, chosen, with_item}
use Rattle.pls_knapsack.specs.Instance.{Instance, items_of, value, feasible}

-- the choice with one item flipped
abbrev pub flipped : Solution → ℕ → Solution
flipped s i = with_item s i (not (chosen s i))

-- the choice with item i taken out and item j put in
abbrev pub exchanged : Solution → ℕ → ℕ → Solution
exchanged s i j = with_item (with_item s i false) j true

-- the choices with one item flipped, in ascending order of the item
abbrev pub flips : Instance → Solution → List Solution
flips k s = map (λ i. flipped s i) (items_of k)

-- the choices with item i exchanged for one that is not chosen, in ascending order
abbrev pub exchanges_of : Instance → Solution → ℕ → List Solution
exchanges_of k s i = map (λ j. exchanged s i j) (filter (λ j. not (chosen s j)) (items_of k))

-- the choices with a chosen item exchanged for one that is not chosen, both in ascending order
abbrev pub exchanges : Instance → Solution → List Solution
exchanges k s = flat_map (λ i. exchanges_of k s i) (filter (λ i. chosen s i) (items_of k))

-- a choice with its value
abbrev pub point : Instance → Solution → List ℤ × Solution
point k q = (value k q, q)

-- those of the choices that are feasible, each with its value
unfoldable pub points : Instance → List Solution → List (List ℤ × Solution)
points k choices = map (λ q. point k q) (filter (λ q. feasible k q) choices)

-- the neighbours of a choice, each with its value: the flips and then the exchanges that are feasible
unfoldable pub neighbours : Instance → Solution → List (List ℤ × Solution)
neighbours k s = points k (flips k s ++ exchanges k s)
