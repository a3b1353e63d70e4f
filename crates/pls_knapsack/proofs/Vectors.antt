-- How many parts a value has.
use Rattle.std.proofs.Common.{◌≡◌, length}
use Rattle.std.proofs.lemmas.List.FromFn.{length-map-range_with_len}
use Rattle.pls_vectors.specs.Solution.{Solution}
use Rattle.pls_knapsack.specs.Instance.{Instance, value}

-- a value has a part for each objective
pub length-value : (k : Instance) (s : Solution) → length (value k s) ≡ k.objectives
unfolding value
length-value k s = length-map-range_with_len _ 0 k.objectives
