use Rattle.std.proofs.Common.{nat_le, slice_index, refl, ◌∙◌, arith}
use Rattle.pls_knapsack.specs.Instance.{weight, load}
use Rattle.pls_vectors.proofs.Ranges.{list_all-range_same}
use Rattle.pls_knapsack.proofs.Tallies.{small_capacity, small_weight, small_sum, fits-eight}
use Rattle.pls_knapsack.proofs.knapsack.Knapsack.is_within_capacities.Goals as goal

pub fit-requires-clause-weights : goal.fit-requires-clause-weights
fit-requires-clause-weights c = λ row at.
    let k = c.args.self.now in
    let limits = c.capacities.ensures.limits in
    omega (arith, c.total.ensures.weights row at, small_sum k limits k.items c.args.sol.now (weight k row) (omega arith) (small_weight k limits row))

pub fit-requires-clause-rooms : goal.fit-requires-clause-rooms
fit-requires-clause-rooms c = λ row at.
    omega (arith, c.capacities.ensures.value row, small_capacity c.args.self.now c.capacities.ensures.limits row)

pub returns : goal.returns
returns c =
    let k = c.args.self.now in
    let s = c.args.sol.now in
    c.fit.ensures
    ∙ (list_all-range_same (λ row. nat_le (slice_index c.total.result.weights row) (slice_index c.capacities.result.now row)) (λ row. nat_le (load k s row) (slice_index k.capacities row)) 8
    (λ row at. rw (c.total.ensures.weights row at, c.capacities.ensures.value row) refl)
    ∙ fits-eight k c.capacities.ensures.limits s)
