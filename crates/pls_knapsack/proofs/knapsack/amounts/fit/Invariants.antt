use Rattle.std.proofs.Common.{◌≡◌, ◌^◌, nat_le, nat_lt, slice_index}
use Rattle.std.specs.List.{range_with_len, list_all}
use Rattle.pls_knapsack.proofs.knapsack.amounts.fit.Given as goal

abbrev pub invariant-loop-row : goal.invariant-loop-row
invariant-loop-row l =
    nat_lt l.differences (2 ^ 31)
    ≡ list_all (λ row. nat_le (slice_index l.weights row) (slice_index l.rooms row)) (range_with_len 0 l.row)
