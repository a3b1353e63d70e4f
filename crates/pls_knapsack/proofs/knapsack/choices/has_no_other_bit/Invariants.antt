use Rattle.std.proofs.Common.{◌≡◌, ◌-◌, ◌*◌, ◌^◌, nat_lt, slice_index}
use Rattle.std.specs.List.{range_with_len, list_all}
use Rattle.pls_knapsack.proofs.knapsack.choices.has_no_other_bit.Given as goal

abbrev pub invariant-loop-place : goal.invariant-loop-place
invariant-loop-place l =
    l.all ≡ list_all (λ j. nat_lt (slice_index l.sol.words j) (2 ^ (l.items - 64 * j))) (range_with_len 0 l.place)
