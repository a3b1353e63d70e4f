use Rattle.std.proofs.Common.{◌≡◌, ◌≤◌, vec_len, vec_capacity, All}
use Rattle.pls_problem.specs.Made.{half_sums}
use Rattle.pls_problem.proofs.maker.half_sums.Given as goal

abbrev pub invariant-loop-row : goal.invariant-loop-row
invariant-loop-row l = record {
  sums : l.sums.items ≡ half_sums l.row l.items l.weights;
  count : vec_len l.sums ≡ l.row;
  small : All (λ n. n ≤ 1000000000) l.sums.items;
  room : l.rules ≤ vec_capacity l.sums;
}
