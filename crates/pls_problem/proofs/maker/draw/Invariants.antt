use Rattle.std.proofs.Common.{◌≡◌, ◌≤◌, vec_len, vec_capacity, All}
use Rattle.pls_problem.specs.Made.{drawn}
use Rattle.pls_problem.proofs.maker.draw.Given as goal

abbrev pub invariant-loop : goal.invariant-loop
invariant-loop g l = record {
  drawn : (l.numbers.items, g.R.Rng.stream l.words) ≡ drawn l.counter (g.R.Rng.stream l.fn.words);
  count : vec_len l.numbers ≡ l.counter;
  small : All (λ n. n ≤ 100) l.numbers.items;
  room : l.count ≤ vec_capacity l.numbers;
}
