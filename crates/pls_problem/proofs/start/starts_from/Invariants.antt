use Rattle.std.proofs.Common.{◌≡◌, ◌≤◌, ◌-◌, ◌++◌, true, vec_len, vec_capacity}
use Rattle.std.specs.List.{All}
use Rattle.pls_problem.specs.Instance.{size, feasible}
use Rattle.pls_problem.specs.Starts.{starts_from}
use Rattle.pls_problem.proofs.start.starts_from.Given as goal

abbrev pub invariant-loop : goal.invariant-loop
invariant-loop g l = record {
  rest :
      l.starts.items ++ starts_from l.instance (l.count - l.counter) (g.R.Rng.stream l.words)
      ≡ starts_from l.instance l.count (g.R.Rng.stream l.fn.words);
  feasible : All (λ s. feasible l.instance s ≡ true) l.starts.items;
  order : vec_len l.order ≡ size l.instance;
  count : vec_len l.starts ≡ l.counter;
  room : l.count ≤ vec_capacity l.starts;
}
