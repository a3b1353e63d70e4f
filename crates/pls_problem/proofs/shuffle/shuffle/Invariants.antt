use Rattle.std.proofs.Common.{◌≡◌, ◌≤◌, ◌+◌, ◌-◌, length}
use Rattle.pls_problem.specs.Shuffle.{shuffled}
use Rattle.pls_problem.proofs.shuffle.shuffle.Given as goal

abbrev pub invariant-loop-left : goal.invariant-loop-left
invariant-loop-left g l = record {
  rest :
      shuffled l.least l.left (g.R.Rng.stream l.words) l.entries
      ≡ shuffled l.least (length l.fn.entries - l.least) (g.R.Rng.stream l.fn.words) l.fn.entries;
  within : l.least + l.left ≤ length l.entries;
  long : length l.entries ≡ length l.fn.entries;
}

abbrev pub decreases-loop-left : goal.decreases-loop-left
decreases-loop-left g l = l.left
