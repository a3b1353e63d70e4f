use Rattle.std.proofs.Common.{◌≡◌, ◌-◌, ◌+◌, ◌<◌, ◌≤◌}
use Rattle.pls_vectors.specs.Solution.{reversed}
use Rattle.pls_vectors.proofs.Entries.{HasWords}
use Rattle.pls_vectors.proofs.sol.Sol.reverse.Given as goal

abbrev pub invariant-loop-low : goal.invariant-loop-low
invariant-loop-low l =
    record {
      left : reversed l.self l.low l.high ≡ reversed l.initial.self l.fn.i l.fn.j;
      has : HasWords l.self;
      few : l.self.len ≤ 256;
      ordered : l.low ≤ l.high + 1;
      low_in : l.low < l.self.len;
      within : l.high < l.self.len;
    }

abbrev pub decreases-loop-low : goal.decreases-loop-low
decreases-loop-low l = l.high - l.low
