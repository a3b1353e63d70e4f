use Rattle.std.proofs.Common.{refl, arith}
use Rattle.pls_perms.proofs.Pairs.{pairs_after-begin}
use Rattle.pls_perms.proofs.TotalCosts.{left-begin, length-neighbours}
use Rattle.pls_perms.proofs.assignment.Assignment.walk.Goals as goal

pub returns-clause-made : goal.returns-clause-made
returns-clause-made c =
    let some = c.total.ensures.some in
    let first = c.start.ensures.first in
    let second = c.start.ensures.second in
    record {
      feasible = c.requires;
      words = c.total.ensures.stored;
      sums = c.total.ensures.total;
      pair = record { from = omega arith; ordered = omega arith; below = omega arith };
    }

pub returns-clause-left : goal.returns-clause-left
returns-clause-left c =
    let some = c.total.ensures.some in
    left-begin c.args.self.now _ c.args.sol.now refl
    (pairs_after-begin 0 c.args.self.now.agents c.start.result c.start.ensures.first c.start.ensures.second (omega arith))

pub returns-clause-few : goal.returns-clause-few
returns-clause-few c = length-neighbours c.args.self.now c.args.sol.now c.total.ensures.few
