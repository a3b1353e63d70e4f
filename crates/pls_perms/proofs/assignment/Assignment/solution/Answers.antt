use Rattle.std.proofs.Common.{arith}
use Rattle.pls_perms.proofs.TotalCosts.{feasible-len}
use Rattle.pls_perms.proofs.assignment.Assignment.solution.Goals as goal

pub swap-requires-clause-i_in : goal.swap-requires-clause-i_in
swap-requires-clause-i_in c =
    let len = feasible-len c.args.self.now c.args.walk.now.start c.requires.feasible in
    let ordered = c.requires.pair.ordered in
    let below = c.requires.pair.below in
    omega arith

pub swap-requires-clause-j_in : goal.swap-requires-clause-j_in
swap-requires-clause-j_in c =
    let len = feasible-len c.args.self.now c.args.walk.now.start c.requires.feasible in
    let below = c.requires.pair.below in
    omega arith
