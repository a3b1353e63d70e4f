use Rattle.std.proofs.Common.{arith}
use Rattle.pls_perms.proofs.TotalCosts.{feasible-len}
use Rattle.pls_perms.proofs.assignment.Assignment.next.Goals as goal

pub swap-requires-clause-i_in : goal.swap-requires-clause-i_in
swap-requires-clause-i_in c =
    let made = c.next_value.ensures.made in
    let len = feasible-len c.args.self.now c.next_value.new.walk.start made.feasible in
    let ordered = made.pair.ordered in
    let below = made.pair.below in
    omega arith

pub swap-requires-clause-j_in : goal.swap-requires-clause-j_in
swap-requires-clause-j_in c =
    let made = c.next_value.ensures.made in
    let len = feasible-len c.args.self.now c.next_value.new.walk.start made.feasible in
    let below = made.pair.below in
    omega arith
