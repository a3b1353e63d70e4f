use Rattle.std.proofs.Common.{◌≡◌, ◌<◌, ◌+◌, ◌++◌, true, false, ap, sym, ◌∙◌, arith}
use Rattle.pls_vectors.specs.Solution.{Solution, chosen}
use Rattle.pls_knapsack.proofs.Tallies.{feasible-parts}
use Rattle.pls_knapsack.proofs.Points.{puts_from, exchanges_from, exchanges-take, exchanges-skip}
use Rattle.pls_knapsack.proofs.knapsack.Knapsack.take_next.Goals as goal

pub bit-requires : goal.bit-requires
bit-requires c =
    let w = c.args.walk.now in
    let was = feasible-parts c.args.self.now w.start.sol c.requires.made.start.feasible in
    let below : w.take < w.start.sol.len = omega arith in
    below

pub returns-then-bit-clause-made : goal.returns-then-bit-clause-made
returns-then-bit-clause-made c =
    let made = c.requires.made in
    record { start = made.start; reduced = c.take.ensures.tally; smaller = c.take.ensures.smaller; item_in = made.item_in }

pub returns-then-bit-clause-same : goal.returns-then-bit-clause-same
returns-then-bit-clause-same c =
    let w = c.args.walk.now in
    let k = c.args.self.now in
    let taken : chosen w.start.sol w.take ≡ true = sym c.bit.ensures ∙ c.if-bit.true in
    let behind = exchanges_from k w.start.sol (w.take + 1) in
    ap (λ (r : Solution). puts_from k.items w.start.sol r 0 ++ behind) c.take.ensures.sol
    ∙ sym (exchanges-take k w.start.sol w.reduced.sol w.put w.take c.requires.done c.requires.item_in taken)

pub returns-else-bit-clause-same : goal.returns-else-bit-clause-same
returns-else-bit-clause-same c =
    let w = c.args.walk.now in
    let free : chosen w.start.sol w.take ≡ false = sym c.bit.ensures ∙ c.if-bit.false in
    sym (exchanges-skip c.args.self.now w.start.sol w.reduced.sol w.put w.take c.requires.item_in free)
