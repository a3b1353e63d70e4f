use Rattle.std.proofs.Common.{◌≡◌, true, not, ap, sym, ◌∙◌, arith}
use Rattle.pls_vectors.specs.Solution.{chosen, with_item}
use Rattle.pls_knapsack.specs.Instance.{feasible}
use Rattle.pls_knapsack.proofs.Tallies.{feasible-parts, feasible-take}
use Rattle.pls_knapsack.proofs.knapsack.Knapsack.can_flip.Goals as goal

pub bit-requires : goal.bit-requires
bit-requires c =
    let was = feasible-parts c.args.self.now c.args.tally.now.sol c.requires.tally.feasible in
    omega arith

pub returns-then-bit : goal.returns-then-bit
returns-then-bit c =
    let k = c.args.self.now in
    let t = c.args.tally.now in
    let item = c.args.item in
    let taken : chosen t.sol item ≡ true = sym c.bit.ensures ∙ c.if-bit.true in
    c.if-bit.true
    ∙ sym (ap (λ on. feasible k (with_item t.sol item (not on))) taken
    ∙ feasible-take k t c.requires.limits c.requires.tally item c.requires.item_in taken)
