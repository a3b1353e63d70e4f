use Rattle.std.proofs.Common.{lit<, ◌≡◌, true, false, sym, ◌∙◌, arith}
use Rattle.pls_vectors.specs.Solution.{chosen}
use Rattle.pls_knapsack.proofs.Tallies.{tally-item, values_fit, value-put, value-take, add_right_cancel}
use Rattle.pls_knapsack.proofs.knapsack.Knapsack.values_flipped.Goals as goal

pub bit-requires : goal.bit-requires
bit-requires c = tally-item c.args.self.now c.args.tally.now c.args.item c.requires.tally c.requires.item_in

pub subtract-requires : goal.subtract-requires
subtract-requires c = (
  lit< tt,
  λ row at.
      let taken : chosen c.args.tally.now.sol c.args.item ≡ true = sym c.bit.ensures ∙ c.if-bit.true in
      let less =
      value-take c.args.self.now c.args.tally.now c.amounts.ensures.limits c.requires.tally c.args.item c.requires.item_in c.amounts.result.now c.amounts.ensures.item taken row at in
      omega arith,
)

pub add-requires : goal.add-requires
add-requires c = (lit< tt, values_fit c.args.self.now c.args.tally.now c.amounts.ensures.limits c.requires.tally c.args.item c.requires.item_in _ c.amounts.ensures.item)

pub returns-then-bit : goal.returns-then-bit
returns-then-bit c =
    let taken : chosen c.args.tally.now.sol c.args.item ≡ true = sym c.bit.ensures ∙ c.if-bit.true in
    rw taken
    (λ row at.
    add_right_cancel _ _ _
    (c.subtract.ensures row at
    ∙ sym (value-take c.args.self.now c.args.tally.now c.amounts.ensures.limits c.requires.tally c.args.item c.requires.item_in c.amounts.result.now c.amounts.ensures.item taken row at)))

pub returns-else-bit : goal.returns-else-bit
returns-else-bit c =
    let free : chosen c.args.tally.now.sol c.args.item ≡ false = sym c.bit.ensures ∙ c.if-bit.false in
    rw free
    (λ row at.
    c.add.ensures row at
    ∙ sym (value-put c.args.self.now c.args.tally.now c.amounts.ensures.limits c.requires.tally c.args.item c.requires.item_in c.amounts.result.now c.amounts.ensures.item free row at))
