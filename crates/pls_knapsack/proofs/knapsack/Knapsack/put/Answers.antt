use Rattle.std.proofs.Common.{lit<}
use Rattle.pls_knapsack.proofs.Tallies.{tally-item, values_fit, weights_within, IsTally-put}
use Rattle.pls_knapsack.proofs.knapsack.Knapsack.put.Goals as goal

pub add-requires : goal.add-requires
add-requires c = (lit< tt, values_fit c.args.self.now c.args.tally.now c.amounts-amounts.ensures.limits c.requires.tally c.args.item c.requires.item_in _ c.amounts-amounts.ensures.item)

pub subtract-requires : goal.subtract-requires
subtract-requires c = (
  lit< tt,
  weights_within c.args.self.now c.args.tally.now c.amounts-amounts.ensures.limits c.requires.tally c.args.item c.requires.item_in _ c.amounts-amounts.ensures.item
      c.requires.free c.requires.fits,
)

pub set_bit-requires : goal.set_bit-requires
set_bit-requires c = tally-item c.args.self.now c.args.tally.now c.args.item c.requires.tally c.requires.item_in

pub returns-clause-tally : goal.returns-clause-tally
returns-clause-tally c =
    IsTally-put c.args.self.now c.args.tally.now c.amounts-amounts.ensures.limits c.requires.tally c.args.item c.requires.item_in _ c.amounts-amounts.ensures.item
    _ c.requires.free c.requires.fits c.set_bit.ensures.value c.add.ensures c.subtract.ensures
