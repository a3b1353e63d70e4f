use Rattle.std.proofs.Common.{◌∙◌}
use Rattle.pls_knapsack.proofs.Tallies.{feasible-put}
use Rattle.pls_knapsack.proofs.knapsack.Knapsack.fits.Goals as goal

pub returns : goal.returns
returns c =
    c.fit.ensures
    ∙ feasible-put c.args.self.now c.args.tally.now c.amounts.ensures.limits c.requires.tally c.args.item c.requires.item_in _ c.amounts.ensures.item c.requires.free
