use Rattle.std.proofs.Common.{lit<, arith}
use Rattle.pls_knapsack.proofs.Tallies.{feasible-parts, load_within}
use Rattle.pls_knapsack.proofs.knapsack.Knapsack.tally.Goals as goal

pub total-total-requires : goal.total-total-requires
total-total-requires c = let was = feasible-parts c.args.self.now c.args.sol.now c.requires in was.long

pub subtract-requires : goal.subtract-requires
subtract-requires c = (
  lit< tt,
  λ row at.
      omega (arith, c.capacities.ensures.value row, c.total-total.ensures.weights row at, load_within c.args.self.now c.capacities.ensures.limits c.args.sol.now c.requires row at),
)

pub returns-clause-tally : goal.returns-clause-tally
returns-clause-tally c = record {
  stored = c.total-total.ensures.stored;
  feasible = c.requires;
  values = c.total-total.ensures.profits;
  rooms = λ row at. omega (arith, c.subtract.ensures row at, c.capacities.ensures.value row, c.total-total.ensures.weights row at);
}
