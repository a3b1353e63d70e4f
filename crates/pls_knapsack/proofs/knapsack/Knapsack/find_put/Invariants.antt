use Rattle.std.proofs.Common.{◌-◌, ◌≡◌}
use Rattle.pls_knapsack.specs.Neighbours.{points}
use Rattle.pls_knapsack.specs.Walk.{IsWalkOf, flips_left, exchanges_left}
use Rattle.pls_knapsack.proofs.knapsack.Knapsack.find_put.Given as goal

abbrev pub invariant-loop-walk : goal.invariant-loop-walk
invariant-loop-walk l = record {
  made : IsWalkOf l.self l.walk;
  same : points l.self (exchanges_left l.self l.walk) ≡ points l.self (exchanges_left l.self l.fn.walk);
  flips : flips_left l.self l.walk ≡ flips_left l.self l.fn.walk;
  take : l.walk.take ≡ l.fn.walk.take;
}

abbrev pub decreases-loop-walk : goal.decreases-loop-walk
decreases-loop-walk l = l.self-inside.items - l.walk.put
