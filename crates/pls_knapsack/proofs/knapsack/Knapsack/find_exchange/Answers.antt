use Rattle.std.proofs.Common.{◌≤◌, ap, arith}
use Rattle.pls_knapsack.specs.Instance.{Instance}
use Rattle.pls_knapsack.proofs.Points.{exchanges-end, if_none-map}
use Rattle.pls_knapsack.proofs.knapsack.Knapsack.find_exchange.Goals as goal

pub returns-clause-end : goal.returns-clause-end
returns-clause-end c =
    let w = c.find_put.new.walk in
    let k = c.args.self.now in
    let items = ap (λ (k : Instance). k.items) c.self.view_is in
    let past : k.items ≤ w.take = let t = c.find_put.ensures.take in omega arith in
    if_none-map c.find_put.result (λ done. exchanges-end k w.start.sol w.reduced.sol w.put w.take done past) c.find_put.ensures.end
