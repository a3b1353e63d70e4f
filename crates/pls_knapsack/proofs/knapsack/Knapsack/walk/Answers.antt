use Rattle.std.proofs.Common.{◌++◌, ap, sym, ◌∙◌, arith}
use Rattle.pls_vectors.specs.Solution.{Solution}
use Rattle.pls_knapsack.specs.Neighbours.{flips, exchanges, neighbours, points}
use Rattle.pls_knapsack.specs.Walk.{left}
use Rattle.pls_knapsack.proofs.Counts.{length-neighbours}
use Rattle.pls_knapsack.proofs.Points.{flips_from, puts_from-end, exchanges_from, points-append}
use Rattle.pls_knapsack.proofs.knapsack.Knapsack.walk.Goals as goal

pub returns-clause-left : goal.returns-clause-left
unfolding left neighbours
returns-clause-left c =
    let k = c.args.self.now in
    let t = c.tally-start.result.sol in
    let done = puts_from-end k.items t t c.size.result (omega arith) in
    ap (λ front. points k (flips_from k.items t 0) ++ points k (front ++ exchanges_from k t 0)) done
    ∙ (sym (points-append k (flips_from k.items t 0) (exchanges_from k t 0))
    ∙ ap (λ (q : Solution). points k (flips k q ++ exchanges k q)) c.tally-start.ensures.sol)

pub returns-clause-few : goal.returns-clause-few
returns-clause-few c = length-neighbours c.args.self.now c.args.sol.now c.size.ensures.limits.few_items
