use Rattle.std.proofs.Common.{◌++◌, ◌∷◌, Some, None, true, not, ap, sym, ◌∙◌}
use Rattle.pls_vectors.specs.Solution.{with_item}
use Rattle.pls_knapsack.specs.Neighbours.{flipped, point, points}
use Rattle.pls_knapsack.specs.Walk.{left, flips_left, exchanges_left}
use Rattle.pls_knapsack.proofs.Points.{left-exchange, left-nothing}
use Rattle.pls_knapsack.proofs.knapsack.Knapsack.find.Goals as goal

pub returns-in-Some-clause-step : goal.returns-in-Some-clause-step
unfolding left
returns-in-Some-clause-step c =
    let k = c.args.self.now in
    let w = c.find_flip.new.walk in
    let given = point k (flipped w.start.sol c.in-Some.item) in
    ap (λ front. front ++ points k (exchanges_left k c.args.walk.now)) c.in-Some.ensures.step
    ∙ ap (λ behind. (given ∷ points k (flips_left k w)) ++ points k behind) (sym c.in-Some.ensures.exchanges)

pub returns-in-Some-find_exchange-clause-step : goal.returns-in-Some-find_exchange-clause-step
unfolding left
returns-in-Some-find_exchange-clause-step c =
    let k = c.args.self.now in
    let w = c.find_exchange.new.walk in
    let item = c.in-Some-find_exchange.item in
    let flip = c.in-None.ensures in
    let exchange = c.in-Some-find_exchange.ensures in
    left-exchange k (flips_left k c.args.walk.now) (flips_left k c.find_flip.new.walk) (flips_left k w)
    (exchanges_left k c.args.walk.now) (exchanges_left k c.find_flip.new.walk) (exchanges_left k w)
    (Some (point k (with_item w.reduced.sol item true))) flip.step flip.end flip.exchanges exchange.step exchange.flips
    ∙ ap (λ on. point k (with_item w.reduced.sol item (not on)) ∷ left k w) (sym exchange.free)

pub returns-in-None-find_exchange-clause-step : goal.returns-in-None-find_exchange-clause-step
unfolding left
returns-in-None-find_exchange-clause-step c =
    let k = c.args.self.now in
    let w = c.find_exchange.new.walk in
    let flip = c.in-None.ensures in
    let exchange = c.in-None-find_exchange.ensures in
    left-exchange k (flips_left k c.args.walk.now) (flips_left k c.find_flip.new.walk) (flips_left k w)
    (exchanges_left k c.args.walk.now) (exchanges_left k c.find_flip.new.walk) (exchanges_left k w)
    None flip.step flip.end flip.exchanges exchange.step exchange.flips

pub returns-in-None-find_exchange-clause-end : goal.returns-in-None-find_exchange-clause-end
unfolding left
returns-in-None-find_exchange-clause-end c =
    let k = c.args.self.now in
    let w = c.find_exchange.new.walk in
    let exchange = c.in-None-find_exchange.ensures in
    left-nothing k (flips_left k w) (exchanges_left k w) (exchange.flips ∙ c.in-None.ensures.end) exchange.end
