use Rattle.std.proofs.Common.{◌≡◌, ◌<◌, true, false, Some, None, refl, ap, sym, subst, ◌∙◌, arith}
use Rattle.pls_knapsack.specs.Instance.{Instance, IsWithinLimits, feasible}
use Rattle.pls_knapsack.specs.Neighbours.{flipped, point}
use Rattle.pls_knapsack.proofs.Tallies.{point_if-feasible, point_if-infeasible}
use Rattle.pls_knapsack.proofs.Points.{flips_from-given, flips_from-none, flips_from-end}
use Rattle.pls_knapsack.proofs.knapsack.Knapsack.find_flip.Goals as goal

pub can_flip-requires-clause-limits : goal.can_flip-requires-clause-limits
can_flip-requires-clause-limits c = subst (λ (k : Instance). IsWithinLimits k) c.self.view_is c.self.invariant.limits

pub returns-then-can_flip-clause-step : goal.returns-then-can_flip-clause-step
returns-then-can_flip-clause-step c =
    let k = c.args.self.now in
    let w = c.loop-walk.walk in
    let items = ap (λ (k : Instance). k.items) c.self.view_is in
    let below : w.flip < k.items = omega arith in
    let q = flipped w.start.sol w.flip in
    let holds : feasible k q ≡ true = sym c.can_flip.ensures ∙ c.if-can_flip.true in
    sym c.loop-walk.invariant.same ∙ flips_from-given k w.start.sol w.flip (Some (point k q)) below (point_if-feasible k q holds)

pub loop-walk-preserved : goal.loop-walk-preserved
loop-walk-preserved c =
    let k = c.args.self.now in
    let w = c.loop-walk.walk in
    let walk = c.loop-walk.invariant in
    let items = ap (λ (k : Instance). k.items) c.self.view_is in
    let below : w.flip < k.items = omega arith in
    let q = flipped w.start.sol w.flip in
    let fails : feasible k q ≡ false = sym c.can_flip.ensures ∙ c.if-can_flip.false in
    record {
      made = record { start = walk.made.start; reduced = walk.made.reduced; smaller = walk.made.smaller; item_in = walk.made.item_in };
      same = flips_from-none k w.start.sol w.flip None below (point_if-infeasible k q fails) refl ∙ walk.same;
      exchanges = walk.exchanges;
    }

pub returns-clause-end : goal.returns-clause-end
returns-clause-end c =
    let items = ap (λ (k : Instance). k.items) c.self.view_is in
    flips_from-end c.args.self.now.items c.loop-walk.walk.start.sol c.loop-walk.walk.flip (omega arith)
