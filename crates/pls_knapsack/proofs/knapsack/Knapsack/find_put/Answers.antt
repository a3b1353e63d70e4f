use Rattle.std.proofs.Common.{◌≡◌, ◌<◌, true, false, Some, None, refl, ap, sym, ◌∙◌, arith}
use Rattle.pls_vectors.specs.Solution.{chosen, with_item}
use Rattle.pls_knapsack.specs.Instance.{Instance, feasible}
use Rattle.pls_knapsack.specs.Neighbours.{point}
use Rattle.pls_knapsack.proofs.Tallies.{feasible-parts, point_if-feasible, point_if-infeasible}
use Rattle.pls_knapsack.proofs.Points.{puts_from-given, puts_from-none, puts_from-skip, exchanges_from}
use Rattle.pls_knapsack.proofs.knapsack.Knapsack.find_put.Goals as goal
use Rattle.pls_knapsack.proofs.knapsack.Knapsack.find_put.Goals.{else-not-bit-via-then-not-bit+else-fits, else-not-bit-via-else-not-bit}

pub bit-requires : goal.bit-requires
bit-requires c =
    let w = c.loop-walk.walk in
    let was = feasible-parts c.args.self.now w.start.sol c.loop-walk.invariant.made.start.feasible in
    let items = ap (λ (k : Instance). k.items) c.self.view_is in
    let below : w.put < w.start.sol.len = omega arith in
    below

pub returns-then-fits-clause-step : goal.returns-then-fits-clause-step
returns-then-fits-clause-step c =
    let w = c.loop-walk.walk in
    let k = c.args.self.now in
    let items = ap (λ (k : Instance). k.items) c.self.view_is in
    let below : w.put < k.items = omega arith in
    let free : chosen w.start.sol w.put ≡ false = sym c.bit.ensures ∙ c.if-not-bit.true in
    let q = with_item w.reduced.sol w.put true in
    let holds : feasible k q ≡ true = sym c.fits.ensures ∙ c.if-fits.true in
    sym c.loop-walk.invariant.same
    ∙ puts_from-given k w.start.sol w.reduced.sol w.put (exchanges_from k w.start.sol w.take) (Some (point k q)) below free (point_if-feasible k q holds)

pub loop-walk-preserved : goal.loop-walk-preserved
loop-walk-preserved c =
    let w = c.loop-walk.walk in
    let k = c.args.self.now in
    let walk = c.loop-walk.invariant in
    let items = ap (λ (k : Instance). k.items) c.self.view_is in
    let below : w.put < k.items = omega arith in
    let behind = exchanges_from k w.start.sol w.take in
    elim c.else-not-bit.branch [
      | else-not-bit-via-then-not-bit+else-fits b ↦
          let free : chosen w.start.sol w.put ≡ false = sym c.bit.ensures ∙ b.if-not-bit.true in
          let q = with_item w.reduced.sol w.put true in
          let fails : feasible k q ≡ false = sym b.fits.ensures ∙ b.if-fits.false in
          record {
            made = record { start = walk.made.start; reduced = walk.made.reduced; smaller = walk.made.smaller; item_in = walk.made.item_in };
            same = puts_from-none k w.start.sol w.reduced.sol w.put behind None below free (point_if-infeasible k q fails) refl ∙ walk.same;
            flips = walk.flips;
            take = walk.take;
          }
      | else-not-bit-via-else-not-bit b ↦
          let taken : chosen w.start.sol w.put ≡ true = sym c.bit.ensures ∙ b.if-not-bit.false in
          record {
            made = record { start = walk.made.start; reduced = walk.made.reduced; smaller = walk.made.smaller; item_in = walk.made.item_in };
            same = puts_from-skip k w.start.sol w.reduced.sol w.put behind below taken ∙ walk.same;
            flips = walk.flips;
            take = walk.take;
          }
    ]
