use Rattle.std.proofs.Common.{◌≡◌, ◌≢◌, ◌+◌, true, false, slice_index, drop, refl, ap, sym, ◌∙◌, arith}
use Rattle.pls_vectors.specs.Solution.{Solution, chosen, with_item, no_items}
use Rattle.pls_knapsack.specs.Instance.{feasible, filled}
use Rattle.pls_knapsack.proofs.Greedy.{chosen-no_items, IsTally-no_items, filled-start, filled-takes, filled-passes, filled-end}
use Rattle.pls_knapsack.proofs.knapsack.Knapsack.greedy.Goals as goal
use Rattle.pls_knapsack.proofs.knapsack.Knapsack.greedy.Goals.{then-fits, else-fits}

pub loop-item-init : goal.loop-item-init
loop-item-init c =
    let k = c.args.self.now in
    let start : c.bits.result ≡ no_items k.items = c.bits.ensures ∙ ap (λ n. no_items n) c.size.ensures.value in
    record {
      tally = IsTally-no_items k _ start refl c.capacities.ensures.value;
      rest = filled-start k c.bits.result c.args.order.now start;
      free = λ m _ _. ap (λ (s : Solution). chosen s (slice_index c.args.order.now m)) start ∙ chosen-no_items k.items (slice_index c.args.order.now m);
    }

pub loop-item-preserved : goal.loop-item-preserved
loop-item-preserved c =
    let k = c.args.self.now in
    let order = c.args.order.now in
    let i = c.loop-item.item-index in
    let before = c.loop-item.invariant in
    let s = c.loop-item.tally.sol in
    elim c.if-fits.branch [
      | then-fits w ↦
          let holds : feasible k (with_item s (slice_index order i) true) ≡ true = sym c.fits.ensures ∙ w.if-fits.true in
          rw w.tally-is
          (record {
            tally = w.put.ensures.tally;
            rest =
                ap (λ (q : Solution). filled k q (drop (i + 1) order)) w.put.ensures.sol
                ∙ (filled-takes k s order i c.loop-item-test.true holds ∙ before.rest);
            free = λ m past within.
                let apart : slice_index order m ≢ slice_index order i = λ e. c.requires.once i m 0 (omega arith) within (sym e) in
                w.put.ensures.others (slice_index order m) apart ∙ before.free m (omega arith) within;
          })
      | else-fits w ↦
          let fails : feasible k (with_item s (slice_index order i) true) ≡ false = sym c.fits.ensures ∙ w.if-fits.false in
          rw w.tally-is
          (record {
            tally = before.tally;
            rest = filled-passes k s order i c.loop-item-test.true fails ∙ before.rest;
            free = λ m past within. before.free m (omega arith) within;
          })
    ]

pub returns-clause-value : goal.returns-clause-value
returns-clause-value c =
    let i = c.loop-item.item-index in
    sym (filled-end c.args.self.now c.loop-item.tally.sol c.args.order.now i c.loop-item-test.false) ∙ c.loop-item.invariant.rest
