use Rattle.std.proofs.Common.{lit<, arith, sym, ◌∙◌}
use Rattle.pls_knapsack.specs.Instance.{profit, weight}
use Rattle.pls_knapsack.proofs.Tallies.{small_profit, small_weight, small_sum, sum_of_chosen-yes, sum_of_chosen-no}
use Rattle.pls_knapsack.proofs.knapsack.Knapsack.total.Goals as goal
use Rattle.pls_knapsack.proofs.knapsack.Knapsack.total.Goals.{then-bit, else-bit}

pub add-requires : goal.add-requires
add-requires c = (
  lit< tt,
  λ row at.
      let k = c.args.self.now in
      let limits = c.amounts-chosen.ensures.limits in
      let has = c.amounts-chosen.ensures.item.profits row at in
      let sum = c.loop-item.invariant.profits row at in
      let small = small_profit k limits row c.loop-item.item in
      let sums = small_sum k limits c.loop-item.item c.args.sol.now (profit k row) (omega arith) (small_profit k limits row) in
      omega arith,
)

pub add-requires-then-bit : goal.add-requires-then-bit
add-requires-then-bit c = (
  lit< tt,
  λ row at.
      let k = c.args.self.now in
      let limits = c.amounts-chosen.ensures.limits in
      let has = c.amounts-chosen.ensures.item.weights row at in
      let sum = c.loop-item.invariant.weights row at in
      let small = small_weight k limits row c.loop-item.item in
      let sums = small_sum k limits c.loop-item.item c.args.sol.now (weight k row) (omega arith) (small_weight k limits row) in
      omega arith,
)

pub loop-item-preserved : goal.loop-item-preserved
loop-item-preserved c =
    let k = c.args.self.now in
    let s = c.args.sol.now in
    let n = c.loop-item.item in
    let so_far = c.loop-item.invariant in
    elim c.if-bit.branch [
      | then-bit w ↦
          rw w.total-is
          (record {
            profits = λ row at.
                omega (arith, sum_of_chosen-yes n s (profit k row) (sym w.if-bit.ensures), w.add.ensures row at, w.amounts-chosen.ensures.item.profits row at, so_far.profits row at);
            weights = λ row at.
                omega (arith, sum_of_chosen-yes n s (weight k row) (sym w.if-bit.ensures), w.add-then-bit.ensures row at, w.amounts-chosen.ensures.item.weights row at, so_far.weights row at);
          })
      | else-bit w ↦
          rw w.total-is
          (record {
            profits = λ row at. so_far.profits row at ∙ sym (sum_of_chosen-no n s (profit k row) (sym w.if-bit.ensures));
            weights = λ row at. so_far.weights row at ∙ sym (sum_of_chosen-no n s (weight k row) (sym w.if-bit.ensures));
          })
    ]
