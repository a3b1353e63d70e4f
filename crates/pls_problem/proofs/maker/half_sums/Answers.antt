use Rattle.std.proofs.Common.{◌≤◌, ◌/◌, ℕ, List, rules, arith, ◌∙◌, ap}
use Rattle.std.specs.List.{sum}
use Rattle.std.proofs.lemmas.List.Elements.{All-push}
use Rattle.pls_problem.proofs.Making.{half_sums-push, sum_of_row}
use Rattle.pls_problem.proofs.maker.half_sums.Goals as goal

pub half_sum-requires : goal.half_sum-requires
half_sum-requires c =
    let small : sum c.row_of.result.now ≤ 25600 = rw c.row_of.ensures (sum_of_row _ _ _ c.requires.few c.requires.small) in
    omega arith

pub loop-row-preserved : goal.loop-row-preserved
loop-row-preserved c =
    let row = c.loop-row.row in
    let sum_is = c.half_sum.ensures ∙ ap (λ (numbers : List ℕ). sum numbers / 2) c.row_of.ensures in
    let small : sum c.row_of.result.now ≤ 25600 = rw c.row_of.ensures (sum_of_row _ _ _ c.requires.few c.requires.small) in
    record {
      sums = c.push_reserved.ensures.items ∙ half_sums-push row c.args.items c.args.weights.now _ _ c.loop-row.invariant.sums sum_is;
      count = search rules;
      small = rw c.push_reserved.ensures.items (All-push (λ n. n ≤ 1000000000) _ _ c.loop-row.invariant.small (omega arith));
      room = search rules;
    }
