use Rattle.std.proofs.Common.{◌∙◌, sym, rules}
use Rattle.pls_problem.proofs.ShuffleSteps.{shuffled-step, shuffled-done}
use Rattle.pls_problem.proofs.shuffle.shuffle.Goals as goal

pub loop-left-preserved : goal.loop-left-preserved
loop-left-preserved g c = record {
  rest =
      shuffled-step c.args.least c.loop-left.left _ _ _ _ c.next_u64.result c.loop-left-test.true c.next_u64.ensures c.swap.ensures.after
      ∙ c.loop-left.invariant.rest;
  within = search rules;
  long = search rules;
}

pub returns : goal.returns
returns g c =
    sym (shuffled-done c.args.least c.loop-left.left _ _ c.loop-left-test.false) ∙ c.loop-left.invariant.rest
