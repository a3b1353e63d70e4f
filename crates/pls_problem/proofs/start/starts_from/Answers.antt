use Rattle.std.proofs.Common.{rules, arith, true, ◌≡◌}
use Rattle.std.proofs.lemmas.List.Elements.{All-push}
use Rattle.pls_problem.specs.Instance.{feasible}
use Rattle.pls_problem.proofs.Starting.{starts_from-push, starts_from-done}
use Rattle.pls_problem.proofs.start.starts_from.Goals as goal

pub loop-preserved : goal.loop-preserved
loop-preserved g c = record {
  rest =
      starts_from-push c.args.instance.now _ _ _ _ _ _ _ c.draw_start.result (omega arith)
      c.draw_start.ensures.value c.draw_start.ensures.rest c.push_reserved.ensures.items c.loop.invariant.rest;
  feasible =
      rw c.push_reserved.ensures.items
      (All-push (λ s. feasible c.args.instance.now s ≡ true) _ _ c.loop.invariant.feasible c.draw_start.ensures.feasible);
  order = search rules;
  count = search rules;
  room = search rules;
}

pub returns-clause-value : goal.returns-clause-value
returns-clause-value g c = starts_from-done c.args.instance.now _ _ _ _ (omega arith) c.loop.invariant.rest
