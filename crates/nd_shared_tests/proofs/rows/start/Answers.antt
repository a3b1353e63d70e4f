use Rattle.std.proofs.Common.{◌∙◌, sym}
use Rattle.nd_update.proofs.Published.{one_at_rest}
use Rattle.nd_shared_tests.proofs.rows.start.Goals as goal

pub returns-clause-rest : goal.returns-clause-rest
returns-clause-rest c = one_at_rest c.in_ok-rows.rows c.in_ok-rows.passes.items c.remove-pass.result (sym c.in_ok-rows.passes.ok.0 ∙ c.in_ok-rows.ensures.count) c.in_ok-rows.ensures.passes c.remove-pass.ensures.value
