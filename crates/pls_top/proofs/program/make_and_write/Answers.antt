use Rattle.std.proofs.Common.{◌∙◌}
use Rattle.pls_top.proofs.Serving.{finishes_made}
use Rattle.pls_top.proofs.program.make_and_write.Goals as goal

pub returns-clause-finishes : goal.returns-clause-finishes
returns-clause-finishes g c =
    finishes_made _ _ _ _ _ c.args.settings.now c.as_slice.result.now (c.as_slice.ensures.value ∙ c.in-Ok.ensures) c.finish.ensures.finishes
