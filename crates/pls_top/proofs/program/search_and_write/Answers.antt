use Rattle.std.proofs.Common.{◌∙◌}
use Rattle.pls_top.proofs.Serving.{finishes_searched}
use Rattle.pls_top.proofs.program.search_and_write.Goals as goal

pub returns-clause-finishes : goal.returns-clause-finishes
returns-clause-finishes g c =
    finishes_searched _ _ _ _ _ c.args.settings.now c.args.instance.now _ c.in-Ok.outcome c.in-Ok.ensures.found c.from.result c.from.ensures
    c.as_slice.result.now (c.as_slice.ensures.value ∙ c.in-Ok-report_text.ensures) c.finish.ensures.finishes
