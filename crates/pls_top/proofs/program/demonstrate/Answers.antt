use Rattle.std.proofs.Common.{◌∙◌}
use Rattle.pls_top.proofs.Serving.{finishes_demonstrated}
use Rattle.pls_top.proofs.program.demonstrate.Goals as goal

pub returns-clause-finishes : goal.returns-clause-finishes
returns-clause-finishes g c =
    finishes_demonstrated _ _ _ _ _ c.args.settings.now c.in-Ok.instance c.in-Ok.ensures _ c.in-Ok-search_with.outcome
    c.in-Ok-search_with.ensures.found c.from.result c.from.ensures
    c.as_slice.result.now (c.as_slice.ensures.value ∙ c.in-Ok-demo_text.ensures) c.finish.ensures.finishes
