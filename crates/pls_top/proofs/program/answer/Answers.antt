use Rattle.std.proofs.Common.{◌∙◌}
use Rattle.pls_top.proofs.Dues.{read_searches}
use Rattle.pls_top.proofs.Serving.{finishes_faulty}
use Rattle.pls_top.proofs.program.answer.Goals as goal

pub returns-in-Some-clause-finishes : goal.returns-in-Some-clause-finishes
returns-in-Some-clause-finishes g c =
    finishes_faulty _ _ _ _ _ c.args.settings.now _ _ c.in-Err.fault c.in-Err.ensures.fault c.in-Some.ensures.some _
    (c.as_bytes.ensures.value ∙ (c.as_str.ensures.value ∙ c.in-Some.ensures.line)) c.finish.ensures.finishes

pub returns-in-Ok-clause-no_journal : goal.returns-in-Ok-clause-no_journal
returns-in-Ok-clause-no_journal g c = λ none. absurd (read_searches _ _ c.in-Ok.ensures.read none)
