use Rattle.std.proofs.Common.{[], ◌∷◌, length, sym, ap, ap₂, ◌∙◌}
use Rattle.nd_rows.specs.Walk.{sided, equal_answer}
use Rattle.nd_rows.proofs.Looks.{looks_more, value_there}
use Rattle.nd_rows.proofs.walk.ask_equals.Goals as goal

pub returns-in-None-clause-answer : goal.returns-in-None-clause-answer
returns-in-None-clause-answer c b has = ap (λ o. equal_answer o (sided b.ideal c.args.value.now)) (sym c.in-None.is ∙ c.sided.ensures.answer b.nadir has.nadir)

pub returns-in-Some-clause-looks : goal.returns-in-Some-clause-looks
returns-in-Some-clause-looks c =
    looks_more c.args.rows.now (c.args.row ∷ []) c.args.pass.now c.sided.new.pass c.sided-in-Some.new.pass c.sided.ensures.looks c.sided-in-Some.ensures.looks

pub returns-in-Some-clause-answer : goal.returns-in-Some-clause-answer
returns-in-Some-clause-answer c b has =
    c.by_corners.ensures
    ∙ ap₂ equal_answer (sym c.in-Some.is ∙ c.sided.ensures.answer b.nadir has.nadir)
    (c.sided-in-Some.ensures.answer b.ideal (value_there c.args.rows.now (length c.args.value.now) (c.args.row ∷ []) c.args.pass.now c.sided.new.pass c.sided.ensures.looks c.args.row _ b.ideal has.ideal))
