use Rattle.std.proofs.Common.{[], ◌∷◌, length, sym, ap₂, ◌∙◌}
use Rattle.nd_rows.specs.Walk.{box_answer}
use Rattle.nd_rows.proofs.Corners.{under_ideal}
use Rattle.nd_rows.proofs.Looks.{looks_more, value_there}
use Rattle.nd_rows.proofs.walk.ask_covers.Goals as goal

pub returns-in-None-clause-answer : goal.returns-in-None-clause-answer
returns-in-None-clause-answer c b has corners = under_ideal b c.args.value.now corners (sym c.in-None.is ∙ c.sided.ensures.answer b.ideal has.ideal)

pub returns-in-Some-clause-looks : goal.returns-in-Some-clause-looks
returns-in-Some-clause-looks c =
    looks_more c.args.rows.now (c.args.row ∷ []) c.args.pass.now c.sided.new.pass c.sided-in-Some.new.pass c.sided.ensures.looks c.sided-in-Some.ensures.looks

pub returns-in-Some-clause-answer : goal.returns-in-Some-clause-answer
returns-in-Some-clause-answer c b has corners =
    c.by_nadir.ensures
    ∙ ap₂ box_answer
    (c.sided-in-Some.ensures.answer b.nadir (value_there c.args.rows.now (length c.args.value.now) (c.args.row ∷ []) c.args.pass.now c.sided.new.pass c.sided.ensures.looks c.args.row _ b.nadir has.nadir))
    (sym c.in-Some.is ∙ c.sided.ensures.answer b.ideal has.ideal)
