use Rattle.std.proofs.Common.{ap, subst, ◌∙◌}
use Rattle.pls_archive.specs.Archives.{reply_of}
use Rattle.pls_archive.specs.declared.call.Call.TheVariants.{Update}
use Rattle.pls_archive.specs.View.{View}
use Rattle.pls_archive.specs.SharedCalls.{Answers}
use Rattle.pls_turn.specs.Passes.{terms_of, view_of}
use Rattle.pls_turn.proofs.Submitting.{answers_sooner, refused_sooner}
use Rattle.pls_turn.proofs.turned.Turned.update.Goals as goal

pub returns-in-Ok-clause-answers : goal.returns-in-Ok-clause-answers
returns-in-Ok-clause-answers g c =
    answers_sooner g.S.Law.Rule g.S.Single c.args.self.now (view_of c.args.pass.now) c.take_turn-count.new.seat c.take_turn-count.ensures.turn
    (Update c.args.point) (reply_of c.in-Ok.answer.0) c.in-Ok.answer.1 (view_of c.submit_in_turn.new.pass)
    (subst
    (λ (v : View). Answers (g.S.Law.Rule.reply (g.S.Single.number (terms_of c.args.self.now).single.value)) (terms_of c.args.self.now).passes v (Update c.args.point) (reply_of c.in-Ok.answer.0)
    c.in-Ok.answer.1 (view_of c.submit_in_turn.new.pass))
    (ap (λ m. m.0.view) c.is_spent.ensures.same.1) c.in-Ok.ensures.answers)

pub returns-in-Err-clause-refused : goal.returns-in-Err-clause-refused
returns-in-Err-clause-refused g c =
    refused_sooner g.S.Law.Rule g.S.Single c.args.self.now (view_of c.args.pass.now) c.take_turn-count.new.seat
    c.take_turn-count.ensures.turn (view_of c.submit_in_turn.new.pass) (c.in-Err.ensures.same ∙ ap (λ m. m.0.view) c.is_spent.ensures.same.1)
