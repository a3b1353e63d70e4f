use Rattle.std.proofs.Common.{ap, sym, subst}
use Rattle.pls_archive.specs.View.{View}
use Rattle.pls_archive.specs.SharedCalls.{Answers}
use Rattle.pls_turn.specs.Passes.{terms_of, view_of}
use Rattle.pls_turn.proofs.Giving.{given_back}
use Rattle.pls_turn.proofs.turned.Turned.answer.Goals as goal

pub give_back-requires-clause-may : goal.give_back-requires-clause-may
give_back-requires-clause-may g c =
    let due = c.requires.due in (
      due.archive.0,
      due.archive.1,
      (given_back g.S.Law.Rule g.S.Single (terms_of c.args.self.now) c.args.pass.now.seat.me.0 c.requires.turn
          (g.A.Answer.call c.args.note.now) (g.A.Answer.reply c.args.note.now) c.args.stamp due.right due.few due.stamped).0 due.archive.0 due.archive.2,
    )

pub returns-clause-answers : goal.returns-clause-answers
returns-clause-answers g c =
    let due = c.requires.due in
    let call = g.A.Answer.call c.args.note.now in
    let reply = g.A.Answer.reply c.args.note.now in
    subst (λ (v : View). Answers (g.S.Law.Rule.reply (g.S.Single.number (terms_of c.args.self.now).single.value)) (terms_of c.args.self.now).passes (view_of c.args.pass.now) call reply c.args.stamp v)
    (sym (ap (λ m. m.0.view) c.give_back.ensures.rests))
    (given_back g.S.Law.Rule g.S.Single (terms_of c.args.self.now) c.args.pass.now.seat.me.0 c.requires.turn
    call reply c.args.stamp due.right due.few due.stamped).1
