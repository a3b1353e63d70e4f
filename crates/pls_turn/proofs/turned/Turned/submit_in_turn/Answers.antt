use Rattle.std.proofs.Common.{ap, sym, subst, ◌∙◌, ◌+◌, arith}
use Rattle.pls_archive.specs.Archives.{reply_of}
use Rattle.pls_archive.specs.Lists.{one_if}
use Rattle.pls_archive.specs.Rule.{is_accepting}
use Rattle.pls_archive.specs.declared.call.Call.TheVariants.{Update}
use Rattle.pls_turn.specs.TurnSeats.{IsDue}
use Rattle.pls_turn.proofs.Submitting.{submitted}
use Rattle.pls_turn.proofs.turned.Turned.submit_in_turn.Goals as goal

pub answer-requires-clause-due : goal.answer-requires-clause-due
answer-requires-clause-due g c =
    let p = c.args.point.now in
    let count = c.requires.count in
    subst (λ q. IsDue g.S.Law.Rule g.S.Single c.args.self.now c.submit.new.seat (Update q) (reply_of c.in-Ok.taken) c.stamp_of-stamp.result)
    (sym c.of-point.ensures)
    (submitted g.S.Law.Rule g.S.Single c.args.self.now c.args.pass.now.seat c.submit.new.seat p c.in-Ok.taken
    c.stamp_of-stamp.result c.in-Ok.ensures.view c.in-Ok.ensures.right c.in-Ok.ensures.archive
    (c.stamp_of-stamp.ensures p ∙ ap (λ n. n + one_if (is_accepting (Update p) (reply_of c.in-Ok.taken))) count)
    (let room = c.requires.room in omega arith))

pub returns-in-Ok-clause-room : goal.returns-in-Ok-clause-room
returns-in-Ok-clause-room g c =
    let room = c.requires.room in
    let stamp = c.stamp_of-stamp.ensures c.args.point.now in
    let accepted = ap (λ r. one_if (is_accepting (Update c.args.point.now) r)) c.in-Ok.ensures.right in
    omega arith
