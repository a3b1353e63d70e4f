use Rattle.std.proofs.Common.{◌≡◌, Some, ap, ap₂, ◌∙◌}
use Rattle.era_rows.specs.Passes.{knows_of}
use Rattle.era_rows.specs.Plays.{having_left}
use Rattle.era_rows.specs.declared.views.Knows.{Knows}
use Rattle.pls_archive.specs.declared.call.Entry.{Entry}
use Rattle.nd_shared.proofs.Telling.{named, told_ready, told_answers}
use Rattle.nd_shared.proofs.tree.Tree.tell.Goals as goal
use Rattle.nd_shared.proofs.tree.Tree.tell.Goals.{After-drop-told-2}

-- the entry has the call and the reply
left : (c : After-drop-told-2) → knows_of c.unpin.new.pass ≡ having_left (λ (e : Entry). e.caller) (Some (named c.number.result c.args.stamp c.args.call.now c.args.reply.now)) (knows_of c.args.pass.now)
left c = c.unpin.ensures.left ∙ ap₂ (λ call answer. having_left (λ (e : Entry). e.caller) (Some (named c.number.result c.args.stamp call answer)) (knows_of c.args.pass.now)) c.of.ensures c.of-2.ensures

pub returns-clause-ready : goal.returns-clause-ready
returns-clause-ready c = told_ready c.args.self.now.rows c.args.stamp c.requires.opened.0 c.args.pass.now c.unpin.new.pass c.requires.opened.1 c.unpin.ensures.pass c.unpin.ensures.same c.number.result c.number.ensures.number c.args.call.now c.args.reply.now (left c) c.unpin.ensures.marks

pub returns-clause-answers : goal.returns-clause-answers
returns-clause-answers c p opens = told_answers c.args.self.now.rows c.args.stamp p c.args.pass.now c.unpin.new.pass opens c.unpin.ensures.pass c.unpin.ensures.same c.number.result c.number.ensures.number c.args.call.now c.args.reply.now (left c) c.requires.due c.requires.nothing c.unpin.ensures.consistent

pub returns-clause-left : goal.returns-clause-left
returns-clause-left c = ap (λ (k : Knows Entry). k.view) c.unpin.ensures.left
