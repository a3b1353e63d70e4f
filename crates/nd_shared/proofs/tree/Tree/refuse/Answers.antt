use Rattle.std.proofs.Common.{◌≡◌, Some, refl, ap, ◌∙◌}
use Rattle.era_rows.specs.Passes.{knows_of}
use Rattle.era_rows.specs.Plays.{having_left}
use Rattle.era_rows.specs.declared.views.Knows.{Knows}
use Rattle.pls_archive.specs.declared.call.Call.TheVariants.{Update}
use Rattle.pls_archive.specs.declared.call.Entry.{Entry}
use Rattle.pls_archive.specs.declared.call.Reply.TheVariants.{Refused}
use Rattle.nd_shared.proofs.Telling.{named, told_ready, told_answers}
use Rattle.nd_shared.proofs.tree.Tree.refuse.Goals as goal
use Rattle.nd_shared.proofs.tree.Tree.refuse.Goals.{After-drop-refuses}

-- the entry has the point
left : (c : After-drop-refuses) → knows_of c.unpin.new.pass ≡ having_left (λ (e : Entry). e.caller) (Some (named c.number.result c.args.stamp (Update c.args.point.now) Refused)) (knows_of c.args.pass.now)
left c = c.unpin.ensures.left ∙ ap (λ point. having_left (λ (e : Entry). e.caller) (Some (named c.number.result c.args.stamp (Update point) Refused)) (knows_of c.args.pass.now)) c.of.ensures

pub returns-clause-ready : goal.returns-clause-ready
returns-clause-ready c = told_ready c.args.self.now.rows c.args.stamp c.requires.opened.0 c.args.pass.now c.unpin.new.pass c.requires.opened.1 c.unpin.ensures.pass c.unpin.ensures.same c.number.result c.number.ensures.number (Update c.args.point.now) Refused (left c) c.unpin.ensures.marks

pub returns-clause-answers : goal.returns-clause-answers
returns-clause-answers c p opens = told_answers c.args.self.now.rows c.args.stamp p c.args.pass.now c.unpin.new.pass opens c.unpin.ensures.pass c.unpin.ensures.same c.number.result c.number.ensures.number (Update c.args.point.now) Refused (left c) c.requires.due refl c.unpin.ensures.consistent

pub returns-clause-left : goal.returns-clause-left
returns-clause-left c = ap (λ (k : Knows Entry). k.view) c.unpin.ensures.left
