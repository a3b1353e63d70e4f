use Rattle.std.proofs.Common.{subst}
use Rattle.pls_archive.specs.declared.call.Call.TheVariants.{Snapshot}
use Rattle.pls_archive.specs.Reply.{nondominated}
use Rattle.pls_archive.specs.SharedCalls.{Answers}
use Rattle.nd_rows.proofs.FoundPoints.{kept_same}
use Rattle.nd_shared.specs.Views.{view_of}
use Rattle.nd_shared.proofs.Opening.{asked}
use Rattle.nd_shared.proofs.tree.Tree.snapshot_now.Goals as goal

pub leave-requires-clause-pass : goal.leave-requires-clause-pass
leave-requires-clause-pass c = (c.gather.ensures.tree c.open-stamp.result c.open-stamp.ensures.opens.opened.tree).is_pass

pub tell-requires-clause-opened : goal.tell-requires-clause-opened
tell-requires-clause-opened c =
    let opens = c.open-stamp.ensures.opens in
    let ask = c.gather.ensures in (
      c.args.pass.now,
      asked c.args.self.now.rows c.open-stamp.result _ c.args.pass.now c.open-stamp.new.pass c.gather.new.pass opens (ask.tree c.open-stamp.result opens.opened.tree) (kept_same c.open-stamp.new.pass c.gather.new.pass ask.same) ask.reads,
    )

pub returns-clause-answers : goal.returns-clause-answers
returns-clause-answers c =
    let opens = c.open-stamp.ensures.opens in
    let ask = c.gather.ensures in
    subst (λ x. Answers nondominated c.args.self.now.rows.passes (view_of c.args.pass.now) Snapshot x c.open-stamp.result (view_of c.tell.new.pass)) c.points_in.ensures
    (c.tell.ensures.answers c.args.pass.now
    (asked c.args.self.now.rows c.open-stamp.result _ c.args.pass.now c.open-stamp.new.pass c.gather.new.pass opens (ask.tree c.open-stamp.result opens.opened.tree) (kept_same c.open-stamp.new.pass c.gather.new.pass ask.same) ask.reads))
