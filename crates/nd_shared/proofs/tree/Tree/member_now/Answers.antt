use Rattle.std.proofs.Common.{[], ap, subst, ◌∙◌}
use Rattle.era_rows.specs.Passes.{known_of}
use Rattle.pls_archive.specs.declared.call.Call.TheVariants.{Member}
use Rattle.pls_archive.specs.Reply.{nondominated}
use Rattle.pls_archive.specs.SharedCalls.{Answers}
use Rattle.nd_rows.specs.Entries.{recalls_dominating}
use Rattle.nd_rows.specs.Nodes.{necessary}
use Rattle.nd_shared.specs.Views.{view_of}
use Rattle.nd_shared.proofs.Opening.{asked}
use Rattle.nd_shared.proofs.Reading.{reads_asked}
use Rattle.nd_shared.proofs.tree.Tree.member_now.Goals as goal

pub tell-requires-clause-opened : goal.tell-requires-clause-opened
tell-requires-clause-opened c =
    let opens = c.open-stamp.ensures.opens in
    let ask = c.is_member-yes.ensures in (
      c.args.pass.now,
      asked c.args.self.now.rows c.open-stamp.result _ c.args.pass.now c.open-stamp.new.pass c.is_member-yes.new.pass opens (ask.tree c.open-stamp.result opens.opened.tree) ask.kept ask.reads.2,
    )

pub returns-clause-answers : goal.returns-clause-answers
returns-clause-answers c =
    let opens = c.open-stamp.ensures.opens in
    let ask = c.is_member-yes.ensures in
    subst (λ x. Answers nondominated c.args.self.now.rows.passes (view_of c.args.pass.now) (Member c.args.value) x c.open-stamp.result (view_of c.tell.new.pass)) c.reply.ensures
    (c.tell.ensures.answers c.args.pass.now
    (asked c.args.self.now.rows c.open-stamp.result _ c.args.pass.now c.open-stamp.new.pass c.is_member-yes.new.pass opens (ask.tree c.open-stamp.result opens.opened.tree) ask.kept ask.reads.2))

pub returns-clause-reads : goal.returns-clause-reads
returns-clause-reads c =
    let opened = c.open-stamp.ensures in
    let ask = c.is_member-yes.ensures.reads in
    reads_asked c.args.self.now.rows.shape c.open-stamp.result (necessary c.args.value) (known_of c.args.pass.now) (known_of c.open-stamp.new.pass) (known_of c.is_member-yes.new.pass) (known_of c.tell.new.pass) ask.0 opened.pinned
    opened.unread ask.1 opened.counted.begun ask.2 c.tell.ensures.left

pub returns-clause-recalled : goal.returns-clause-recalled
returns-clause-recalled c found =
    let opened = c.open-stamp.ensures in
    let ask = c.is_member-yes.ensures in
    reads_asked c.args.self.now.rows.shape c.open-stamp.result (λ _. []) (known_of c.args.pass.now) (known_of c.open-stamp.new.pass) (known_of c.is_member-yes.new.pass) (known_of c.tell.new.pass) ask.reads.0 opened.pinned
    opened.unread ask.reads.1 opened.counted.begun (ask.recalled (ap (λ memory. recalls_dominating memory c.args.value) opened.memory ∙ found)) c.tell.ensures.left
