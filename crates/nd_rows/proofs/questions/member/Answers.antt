use Rattle.std.proofs.Common.{sym, take, ◌∙◌}
use Rattle.era_rows.specs.Passes.{seen_of}
use Rattle.pls_archive.specs.History.{submissions}
use Rattle.pls_archive.proofs.ListArchive.{member-due}
use Rattle.nd_rows.specs.Nodes.{points_of, necessary}
use Rattle.nd_rows.proofs.Looks.{has_same}
use Rattle.nd_rows.proofs.PinnedTrees.{still_pinned}
use Rattle.nd_rows.proofs.questions.member.Goals as goal

pub returns-clause-same : goal.returns-clause-same
returns-clause-same c =
    let tree = c.requires.tree in
    has_same c.args.rows.now (necessary c.args.value.now tree.1.stands.0) c.args.pass.now c.ask.new.pass (c.ask.ensures.looks tree.0 tree.1) (c.ask.ensures.work ∙ sym c.requires.idle)

pub returns-clause-tree : goal.returns-clause-tree
returns-clause-tree c n tree = still_pinned c.args.rows.now (necessary c.args.value.now tree.stands.0) c.args.pass.now c.ask.new.pass (c.ask.ensures.looks n tree) n tree

pub returns-clause-reads : goal.returns-clause-reads
returns-clause-reads c =
    let tree = c.requires.tree in
    (tree.1.stands.0, tree.1.stands.1, (c.ask.ensures.looks tree.0 tree.1).reads)

pub returns-clause-answer : goal.returns-clause-answer
returns-clause-answer c n tree = member-due (submissions (take n (seen_of c.args.pass.now))) (points_of tree.stands.0) tree.stands.2 c.args.value.now c.ask.result.0 (c.ask.ensures.answer n tree)
