use Rattle.std.proofs.Common.{[]}
use Rattle.era_rows.specs.Passes.{known_of}
use Rattle.nd_rows.specs.Nodes.{necessary}
use Rattle.nd_rows.proofs.Looks.{reads_none}
use Rattle.nd_shared.proofs.tree.Tree.is_covered.Goals as goal

pub returns-then-recalls-clause-reads : goal.returns-then-recalls-clause-reads
returns-then-recalls-clause-reads c =
    let tree = c.requires.tree.1.stands in
    (tree.0, tree.1, reads_none (necessary c.args.value.now tree.0) (known_of c.args.pass.now))

pub returns-then-recalls-clause-recalled : goal.returns-then-recalls-clause-recalled
returns-then-recalls-clause-recalled c found = reads_none [] (known_of c.args.pass.now)
