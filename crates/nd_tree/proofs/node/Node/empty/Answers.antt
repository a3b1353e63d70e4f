use Rattle.std.proofs.Common.{length, ap}
use Rattle.nd_tree.specs.Nodes.{seen}
use Rattle.nd_tree.proofs.node.Node.empty.Goals as goal

pub returns-clause-points : goal.returns-clause-points
unfolding seen
returns-clause-points c = c.new-2.ensures.points

pub returns-clause-longest : goal.returns-clause-longest
unfolding seen
returns-clause-longest c = ap length c.new-2.ensures.points
