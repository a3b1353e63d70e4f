use Rattle.era_core.proofs.TreeFacts.{tree_closed}
use Rattle.era_core.proofs.laws.trees_are_closed.Goals as goal

pub returns : goal.returns
returns c = tree_closed
