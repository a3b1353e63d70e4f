use Rattle.nd_update.proofs.Updates.{updates, is_written_tree, stands_for}
use Rattle.nd_update.proofs.laws.update_laws.Goals as goal

pub returns-clause-updates : goal.returns-clause-updates
returns-clause-updates c = updates

pub returns-clause-written : goal.returns-clause-written
returns-clause-written c = is_written_tree

pub returns-clause-stands : goal.returns-clause-stands
returns-clause-stands c = stands_for
