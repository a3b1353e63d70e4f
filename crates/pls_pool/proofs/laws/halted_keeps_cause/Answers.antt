use Rattle.pls_pool.proofs.DeskLaws.{halted_keeps}
use Rattle.pls_pool.proofs.laws.halted_keeps_cause.Goals as goal

pub returns : goal.returns
returns c = halted_keeps
