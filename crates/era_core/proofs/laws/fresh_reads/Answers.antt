use Rattle.era_core.proofs.Readers.{read_fresh}
use Rattle.era_core.proofs.laws.fresh_reads.Goals as goal

pub returns : goal.returns
returns c = read_fresh
