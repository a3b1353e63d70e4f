use Rattle.era_rows.proofs.CountingLooks.{counts_looks}
use Rattle.era_rows.proofs.laws.looks_are_counted.Goals as goal

pub returns : goal.returns
returns c = counts_looks
