use Rattle.std.proofs.Common.{rules}
use Rattle.atomic_table.proofs.Lists.{at_index}
use Rattle.era_rows.proofs.pass.Pass.work.Goals as goal

pub returns : goal.returns
returns g c = at_index c.args.self.now.work.items c.args.k c.index.result.now (search rules) (search rules)
