use Rattle.std.proofs.Common.{◌∙◌}
use Rattle.era_core.proofs.Batches.{among}
use Rattle.era_core.proofs.lists.is_among.Goals as goal

pub returns : goal.returns
returns c = c.contains.ensures.value ∙ among c.args.row c.args.rows.now
