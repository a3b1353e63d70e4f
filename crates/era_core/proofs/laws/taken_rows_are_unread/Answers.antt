use Rattle.era_core.proofs.Readers.{taken_unread}
use Rattle.era_core.proofs.laws.taken_rows_are_unread.Goals as goal

pub returns : goal.returns
returns c = taken_unread
