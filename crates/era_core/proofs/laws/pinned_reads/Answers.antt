use Rattle.era_core.proofs.Readers.{read_pinned}
use Rattle.era_core.proofs.laws.pinned_reads.Goals as goal

pub returns : goal.returns
returns c = λ m cs is_sound k n root r p pinned here place. read_pinned m cs is_sound k n root pinned r p here place
