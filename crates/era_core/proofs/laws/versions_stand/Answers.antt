use Rattle.era_core.proofs.Held.{version_held}
use Rattle.era_core.proofs.laws.versions_stand.Goals as goal

pub returns : goal.returns
returns c = version_held
