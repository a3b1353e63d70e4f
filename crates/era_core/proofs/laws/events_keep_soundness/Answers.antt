use Rattle.era_core.proofs.Runs.{after_sound}
use Rattle.era_core.proofs.laws.events_keep_soundness.Goals as goal

pub returns : goal.returns
returns c = after_sound
