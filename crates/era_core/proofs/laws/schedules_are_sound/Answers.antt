use Rattle.era_core.proofs.Runs.{every_schedule}
use Rattle.era_core.proofs.laws.schedules_are_sound.Goals as goal

pub returns : goal.returns
returns c = every_schedule
