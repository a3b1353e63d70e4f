use Rattle.std.proofs.Common.{refl}
use Rattle.pls_problem.specs.Made.{sizes_in}
use Rattle.pls_problem.specs.Shuffle.{seeded}
use Rattle.pls_problem.proofs.Limited.{made_from-limits}
use Rattle.pls_problem.proofs.LimitedReading.{instance-limits}
use Rattle.pls_problem.proofs.laws.instance_laws.Goals as goal

pub returns-clause-read : goal.returns-clause-read
returns-clause-read c = instance-limits

pub returns-clause-made : goal.returns-clause-made
returns-clause-made c = λ spec limits. made_from-limits (sizes_in spec) (seeded spec.seed) limits spec.kind refl
