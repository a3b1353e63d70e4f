use Rattle.pls_problem.proofs.ReadBack.{instance-tour_text}
use Rattle.pls_problem.proofs.writer.write_tour.Goals as goal

pub returns-clause-read : goal.returns-clause-read
returns-clause-read c = instance-tour_text _ c.size-cities.ensures.limits
