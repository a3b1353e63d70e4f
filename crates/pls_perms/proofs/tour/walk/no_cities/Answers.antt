use Rattle.pls_perms.proofs.Stretches.{zeros-at}
use Rattle.pls_perms.proofs.tour.walk.no_cities.Goals as goal

pub returns : goal.returns
returns c = λ i. zeros-at 257 i
