use Rattle.pls_perms.proofs.Places.{place_from-below}
use Rattle.pls_perms.proofs.tour.places.place_from.Goals as goal

pub returns-clause-within : goal.returns-clause-within
returns-clause-within c = place_from-below c.args.cities c.args.a c.args.b c.requires.order c.requires.b_in
