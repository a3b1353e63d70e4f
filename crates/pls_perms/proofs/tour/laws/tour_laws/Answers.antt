use Rattle.pls_perms.proofs.PlaceOrder.{places-are_in_order}
use Rattle.pls_perms.proofs.TourWalks.{value-reversed_whole}
use Rattle.pls_perms.proofs.tour.laws.tour_laws.Goals as goal

pub returns : goal.returns
returns c = record { places = places-are_in_order; reversed = value-reversed_whole }
