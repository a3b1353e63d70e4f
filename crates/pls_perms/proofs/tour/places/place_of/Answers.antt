use Rattle.std.proofs.Common.{min, ap, ◌∙◌}
use Rattle.pls_perms.specs.Tour.{place_from}
use Rattle.pls_perms.proofs.TourValues.{place_of-min_max}
use Rattle.pls_perms.proofs.tour.places.place_of.Goals as goal

pub returns-clause-value : goal.returns-clause-value
returns-clause-value c =
    let n = c.args.cities in
    c.place_from.ensures.value
    ∙ (ap (λ low. place_from n low c.max.result) c.min.ensures
    ∙ (ap (λ high. place_from n (min c.args.a c.args.b) high) c.max.ensures ∙ place_of-min_max n c.args.a c.args.b c.requires.apart))
