use Rattle.std.proofs.Common.{arith}
use Rattle.pls_perms.proofs.TourWalks.{feasible-parts}
use Rattle.pls_perms.proofs.tour.Tour.solution.Goals as goal

pub reverse-requires-clause-within : goal.reverse-requires-clause-within
reverse-requires-clause-within c =
    let tour = feasible-parts c.args.self.now c.args.walk.now.walk.start c.requires.limits.few_cities c.requires.feasible in
    let long = tour.permutation.len in
    let within = c.requires.pair.below in
    omega arith
