use Rattle.std.proofs.Common.{ℕ, List, map, ap, arith}
use Rattle.pls_vectors.specs.Solution.{reversed}
use Rattle.pls_perms.specs.Tour.{point, neighbours}
use Rattle.pls_perms.specs.TourWalk.{left}
use Rattle.pls_perms.proofs.Pairs.{pairs_after-begin}
use Rattle.pls_perms.proofs.TourWalks.{length-neighbours}
use Rattle.pls_perms.proofs.tour.Tour.walk.Goals as goal

pub returns-clause-made : goal.returns-clause-made
returns-clause-made c =
    let some = c.lengths.ensures.limits.some_cities in
    record {
      limits = c.lengths.ensures.limits;
      words = c.cities_of.ensures.stored;
      feasible = c.requires;
      sums = c.lengths.ensures.value;
      cities = c.cities_of.ensures.value;
      pair = record {
        from = let first = c.start.ensures.first in omega arith;
        ordered = let first = c.start.ensures.first in let second = c.start.ensures.second in omega arith;
        below = let second = c.start.ensures.second in omega arith;
      };
    }

pub returns-clause-left : goal.returns-clause-left
unfolding left neighbours
returns-clause-left c =
    let k = c.args.self.now in
    let some = c.lengths.ensures.limits.some_cities in
    ap (λ (ps : List (ℕ × ℕ)). map (λ (p : ℕ × ℕ). point k (reversed c.args.sol.now p.0 p.1)) ps) (pairs_after-begin 1 k.cities c.start.result c.start.ensures.first c.start.ensures.second (omega arith))

pub returns-clause-few : goal.returns-clause-few
returns-clause-few c = length-neighbours c.args.self.now c.args.sol.now c.lengths.ensures.limits
