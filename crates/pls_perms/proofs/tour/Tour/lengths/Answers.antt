use Rattle.std.proofs.Common.{◌≡◌, ◌+◌, ◌%◌, slice_index, ap, ◌∙◌, arith}
use Rattle.std.proofs.Math.Nat.{mod-lt}
use Rattle.pls_vectors.specs.Solution.{entry}
use Rattle.pls_perms.specs.Tour.{edge_between, tour_length}
use Rattle.pls_perms.proofs.Stretches.{sum_from, sum_from-le, sum_from-more}
use Rattle.pls_perms.proofs.TourValues.{small_between}
use Rattle.pls_perms.proofs.TourWalks.{feasible-parts, step-apart}
use Rattle.pls_perms.proofs.tour.Tour.lengths.Goals as goal

pub between-requires-clause-a_in : goal.between-requires-clause-a_in
between-requires-clause-a_in c =
    let tour = feasible-parts c.args.self.now c.args.sol.now c.size-cities.ensures.limits.few_cities c.requires in
    rw c.entry-city.ensures (tour.permutation.below c.loop-i.i (let size = c.size-cities.ensures.value in omega arith))

pub between-requires-clause-b_in : goal.between-requires-clause-b_in
between-requires-clause-b_in c =
    let tour = feasible-parts c.args.self.now c.args.sol.now c.size-cities.ensures.limits.few_cities c.requires in
    let some = c.size-cities.ensures.limits.some_cities in
    let next : c.entry-next.result ≡ entry c.args.sol.now ((c.loop-i.i + 1) % c.args.self.now.cities) =
    c.entry-next.ensures ∙ ap (λ n. entry c.args.sol.now ((c.loop-i.i + 1) % n)) c.size-cities.ensures.value in
    rw next (tour.permutation.below ((c.loop-i.i + 1) % c.args.self.now.cities) (mod-lt (c.loop-i.i + 1) (omega arith)))

pub between-requires-clause-apart : goal.between-requires-clause-apart
between-requires-clause-apart c =
    let tour = feasible-parts c.args.self.now c.args.sol.now c.size-cities.ensures.limits.few_cities c.requires in
    let some = c.size-cities.ensures.limits.some_cities in
    let size = c.size-cities.ensures.value in
    let next : c.entry-next.result ≡ entry c.args.sol.now ((c.loop-i.i + 1) % c.args.self.now.cities) =
    c.entry-next.ensures ∙ ap (λ n. entry c.args.sol.now ((c.loop-i.i + 1) % n)) c.size-cities.ensures.value in
    rw (c.entry-city.ensures, next) (step-apart c.args.self.now.cities c.args.sol.now c.loop-i.i (omega arith) tour (omega arith))

pub add-requires : goal.add-requires
add-requires c = λ row at.
    let k = c.args.self.now in
    let s = c.args.sol.now in
    let limits = c.size-cities.ensures.limits in
    let few = limits.few_cities in
    let size = c.size-cities.ensures.value in
    let sum = c.loop-i.invariant row at in
    let small = sum_from-le (λ i. edge_between k row (entry s i) (entry s ((i + 1) % k.cities))) 0 c.loop-i.i 1000000 (λ i. small_between k limits row (entry s i) (entry s ((i + 1) % k.cities))) in
    let here = c.between.ensures.value row at in
    let small_here = small_between k limits row c.entry-city.result c.entry-next.result in
    omega arith

pub loop-i-preserved : goal.loop-i-preserved
loop-i-preserved c = λ list at.
    let k = c.args.self.now in
    let s = c.args.sol.now in
    sum_from-more (λ i. edge_between k list (entry s i) (entry s ((i + 1) % k.cities))) c.loop-i.i
    (slice_index c.loop-i.lengths list) (slice_index c.between.result.now list) _ (c.loop-i.invariant list at)
    (c.between.ensures.value list at
    ∙ (ap (λ x. edge_between k list x c.entry-next.result) c.entry-city.ensures
    ∙ ap (λ x. edge_between k list (entry s c.loop-i.i) x) (c.entry-next.ensures ∙ ap (λ n. entry s ((c.loop-i.i + 1) % n)) c.size-cities.ensures.value)))
    (c.add.ensures list at)

pub returns-clause-value : goal.returns-clause-value
unfolding tour_length
returns-clause-value c = λ list at.
    let k = c.args.self.now in
    let s = c.args.sol.now in
    let size = c.size-cities.ensures.value in
    let all : c.loop-i.i ≡ k.cities = omega arith in
    c.loop-i.invariant list at
    ∙ ap (λ n. sum_from (λ i. edge_between k list (entry s i) (entry s ((i + 1) % k.cities))) 0 n) all
