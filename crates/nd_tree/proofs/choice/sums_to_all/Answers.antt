use Rattle.std.proofs.Common.{◌≡◌, ◌^◌, ◌<◌, [], length, arith}
use Rattle.std.proofs.lemmas.List.{get_or_read}
use Rattle.nd_tree.specs.Split.{value_at}
use Rattle.nd_tree.proofs.Totals.{sums-next, bound-next}
use Rattle.nd_tree.proofs.choice.sums_to_all.Goals as goal

pub loop-k-preserved : goal.loop-k-preserved
loop-k-preserved c =
    let values = c.args.values.now in
    let sums = c.loop-k.sums in
    let k = c.loop-k.k in
    let v = c.index-values-k.result in
    let after = c.add_distances-own.new.sums in
    let own = c.add_distances-own.result in
    let ens = c.add_distances-own.ensures in
    let so_far = c.loop-k.invariant in
    let within : k < length sums = omega (arith, c.loop-k-test.array_long, c.loop-k-test.true) in
    let long = c.add_distances-own.auto.sums in
    let is : v ≡ value_at values k = get_or_read values k v (omega (arith, c.requires.many, c.loop-k-test.true)) c.index-values-k.is [] in
    record {
      sums = sums-next values sums after k own v within long is so_far.sums ens.sums ens.added;
      bound = bound-next values sums after k own v within long (2 ^ 86) so_far.bound ens.bound ens.added_bound;
    }
