use Rattle.std.proofs.Common.{◌≡◌, ℕ, ◌*◌, ◌^◌, ◌<◌, [], length, ap, ◌∙◌, arith}
use Rattle.std.proofs.lemmas.List.{get_or_read}
use Rattle.pls_vectors.specs.Box.{gap}
use Rattle.nd_tree.specs.Split.{value_at, distance}
use Rattle.nd_tree.proofs.Distances.{gap-distance}
use Rattle.nd_tree.proofs.Sums.{IsAdded-more}
use Rattle.nd_tree.proofs.Totals.{sum-places}
use Rattle.nd_tree.proofs.choice.add_distances.Goals as goal

pub loop-k-preserved : goal.loop-k-preserved
loop-k-preserved c =
    let so_far = c.loop-k.invariant in
    let k = c.loop-k.k in
    let values = c.args.values.now in
    let v = c.args.v.now in
    let f : ℕ → ℕ = λ i. 4 * distance (value_at values i) v in
    let within : k < length c.loop-k.sums = omega arith in
    let is : c.gap-more.result ≡ f k =
    c.gap-more.ensures.value
    ∙ (ap (λ b. gap b v) c.of.ensures
    ∙ (gap-distance c.index-values-k.result v
    ∙ ap (λ w. 4 * distance w v) (get_or_read values k c.index-values-k.result (omega arith) c.index-values-k.is []))) in
    let next = IsAdded-more f (2 ^ 86) c.args.sums.now c.loop-k.sums k c.gap-more.result within is c.gap-more.ensures.bound
    (record { added = so_far.done; bound = so_far.bound; others = so_far.others }) in
    record {
      done = next.added;
      bound = next.bound;
      others = next.others;
      added = omega (arith, so_far.added, is, sum-places (λ i. distance (value_at values i) v) k);
      added_bound = omega (arith, so_far.added_bound, c.gap-more.ensures.bound);
    }
