use Rattle.std.proofs.Common.{◌≡◌, ℕ, ◌+◌, ◌*◌, ◌<◌, ◌≤◌, List, [], replicate, take, slice_index, get_or, ap, sym, ◌∙◌, arith}
use Rattle.std.proofs.lemmas.List.{get_or-replicate, get_or_default, get_or_read}
use Rattle.nd_tree.specs.Split.{Begun, value_at, distance, total_distance}
use Rattle.nd_tree.proofs.Chosen.{IsChoice-at, below-left, last-within, length-left, take-chosen}
use Rattle.nd_tree.proofs.Parts.{uniform-at}
use Rattle.nd_tree.proofs.Totals.{begun-first, begun-next, total-chosen}
use Rattle.nd_tree.proofs.choice.begin_groups.Goals as goal

pub loop-k-init : goal.loop-k-init
loop-k-init c = record {
  choice = c.take_largest.ensures ∙ begun-first c.args.values.now c.sums_to_all.result _ c.requires.many c.new.ensures c.all_places.ensures c.sums_to_all.ensures;
  sums = λ i below. get_or-replicate 21 i 0 0 below;
  bound = none;
}
  where
    none : (i : ℕ) → i < 21 → slice_index (replicate 21 0) i ≤ 0
    none i below = let is : slice_index (replicate 21 0) i ≡ 0 = get_or-replicate 21 i 0 0 below in omega arith

pub bounds-chosen-k : goal.bounds-chosen-k
bounds-chosen-k c =
    (last-within c.args.values.now c.loop-k.choice c.loop-k.k c.chosen.result.now c.requires.many (omega arith) c.loop-k.invariant.choice c.chosen.ensures.value).0

pub bounds-values-last : goal.bounds-values-last
bounds-values-last c =
    (last-within c.args.values.now c.loop-k.choice c.loop-k.k c.chosen.result.now c.requires.many (omega arith) c.loop-k.invariant.choice c.chosen.ensures.value).1

pub add_distances-requires-clause-parts : goal.add_distances-requires-clause-parts
add_distances-requires-clause-parts c =
    let values = c.args.values.now in
    let k = c.loop-k.k in
    let chosen = c.chosen.result.now in
    let within = last-within values c.loop-k.choice k chosen c.requires.many (omega arith) c.loop-k.invariant.choice c.chosen.ensures.value in
    let long = uniform-at values (slice_index chosen k) c.index-values-last.result c.requires.parts within.1 c.index-values-last.is in
    λ i d below. c.requires.parts i d below ∙ sym long

pub add_distances-requires-clause-low : goal.add_distances-requires-clause-low
add_distances-requires-clause-low c =
    λ i d below.
    let same : get_or c.loop-k.sums i d ≡ slice_index c.loop-k.sums i = get_or_default c.loop-k.sums i d 0 below in
    let bound = c.loop-k.invariant.bound i (omega arith) in
    omega (arith, same, bound, c.loop-k-test.true, c.len-k-end.ensures.few)

pub take_largest-requires-in-loop-k-clause-some : goal.take_largest-requires-in-loop-k-clause-some
take_largest-requires-in-loop-k-clause-some c =
    let choice = IsChoice-at c.args.values.now c.loop-k.choice c.loop-k.k c.requires.many (omega arith) c.loop-k.invariant.choice in
    omega (arith, length-left c.loop-k.choice choice)

pub take_largest-requires-in-loop-k-clause-below : goal.take_largest-requires-in-loop-k-clause-below
take_largest-requires-in-loop-k-clause-below c =
    below-left c.loop-k.choice (IsChoice-at c.args.values.now c.loop-k.choice c.loop-k.k c.requires.many (omega arith) c.loop-k.invariant.choice)

pub take_largest-requires-in-loop-k-clause-room : goal.take_largest-requires-in-loop-k-clause-room
take_largest-requires-in-loop-k-clause-room c =
    let choice = IsChoice-at c.args.values.now c.loop-k.choice c.loop-k.k c.requires.many (omega arith) c.loop-k.invariant.choice in
    omega (arith, choice.chosen)

pub loop-k-preserved : goal.loop-k-preserved
loop-k-preserved c =
    let values = c.args.values.now in
    let k = c.loop-k.k in
    let b = c.loop-k.choice in
    let so_far = c.loop-k.invariant in
    let sums = c.add_distances.new.sums in
    let choice = IsChoice-at values b k c.requires.many (omega arith) so_far.choice in
    let long = choice.chosen in
    let v = c.index-values-last.result in
    let chosen = c.chosen.result.now in
    let within = last-within values b k chosen c.requires.many (omega arith) so_far.choice c.chosen.ensures.value in
    let last : v ≡ value_at values (slice_index b.chosen k) =
    get_or_read values (slice_index chosen k) v within.1 c.index-values-last.is []
    ∙ ap (λ (ks : List ℕ). value_at values (slice_index ks k)) c.chosen.ensures.value in
    let totals : (i : ℕ) → i < 21 → slice_index sums i ≡ 4 * total_distance values b.chosen i =
    λ i below.
    let added = c.add_distances.ensures.sums i (omega arith) in
    let was = so_far.sums i below in
    let at : distance (value_at values i) v ≡ distance (value_at values i) (value_at values (slice_index b.chosen k)) =
    ap (distance (value_at values i)) last in
    omega (arith, added, was, at, total-chosen values i k b.chosen long) in
    record {
      choice = c.take_largest-in-loop-k.ensures ∙ begun-next values sums b k c.requires.many (omega arith) so_far.choice totals;
      sums = λ i below. totals i below ∙ ap (λ ks. 4 * total_distance values ks i)
          (sym (ap (λ (d : Begun). take (k + 1) d.chosen) c.take_largest-in-loop-k.ensures ∙ take-chosen (λ j. slice_index sums j) b (k + 1) long));
      bound = λ i below.
          let more = c.add_distances.ensures.bound i (omega arith) in
          let was = so_far.bound i below in
          omega arith;
    }
