use Rattle.std.proofs.Common.{◌≡◌, ◌<◌, ℕ, List, [], length, slice_index, ap, sym, ◌∙◌, arith}
use Rattle.std.specs.List.{concat}
use Rattle.std.proofs.lemmas.List.{length-map, get_or_read}
use Rattle.nd_tree.specs.Closest.{closest}
use Rattle.nd_tree.specs.Split.{lists_in, value_at}
use Rattle.nd_tree.proofs.Joining.{closest-below, length-concat-changed, joined-next, joined-none}
use Rattle.nd_tree.proofs.Parts.{uniform-at}
use Rattle.nd_tree.proofs.groups.join_all.Goals as goal

pub loop-place-preserved : goal.loop-place-preserved
loop-place-preserved c =
    let values = c.args.values.now in
    let left = c.args.left.now in
    let i = c.loop-place.place-index in
    let place = slice_index left i in
    let v = c.index-values-place.result in
    let lists = c.loop-place.lists in
    let boxes = c.loop-place.boxes in
    let so_far = c.loop-place.invariant in
    let auto = c.loop-place.auto in
    let ens = c.join_closest.ensures in
    let within : place < length values = c.requires.below i 0 c.loop-place-test.true in
    let is : v ≡ value_at values place = get_or_read values place v within c.index-values-place.is [] in
    let some : 0 < length boxes = omega (arith, auto.boxes, c.requires.boxes, c.requires.some) in
    let below : closest boxes v < length (lists_in lists) =
    omega (arith, closest-below boxes v some, length-map lists (λ list. list.items), auto.lists, auto.boxes, c.requires.boxes) in
    record {
      lists = joined-next values (lists_in lists) (lists_in c.join_closest.new.lists) boxes c.join_closest.new.boxes left i v
          c.loop-place-test.true is ens.lists ens.boxes
          ∙ so_far.lists;
      box_parts = λ k d less. ens.parts k d less ∙ uniform-at values place v c.requires.parts within c.index-values-place.is;
      many = omega (
        arith,
        ap (λ (ls : List (List ℕ)). length (concat ls)) ens.lists,
        length-concat-changed (closest boxes v) place (lists_in lists) below,
        so_far.many,
      );
    }

pub returns : goal.returns
returns c =
    sym (joined-none c.args.values.now (lists_in c.loop-place.lists) c.loop-place.boxes c.args.left.now c.loop-place.place-index c.loop-place-test.false)
    ∙ c.loop-place.invariant.lists
