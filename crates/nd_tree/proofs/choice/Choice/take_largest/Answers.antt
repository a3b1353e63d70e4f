use Rattle.std.proofs.Common.{ℕ, slice_index, ap, ◌∙◌, length, ◌<◌, arith}
use Rattle.nd_tree.specs.Split.{largest}
use Rattle.nd_tree.proofs.Chosen.{with_largest-taken}
use Rattle.nd_tree.proofs.choice.Choice.take_largest.Goals as goal

pub returns : goal.returns
returns c =
    let number : ℕ → ℕ = λ k. slice_index c.args.sums.now k in
    let left = c.self.inside.left.items in
    let within : c.largest-at.result < length left = omega (arith, c.largest-at.ensures.bound, ap length c.as_slice.ensures.value) in
    with_largest-taken number c.args.self.now c.self.inside.chosen.items left c.push.new.self.items c.remove-place.new.self.items
    c.largest-at.result c.remove-place.result c.self.view_is
    (c.largest-at.ensures.value ∙ ap (largest number) c.as_slice.ensures.value) within c.remove-place.ensures.value
    c.push.ensures.items c.remove-place.ensures.items
