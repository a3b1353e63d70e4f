use Rattle.std.proofs.Common.{◌∷◌, [], ◌++◌, length, ap, sym, ◌∙◌, lit<, arith}
use Rattle.std.proofs.lemmas.List.FromFn.{length-range_with_len}
use Rattle.nd_tree.proofs.Totals.{places-more}
use Rattle.nd_tree.proofs.choice.all_places.Goals as goal

pub push-requires : goal.push-requires
push-requires c = (lit< tt, omega (arith, ap length c.loop-place.invariant, length-range_with_len 0 c.loop-place.place))

pub loop-place-preserved : goal.loop-place-preserved
loop-place-preserved c =
    c.push.ensures.items ∙ (ap (λ ks. ks ++ c.loop-place.place ∷ []) c.loop-place.invariant ∙ sym (places-more c.loop-place.place))
