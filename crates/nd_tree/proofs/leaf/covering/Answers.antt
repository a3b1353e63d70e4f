use Rattle.std.proofs.Common.{◌≡◌, ◌<◌, ℤ, true, List, length, get_or, sym, subst, ◌∙◌, rules}
use Rattle.std.proofs.lemmas.List.Folds.{list_any_at}
use Rattle.pls_vectors.specs.Dominance.{weakly_dominates}
use Rattle.pls_vectors.proofs.Dominance.{weakly_dominates-refl}
use Rattle.nd_tree.proofs.leaf.covering.Goals as goal

pub returns-then-covers : goal.returns-then-covers
returns-then-covers c =
    let u = c.index-values-k.result in
    let values = c.args.values.now in
    let below : c.loop-k.k < length values = search rules in
    let at : get_or values c.loop-k.k u ≡ u = search rules in (
      sym c.covers.ensures ∙ c.if-covers.true,
      list_any_at (λ w. weakly_dominates w u) values c.loop-k.k u below
          (subst (λ (w : List ℤ). weakly_dominates w u ≡ true) (sym at) (weakly_dominates-refl u)),
    )
