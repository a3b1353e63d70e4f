use Rattle.std.proofs.Common.{ℤ, List, ap, subst}
use Rattle.std.specs.List.{list_any}
use Rattle.pls_vectors.specs.Dominance.{weakly_dominates}
use Rattle.pls_archive.specs.declared.point.Point.{Point}
use Rattle.pls_archive.specs.Reply.{some_weakly_dominates}
use Rattle.nd_tree.specs.Questions.{IsCover}
use Rattle.nd_tree.proofs.Paired.{IsCover-paired}
use Rattle.nd_tree.proofs.leaf.Leaf.covering.Goals as goal

pub returns : goal.returns
returns c =
    let v = c.args.value.now in
    let found = c.covering.result in
    subst (λ (ps : List Point). IsCover (some_weakly_dominates ps) v found) (ap (λ l. l.points) c.self.view_is)
    (IsCover-paired c.self.inside.values.items c.self.inside.sols.items c.self.invariant.0 v found
    (subst (λ (vs : List (List ℤ)). IsCover (λ u. list_any (λ w. weakly_dominates w u) vs) v found) c.deref.ensures.value c.covering.ensures))
