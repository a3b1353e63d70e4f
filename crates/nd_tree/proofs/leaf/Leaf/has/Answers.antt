use Rattle.std.proofs.Common.{◌&&◌, ℤ, Bool, List, ap, sym, ◌∙◌}
use Rattle.std.specs.List.{list_any}
use Rattle.pls_vectors.specs.Dominance.{weakly_dominates}
use Rattle.pls_archive.specs.Reply.{has_value}
use Rattle.nd_tree.proofs.Paired.{list_any-paired}
use Rattle.nd_tree.proofs.leaf.Leaf.has.Goals as goal

pub returns : goal.returns
returns c =
    let v = c.args.value.now in
    let same : List ℤ → Bool = λ w. weakly_dominates w v && weakly_dominates v w in
    c.has.ensures ∙ (ap (λ ws. list_any same ws) c.deref.ensures.value
    ∙ (sym (list_any-paired same c.self.inside.values.items c.self.inside.sols.items c.self.invariant.0) ∙ ap (λ l. has_value l.points v) c.self.view_is))
