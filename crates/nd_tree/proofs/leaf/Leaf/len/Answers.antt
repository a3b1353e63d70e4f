use Rattle.std.proofs.Common.{◌≡◌, length, ap, sym, ◌∙◌, rules}
use Rattle.nd_tree.proofs.Paired.{length-paired}
use Rattle.nd_tree.proofs.leaf.Leaf.len.Goals as goal

pub returns : goal.returns
returns c =
    let long : c.len.result ≡ length c.self.inside.values.items = search rules in
    long
    ∙ (sym (length-paired c.self.inside.values.items c.self.inside.sols.items c.self.invariant.0) ∙ ap (λ l. length l.points) c.self.view_is)
