use Rattle.std.proofs.Common.{◌≡◌, ◌≤◌, length, ap, sym, ◌∙◌, arith, rules}
use Rattle.nd_tree.proofs.Paired.{length-paired}
use Rattle.nd_tree.proofs.leaf.Leaf.remove_dominated.Goals as goal

pub returns-clause-count : goal.returns-clause-count
returns-clause-count c =
    let vs = c.self.inside.values.items in
    let long = sym (ap (λ l. length l.points) c.self.view_is) ∙ length-paired vs c.self.inside.sols.items c.self.invariant.0 in
    let short = length-paired c.drop_dominated.new.values.items c.drop_dominated.new.sols.items c.drop_dominated.ensures.lens in
    let before : c.len-before.result ≡ length vs = search rules in
    let after : c.len.result ≡ length c.drop_dominated.new.values.items = search rules in
    let fewer : c.len.result ≤ c.len-before.result = search rules in
    omega arith
