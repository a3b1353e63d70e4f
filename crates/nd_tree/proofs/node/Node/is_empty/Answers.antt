use Rattle.std.proofs.Common.{◌≡◌, ◌<◌, length, ap, sym, subst, ◌∙◌, arith}
use Rattle.std.proofs.lemmas.Bool.Decides.{nat_tests}
use Rattle.nd_tree.specs.Seen.{Seen, AreChildren}
use Rattle.nd_tree.specs.Nodes.{seen, IsFormed}
use Rattle.nd_tree.proofs.Siblings.{occupied-all, no_length}
use Rattle.nd_tree.proofs.node.Node.is_empty.Goals as goal

pub returns-in-Leaf-clause-empty : goal.returns-in-Leaf-clause-empty
unfolding seen
returns-in-Leaf-clause-empty c none =
    let is = ap (λ (s : Seen). s.points) (sym c.self.view_is ∙ ap seen c.in-Leaf.is) in
    let zero : c.len.result ≡ 0 = grind (arith, nat_tests) in
    is ∙ no_length c.in-Leaf.leaf.points (sym c.len.ensures ∙ zero)

pub returns-in-Leaf-clause-occupied : goal.returns-in-Leaf-clause-occupied
unfolding seen
returns-in-Leaf-clause-occupied c some =
    let is = ap (λ (s : Seen). length s.points) (sym c.self.view_is ∙ ap seen c.in-Leaf.is) in
    let long = c.len.ensures in
    let positive : 0 < c.len.result = grind (arith, nat_tests) in
    omega arith

pub returns-in-Inner-clause-occupied : goal.returns-in-Inner-clause-occupied
unfolding seen
returns-in-Inner-clause-occupied c some =
    let is = sym c.self.view_is ∙ ap seen c.in-Inner.is in
    let formed : AreChildren c.in-Inner.field-0.items c.in-Inner.field-1.items = subst IsFormed c.in-Inner.is c.self.invariant in
    subst (λ (s : Seen). 0 < length s.points) (sym is) (occupied-all c.in-Inner.field-0.items c.in-Inner.field-1.items formed)
