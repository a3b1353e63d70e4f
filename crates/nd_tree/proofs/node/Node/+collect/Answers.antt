use Rattle.std.proofs.Common.{◌≡◌, ◌<◌, ◌≤◌, ◌++◌, length, take, get_or, ap, sym, subst, ◌∙◌, rules, OnOk}
use Rattle.std.proofs.lemmas.List.{append_assoc, take_all}
use Rattle.nd_tree.specs.Seen.{Seen, all_points}
use Rattle.nd_tree.specs.Nodes.{seen}
use Rattle.nd_tree.proofs.Siblings.{all_points-more}
use Rattle.nd_tree.proofs.node.Node.+collect.Goals as goal

pub loop-k-preserved : goal.loop-k-preserved
loop-k-preserved t c =
    let nodes = c.in-Inner.children.items in
    let k = c.loop-k.k in
    let s = c.index.result.now in
    let before = c.args.points.now.items in
    let below : k < length nodes = search rules in
    let at : get_or nodes k s ≡ s = search rules in
    c.in_ok-collect-in-Inner.ensures
    ∙ (ap (λ ps. ps ++ s.points) c.loop-k.invariant
    ∙ (append_assoc before (all_points (take k nodes)) s.points ∙ ap (λ ps. before ++ ps) (sym (all_points-more nodes k s below at))))

pub returns-in-Leaf : goal.returns-in-Leaf
unfolding seen
returns-in-Leaf t c =
    let is = sym c.self.view_is ∙ ap seen c.in-Leaf.is in
    subst (λ (s : Seen). OnOk c.collect.result (c.collect.new.points.items ≡ c.args.points.now.items ++ s.points)) (sym is) c.collect.ensures

pub returns-after-loop-k : goal.returns-after-loop-k
unfolding seen
returns-after-loop-k t c =
    let is = sym c.self.view_is ∙ ap seen c.in-Inner.is in
    let past : length c.in-Inner.children.items ≤ c.loop-k.k = search rules in
    c.loop-k.invariant
    ∙ ap (λ ps. c.args.points.now.items ++ ps) (ap all_points (take_all c.loop-k.k c.in-Inner.children.items past) ∙ sym (ap (λ (s : Seen). s.points) is))
