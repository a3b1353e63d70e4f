use Rattle.std.proofs.Common.{◌≡◌, ◌<◌, ◌≤◌, List, length, take, get_or, min, ap, sym, ◌∙◌, arith, rules}
use Rattle.std.proofs.lemmas.List.{length-append, take_all}
use Rattle.nd_tree.specs.Seen.{Seen, all_points}
use Rattle.nd_tree.specs.Nodes.{seen}
use Rattle.nd_tree.proofs.Siblings.{all_points-more}
use Rattle.nd_tree.proofs.node.Node.+count.Goals as goal

pub loop-k-preserved : goal.loop-k-preserved
loop-k-preserved t c =
    let nodes = c.in-Inner.children.items in
    let k = c.loop-k.k in
    let s = c.index.result.now in
    let below : k < length nodes = search rules in
    let at : get_or nodes k s ≡ s = search rules in
    let longer = ap length (all_points-more nodes k s below at) ∙ length-append (all_points (take k nodes)) s.points in
    let sum = c.saturating_add-sum.ensures in
    let here = c.count.ensures in
    let before = c.loop-k.invariant in
    omega arith

pub returns-in-Leaf : goal.returns-in-Leaf
unfolding seen
returns-in-Leaf t c =
    let is = ap (λ (s : Seen). length s.points) (sym c.self.view_is ∙ ap seen c.in-Leaf.is) in
    let here = c.len.ensures in
    let bound : c.len.result ≤ 18446744073709551615 = search rules in
    omega arith

pub returns-after-loop-k : goal.returns-after-loop-k
unfolding seen
returns-after-loop-k t c =
    let nodes = c.in-Inner.children.items in
    let is = ap (λ (s : Seen). length s.points) (sym c.self.view_is ∙ ap seen c.in-Inner.is) in
    let past : length nodes ≤ c.loop-k.k = search rules in
    c.loop-k.invariant ∙ ap (λ n. min n 18446744073709551615) (ap (λ (xs : List Seen). length (all_points xs)) (take_all c.loop-k.k nodes past) ∙ sym is)
