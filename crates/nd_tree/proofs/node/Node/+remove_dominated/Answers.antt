use Rattle.std.proofs.Common.{◌≡◌, ◌<◌, ◌≤◌, ◌+◌, length, filter, min, set, get_or, ap, sym, subst, ◌∙◌, arith, rules}
use Rattle.std.specs.Prelude.{vec_len}
use Rattle.std.proofs.lemmas.List.{get_or_default}
use Rattle.pls_archive.specs.Lists.{how_many}
use Rattle.nd_tree.specs.Seen.{Seen, Encloses}
use Rattle.nd_tree.specs.Nodes.{seen}
use Rattle.nd_tree.proofs.Removing.{IsRemoving, spared, dominated, dominated-spared, removing-stays, removing-changes, removing-same, removing-ends, spared-none, dominated-all, only_child}
use Rattle.nd_tree.proofs.Siblings.{enclosed-length, enclosed-both}
use Rattle.nd_tree.proofs.node.Node.+remove_dominated.Goals as goal
use Rattle.nd_tree.proofs.node.Node.+remove_dominated.Goals.{in-Stays, in-Falls, in-Unknown, in-Leaf-1, in-Inner-1}

pub index-requires : goal.index-requires
index-requires t c =
    let is = c.loop-k.invariant.1 in
    let same = enclosed-length c.in-Inner.boxes.items c.loop-k.children.items is.enclosed in
    let lens = is.lens in
    let below : c.loop-k.k < length c.in-Inner.children.items = search rules in
    let long : length c.in-Inner.boxes.items ≡ vec_len c.in-Inner.boxes = search rules in
    omega arith

pub loop-k-preserved : goal.loop-k-preserved
loop-k-preserved t c =
    let nodes = c.loop-k.children.items in
    let k = c.loop-k.k in
    let v = c.args.value.now in
    let boxes = c.in-Inner.boxes.items in
    let before = c.in-Inner.children.items in
    let is = c.loop-k.invariant.1 in
    let below : k < length nodes = let lens = is.lens in let before-end : k < length before = search rules in omega arith in
    let inside : (s : Seen) → s ≡ get_or nodes k s → Encloses c.index.result.now s.points =
    enclosed-both boxes nodes is.enclosed k below c.index.result.now c.index.ensures in
    let same = removing-same v boxes before in
    let goes_on : IsRemoving v boxes before c.match-fate_of.children.items (k + 1) c.match-fate_of.removed = elim c.match-fate_of.branch [
      | in-Stays w ↦
          let s = get_or nodes k c.args.self.now in
          let at = get_or_default nodes k c.args.self.now s below in
          same nodes c.match-fate_of.children.items (k + 1) c.loop-k.removed c.match-fate_of.removed (ap (λ x. x.items) w.children-is) w.removed-is
          (removing-stays v boxes before nodes k c.loop-k.removed is below s at (w.in-Stays.ensures s.points (inside s at)))
      | in-Falls w ↦
          let s = w.index-in-Falls.result.now in
          let at = w.index-in-Falls.ensures in
          let all = w.in-Falls.ensures s.points (inside s at) in
          let new = w.clear.new.self in
          let short = w.clear.ensures.longest in
          same (set nodes k new) c.match-fate_of.children.items (k + 1) w.saturating_add-removed.result c.match-fate_of.removed (ap (λ x. x.items) w.children-is) w.removed-is
          (removing-changes v boxes before nodes k c.loop-k.removed is below s at new w.count.result w.saturating_add-removed.result
          (w.clear.ensures.points ∙ sym (spared-none v s.points all)) (omega arith)
          (w.count.ensures ∙ ap (λ n. min n 18446744073709551615) (sym (dominated-all v s.points all))) w.saturating_add-removed.ensures)
      | in-Unknown w ↦
          let s = w.index_mut-in-Unknown.result.now in
          let new = w.remove_dominated-in-Unknown.new.self in
          let left = w.remove_dominated-in-Unknown.ensures in
          same (set nodes k new) c.match-fate_of.children.items (k + 1) w.saturating_add-removed-in-Unknown.result c.match-fate_of.removed
          (ap (λ x. x.items) w.children-is) w.removed-is
          (removing-changes v boxes before nodes k c.loop-k.removed is below s w.index_mut-in-Unknown.ensures.value new
          w.remove_dominated-in-Unknown.result w.saturating_add-removed-in-Unknown.result left.points left.longest left.count w.saturating_add-removed-in-Unknown.ensures)
    ] in
    ((goes_on.lens, λ j d past. goes_on.rest j past d), goes_on)

pub returns-in-Leaf-clause-points : goal.returns-in-Leaf-clause-points
unfolding seen
returns-in-Leaf-clause-points t c =
    let is = sym c.self.view_is ∙ ap seen c.in-Leaf.is in
    c.remove_dominated.ensures.points ∙ ap (λ (s : Seen). filter (spared c.args.value.now) s.points) (sym is)

pub returns-in-Leaf-clause-count : goal.returns-in-Leaf-clause-count
unfolding seen
returns-in-Leaf-clause-count t c =
    let is = sym c.self.view_is ∙ ap seen c.in-Leaf.is in
    let parts = subst (λ (s : Seen). how_many (dominated c.args.value.now) s.points + length (filter (spared c.args.value.now) s.points) ≡ length s.points)
    (sym is) (dominated-spared c.args.value.now c.in-Leaf.leaf.points) in
    let long = ap (λ (s : Seen). length s.points) is in
    let left = ap length (c.remove_dominated.ensures.points ∙ ap (λ (s : Seen). filter (spared c.args.value.now) s.points) (sym is)) in
    let gone = c.remove_dominated.ensures.count in
    let bound : c.remove_dominated.result ≤ 18446744073709551615 = search rules in
    omega arith

pub returns-in-Leaf-clause-longest : goal.returns-in-Leaf-clause-longest
unfolding seen
returns-in-Leaf-clause-longest t c =
    let long = ap (λ (s : Seen). s.longest) (sym c.self.view_is ∙ ap seen c.in-Leaf.is) in
    let gone = c.remove_dominated.ensures.count in
    omega arith

pub returns-in-Some-clause-points : goal.returns-in-Some-clause-points
unfolding seen
returns-in-Some-clause-points t c =
    let is = sym c.self.view_is ∙ ap seen c.in-Inner.is in
    let one : length c.drop_empty.new.children.items ≡ 1 = search rules in
    let past : length c.loop-k.children.items ≤ c.loop-k.k = let lens = c.loop-k.invariant.1.lens in let all : length c.in-Inner.children.items ≤ c.loop-k.k = search rules in omega arith in
    let ends = removing-ends c.args.value.now c.in-Inner.boxes.items c.in-Inner.children.items c.loop-k.children.items c.loop-k.k c.loop-k.removed c.loop-k.invariant.1 past in
    let only = only_child c.drop_empty.new.children.items c.pop.new.self.items c.in-Some.only c.in-Some.ensures.items one in
    let same : c.match-self-only.self ≡ c.in-Some.only = elim c.match-self-only.branch [ in-Leaf-1 w ↦ w.self-is ∙ c.only.view_is | in-Inner-1 w ↦ w.self-is ∙ c.only.view_is ] in
    ap (λ (s : Seen). s.points) same
    ∙ (sym only.0 ∙ (c.drop_empty.ensures.points ∙ (ends.0 ∙ ap (λ (s : Seen). filter (spared c.args.value.now) s.points) (sym is))))

pub returns-in-Some-clause-count : goal.returns-in-Some-clause-count
unfolding seen
returns-in-Some-clause-count t c =
    let is = sym c.self.view_is ∙ ap seen c.in-Inner.is in
    let past : length c.loop-k.children.items ≤ c.loop-k.k = let lens = c.loop-k.invariant.1.lens in let all : length c.in-Inner.children.items ≤ c.loop-k.k = search rules in omega arith in
    let ends = removing-ends c.args.value.now c.in-Inner.boxes.items c.in-Inner.children.items c.loop-k.children.items c.loop-k.k c.loop-k.removed c.loop-k.invariant.1 past in
    ends.1 ∙ ap (λ (s : Seen). min (how_many (dominated c.args.value.now) s.points) 18446744073709551615) (sym is)

pub returns-in-Some-clause-longest : goal.returns-in-Some-clause-longest
unfolding seen
returns-in-Some-clause-longest t c =
    let is = ap (λ (s : Seen). s.longest) (sym c.self.view_is ∙ ap seen c.in-Inner.is) in
    let one : length c.drop_empty.new.children.items ≡ 1 = search rules in
    let only = (only_child c.drop_empty.new.children.items c.pop.new.self.items c.in-Some.only c.in-Some.ensures.items one).1 in
    let shorter = c.loop-k.invariant.1.shorter in
    let dropped = c.drop_empty.ensures.longest in
    let same : c.match-self-only.self ≡ c.in-Some.only = elim c.match-self-only.branch [ in-Leaf-1 w ↦ w.self-is ∙ c.only.view_is | in-Inner-1 w ↦ w.self-is ∙ c.only.view_is ] in
    let same' = ap (λ (s : Seen). s.longest) same in
    omega arith

pub returns-else-len-eq1-clause-points : goal.returns-else-len-eq1-clause-points
unfolding seen
returns-else-len-eq1-clause-points t c =
    let is = sym c.self.view_is ∙ ap seen c.in-Inner.is in
    let past : length c.loop-k.children.items ≤ c.loop-k.k = let lens = c.loop-k.invariant.1.lens in let all : length c.in-Inner.children.items ≤ c.loop-k.k = search rules in omega arith in
    let ends = removing-ends c.args.value.now c.in-Inner.boxes.items c.in-Inner.children.items c.loop-k.children.items c.loop-k.k c.loop-k.removed c.loop-k.invariant.1 past in
    c.drop_empty.ensures.points ∙ (ends.0 ∙ ap (λ (s : Seen). filter (spared c.args.value.now) s.points) (sym is))

pub returns-else-len-eq1-clause-count : goal.returns-else-len-eq1-clause-count
unfolding seen
returns-else-len-eq1-clause-count t c =
    let is = sym c.self.view_is ∙ ap seen c.in-Inner.is in
    let past : length c.loop-k.children.items ≤ c.loop-k.k = let lens = c.loop-k.invariant.1.lens in let all : length c.in-Inner.children.items ≤ c.loop-k.k = search rules in omega arith in
    let ends = removing-ends c.args.value.now c.in-Inner.boxes.items c.in-Inner.children.items c.loop-k.children.items c.loop-k.k c.loop-k.removed c.loop-k.invariant.1 past in
    ends.1 ∙ ap (λ (s : Seen). min (how_many (dominated c.args.value.now) s.points) 18446744073709551615) (sym is)

pub returns-else-len-eq1-clause-longest : goal.returns-else-len-eq1-clause-longest
unfolding seen
returns-else-len-eq1-clause-longest t c =
    let is = ap (λ (s : Seen). s.longest) (sym c.self.view_is ∙ ap seen c.in-Inner.is) in
    let shorter = c.loop-k.invariant.1.shorter in
    let dropped = c.drop_empty.ensures.longest in
    omega arith
