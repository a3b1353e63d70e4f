use Rattle.std.proofs.Common.{◌≡◌, ◌<◌, ◌≤◌, ◌+◌, ℕ, List, [], ◌∷◌, ◌++◌, length, map, get_or, ap, sym, subst, ◌∙◌, arith, rules}
use Rattle.std.proofs.lemmas.List.{length-map}
use Rattle.pls_archive.specs.declared.point.Point.{Point}
use Rattle.pls_archive.specs.Lists.{Every}
use Rattle.nd_tree.specs.Seen.{Seen}
use Rattle.nd_tree.specs.Nodes.{seen}
use Rattle.nd_tree.specs.Insertion.{point_at}
use Rattle.nd_tree.proofs.Dividing.{IsDividing, dividing-goes_on, divided-often, length-group, every-at_places}
use Rattle.nd_tree.proofs.Inserting.{equal-parts}
use Rattle.nd_tree.proofs.node.insertion.divided.Goals as goal

pub give-requires-clause-room : goal.give-requires-clause-room
give-requires-clause-room c =
    let made = c.split-groups.ensures in
    let within : c.loop-g.g < length c.split-groups.result = search rules in
    let few = length-group c.args.leaf.now.points c.split-groups.result c.loop-g.g made within in
    let many = c.requires.many in
    let long = ap length c.group.ensures in
    let none = ap length c.take_leaf-part.ensures.points in
    let room = c.take_leaf-part.ensures.room in
    let same = c.loop-g.invariant.2 in
    let enough = c.requires.room in
    omega arith

pub range-requires-clause-parts : goal.range-requires-clause-parts
range-requires-clause-parts c =
    let points = c.args.leaf.now.points in
    let n = length (point_at points 0).value in
    let made = c.split-groups.ensures in
    let within : c.loop-g.g < length c.split-groups.result = search rules in
    let at : ℕ → Point = λ k. point_at points k in
    let is = c.give.ensures ∙ ap (λ ps. ps ++ map at c.group.result.now) c.take_leaf-part.ensures.points in
    let below = made.below c.loop-g.g [] within in
    let below' = subst (λ (ks : List ℕ). (k : ℕ) (d : ℕ) → k < length ks → get_or ks k d < length points) (sym c.group.ensures) below in
    let all = subst (λ (ps : List Point). Every (λ q. length q.value ≡ n) ps) (sym is) (every-at_places (λ (q : Point). length q.value ≡ n) points c.requires.parts c.group.result.now below') in
    let some = made.some c.loop-g.g [] within in
    let long = ap length c.group.ensures in
    let given = ap length is ∙ length-map c.group.result.now at in
    (equal-parts n c.give.new.to.points (omega arith) all).1

pub loop-g-preserved : goal.loop-g-preserved
unfolding seen
loop-g-preserved c =
    let points = c.args.leaf.now.points in
    let groups = c.split-groups.result in
    let g = c.loop-g.g in
    let made = c.split-groups.ensures in
    let within : g < length groups = search rules in
    let at : ℕ → Point = λ k. point_at points k in
    let is = c.give.ensures ∙ ap (λ ps. ps ++ map at c.group.result.now) c.take_leaf-part.ensures.points in
    let e = is ∙ ap (map at) c.group.ensures in
    let some = made.some g [] within in
    let few = length-group points groups g made within in
    let given = ap length e ∙ length-map (get_or groups g []) at in
    let s : Seen = record { points = c.give.new.to.points; below = 0; longest = length c.give.new.to.points } in
    let pushed : c.push_reserved-in-loop-g.new.self.items ≡ c.loop-g.children.items ++ s ∷ [] = c.push_reserved-in-loop-g.ensures.items in
    let next = dividing-goes_on points groups c.loop-g.boxes.items c.loop-g.children.items g c.loop-g.invariant.0 within c.range.result s e (omega arith) (omega arith) c.range.ensures in
    let taken = c.take_leaf-part.ensures.leaves in
    let before = c.loop-g.invariant.1 in
    let a = c.push_reserved.ensures.capacity in
    let b = c.push_reserved-in-loop-g.ensures.capacity in
    let a' = c.loop-g.invariant.3 in
    let b' = c.loop-g.invariant.4 in
    let m = c.push_reserved.ensures.len in
    let n = c.push_reserved-in-loop-g.ensures.len in
    let m' = c.loop-g.invariant.5 in
    let n' = c.loop-g.invariant.6 in (
      subst (λ bs. IsDividing points groups bs c.push_reserved-in-loop-g.new.self.items (g + 1)) (sym c.push_reserved.ensures.items)
          (subst (λ (xs : List Seen). IsDividing points groups (c.loop-g.boxes.items ++ c.range.result ∷ []) xs (g + 1)) (sym pushed) next),
      omega arith,
      c.take_leaf-part.ensures.same ∙ c.loop-g.invariant.2,
      omega arith,
      omega arith,
      omega arith,
      omega arith,
    )

pub returns-clause-points : goal.returns-clause-points
returns-clause-points c =
    let groups = c.split-groups.result in
    let past : length groups ≤ c.loop-g.g = search rules in
    divided-often c.args.leaf.now.points groups c.loop-g.boxes.items c.loop-g.children.items c.loop-g.g c.loop-g.invariant.0 past c.split-groups.ensures
