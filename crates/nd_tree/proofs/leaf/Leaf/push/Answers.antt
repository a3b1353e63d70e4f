use Rattle.std.proofs.Common.{◌≡◌, [], ◌∷◌, ◌++◌, length, ap, ◌∙◌, arith, rules}
use Rattle.std.specs.Prelude.{vec_len}
use Rattle.nd_tree.specs.Seen.{paired}
use Rattle.nd_tree.proofs.Paired.{length-paired, paired-append}
use Rattle.nd_tree.proofs.leaf.Leaf.push.Goals as goal

pub push_reserved-requires : goal.push_reserved-requires
push_reserved-requires c =
    let long = length-paired c.self.inside.values.items c.self.inside.sols.items c.self.invariant.0 in
    let points = ap (λ l. length l.points) c.self.view_is in
    let room = ap (λ l. l.room) c.self.view_is in
    let held = c.self.invariant.1 in
    let below = c.requires in
    let len : vec_len c.self.inside.values ≡ length c.self.inside.values.items = search rules in
    omega arith

pub push_reserved-requires-2 : goal.push_reserved-requires-2
push_reserved-requires-2 c =
    let long = length-paired c.self.inside.values.items c.self.inside.sols.items c.self.invariant.0 in
    let same = c.self.invariant.0 in
    let points = ap (λ l. length l.points) c.self.view_is in
    let room = ap (λ l. l.room) c.self.view_is in
    let held = c.self.invariant.2 in
    let below = c.requires in
    let len : vec_len c.self.inside.sols ≡ length c.self.inside.sols.items = search rules in
    omega arith

pub returns-clause-points : goal.returns-clause-points
returns-clause-points c =
    let vs = c.self.inside.values.items in
    let ss = c.self.inside.sols.items in
    ap (λ xs. paired xs c.push_reserved-2.new.self.items) c.push_reserved.ensures.items
    ∙ (ap (λ ys. paired (vs ++ c.args.point.now.value ∷ []) ys) c.push_reserved-2.ensures.items
    ∙ (paired-append vs (c.args.point.now.value ∷ []) ss (c.args.point.now.sol ∷ []) c.self.invariant.0
    ∙ ap (λ l. l.points ++ c.args.point.now ∷ []) c.self.view_is))
