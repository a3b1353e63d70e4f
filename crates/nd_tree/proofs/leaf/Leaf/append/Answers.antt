use Rattle.std.proofs.Common.{◌≡◌, List, ℤ, ◌++◌, length, ap, ◌∙◌, arith, rules}
use Rattle.std.specs.Prelude.{vec_len}
use Rattle.pls_vectors.specs.Solution.{Solution}
use Rattle.nd_tree.specs.Seen.{paired}
use Rattle.nd_tree.proofs.Paired.{length-paired, paired-append}
use Rattle.nd_tree.proofs.leaf.Leaf.append.Goals as goal

pub unreachable-requires : goal.unreachable-requires
unreachable-requires c =
    let own = length-paired c.self.inside.values.items c.self.inside.sols.items c.self.invariant.0 in
    let others = length-paired c.other.inside.values.items c.other.inside.sols.items c.other.invariant.0 in
    let points = ap (λ l. length l.points) c.self.view_is in
    let room = ap (λ l. l.room) c.self.view_is in
    let points' = ap (λ l. length l.points) c.other.view_is in
    let held = c.self.invariant.1 in
    let enough = c.requires in
    let len : vec_len c.self.inside.values ≡ length c.self.inside.values.items = search rules in
    let len' : vec_len c.other.inside.values ≡ length c.other.inside.values.items = search rules in
    let full = c.in-Err.ensures.full in
    omega arith

pub unreachable-requires-in-Err-append : goal.unreachable-requires-in-Err-append
unreachable-requires-in-Err-append c =
    let own = length-paired c.self.inside.values.items c.self.inside.sols.items c.self.invariant.0 in
    let others = length-paired c.other.inside.values.items c.other.inside.sols.items c.other.invariant.0 in
    let same = c.self.invariant.0 in
    let same' = c.other.invariant.0 in
    let points = ap (λ l. length l.points) c.self.view_is in
    let room = ap (λ l. l.room) c.self.view_is in
    let points' = ap (λ l. length l.points) c.other.view_is in
    let held = c.self.invariant.2 in
    let enough = c.requires in
    let len : vec_len c.self.inside.sols ≡ length c.self.inside.sols.items = search rules in
    let len' : vec_len c.other.inside.sols ≡ length c.other.inside.sols.items = search rules in
    let full = c.in-Err-append.ensures.full in
    omega arith

pub returns-clause-points : goal.returns-clause-points
returns-clause-points c =
    let vs = c.self.inside.values.items in
    let ws = c.other.inside.values.items in
    ap (λ (xs : List (List ℤ)). paired xs c.append-2.new.self.items) c.in-Ok.ensures.items
    ∙ (ap (λ (ys : List Solution). paired (vs ++ ws) ys) c.in-Ok-append.ensures.items
    ∙ (paired-append vs ws c.self.inside.sols.items c.other.inside.sols.items c.self.invariant.0
    ∙ (ap (λ l. l.points ++ paired ws c.other.inside.sols.items) c.self.view_is ∙ ap (λ l. c.args.self.now.points ++ l.points) c.other.view_is)))
