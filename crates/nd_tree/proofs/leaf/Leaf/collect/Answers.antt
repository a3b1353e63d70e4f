use Rattle.std.proofs.Common.{◌≡◌, ◌+◌, ◌<◌, ◌≤◌, List, [], ◌∷◌, ◌++◌, length, take, get_or, ap, sym, subst, ◌∙◌, arith, rules}
use Rattle.std.proofs.lemmas.List.{append_assoc, take_all}
use Rattle.pls_archive.specs.declared.point.Point.{Point}
use Rattle.nd_tree.proofs.Paired.{length-paired, take-paired}
use Rattle.nd_tree.proofs.leaf.Leaf.collect.Goals as goal

pub loop-k-preserved : goal.loop-k-preserved
loop-k-preserved c =
    let k = c.loop-k.k in
    let vs = c.self.inside.values.items in
    let ss = c.self.inside.sols.items in
    let p : Point = record { value = c.index-value.result.now; sol = c.index-sol.result.now } in
    let below : k < length vs = search rules in
    let value : get_or vs k p.value ≡ p.value = search rules in
    let sol : get_or ss k p.sol ≡ p.sol = search rules in
    let more = subst (λ (ps : List Point). take (k + 1) ps ≡ take k ps ++ p ∷ []) (ap (λ l. l.points) c.self.view_is)
    (take-paired vs ss k p.value p.sol c.self.invariant.0 below value sol) in
    let pushed : c.push.new.self.items ≡ c.loop-k.points.items ++ p ∷ [] = search rules in
    pushed
    ∙ (ap (λ ps. ps ++ p ∷ []) c.loop-k.invariant
    ∙ (append_assoc c.args.points.now.items (take k c.args.self.now.points) (p ∷ []) ∙ ap (λ ps. c.args.points.now.items ++ ps) (sym more)))

pub returns : goal.returns
returns c =
    let vs = c.self.inside.values.items in
    let long = sym (ap (λ l. length l.points) c.self.view_is) ∙ length-paired vs c.self.inside.sols.items c.self.invariant.0 in
    let past : length vs ≤ c.loop-k.k = search rules in
    c.loop-k.invariant ∙ ap (λ ps. c.args.points.now.items ++ ps) (take_all c.loop-k.k c.args.self.now.points (omega arith))
