use Rattle.std.proofs.Common.{◌+◌, ◌<◌, ℕ, List, ℤ, length, ap, sym, subst, ◌∙◌}
use Rattle.std.specs.Prelude.{All}
use Rattle.std.specs.List.{concat}
use Rattle.std.specs.List.Sorted.{IsPermutation}
use Rattle.pls_archive.specs.declared.point.Point.{Point}
use Rattle.nd_tree.specs.Split.{value_at, AreUniform, places}
use Rattle.nd_tree.specs.Insertion.{point_at, HaveEqualParts, AreGroups}
use Rattle.nd_tree.proofs.Paired.{length-paired, first-paired, uniform-paired}
use Rattle.nd_tree.proofs.leaf.Leaf.split.Goals as goal

pub split-requires-clause-many : goal.split-requires-clause-many
split-requires-clause-many c =
    ap length c.deref.ensures.value
    ∙ (sym (length-paired c.self.inside.values.items c.self.inside.sols.items c.self.invariant.0)
    ∙ (ap (λ l. length l.points) c.self.view_is ∙ c.requires.many))

pub split-requires-clause-parts : goal.split-requires-clause-parts
split-requires-clause-parts c =
    subst (λ (vs : List (List ℤ)). AreUniform vs) (sym c.deref.ensures.value)
    (uniform-paired c.self.inside.values.items c.self.inside.sols.items c.self.invariant.0
    (subst (λ (ps : List Point). HaveEqualParts ps) (ap (λ l. l.points) (sym c.self.view_is)) c.requires.parts))

pub returns : goal.returns
returns c =
    let groups = c.split.result in
    let first = ap (λ (vs : List (List ℤ)). length (value_at vs 0)) c.deref.ensures.value
    ∙ (ap length (first-paired c.self.inside.values.items c.self.inside.sols.items c.self.invariant.0)
    ∙ ap (λ l. length (point_at l.points 0).value) c.self.view_is) in
    let is : AreGroups c.args.self.now.points groups = record {
      count = c.split.ensures.count ∙ ap (λ (n : ℕ). n + 1) first;
      some = c.split.ensures.some;
      below = subst (λ (n : ℕ). All (λ group. All (λ place. place < n) group) groups) (sym c.requires.many) c.split.ensures.below;
      once = subst (λ (n : ℕ). IsPermutation (places n) (concat groups)) (sym c.requires.many) c.split.ensures.once;
    } in
    is
