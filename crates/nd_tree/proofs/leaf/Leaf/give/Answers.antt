use Rattle.std.proofs.Common.{◌≡◌, ◌<◌, ℕ, List, ℤ, [], ◌∷◌, ◌++◌, length, map, take, get_or, ap, sym, ◌∙◌, arith, rules}
use Rattle.std.specs.Prelude.{vec_len, slice_index_or}
use Rattle.std.proofs.lemmas.List.{append_assoc}
use Rattle.pls_vectors.specs.Solution.{Solution, no_items}
use Rattle.pls_archive.specs.declared.point.Point.{Point}
use Rattle.nd_tree.specs.Insertion.{point_at}
use Rattle.nd_tree.proofs.Paired.{length-paired, get_or-paired, map-take}
use Rattle.nd_tree.proofs.leaf.Leaf.give.Goals as goal

pub index-value-requires : goal.index-value-requires
index-value-requires c =
    let vs = c.self.inside.values.items in
    let within : c.loop-i.i < length c.args.places.now = search rules in
    let below = c.requires.below c.loop-i.i 0 within in
    let long = length-paired vs c.self.inside.sols.items c.self.invariant.0 in
    let points = ap (λ l. length l.points) c.self.view_is in
    let len : vec_len c.self.inside.values ≡ length vs = search rules in
    omega arith

pub index-sol-requires : goal.index-sol-requires
index-sol-requires c =
    let vs = c.self.inside.values.items in
    let within : c.loop-i.i < length c.args.places.now = search rules in
    let below = c.requires.below c.loop-i.i 0 within in
    let long = length-paired vs c.self.inside.sols.items c.self.invariant.0 in
    let same = c.self.invariant.0 in
    let points = ap (λ l. length l.points) c.self.view_is in
    let len : vec_len c.self.inside.sols ≡ length c.self.inside.sols.items = search rules in
    omega arith

pub loop-i-preserved : goal.loop-i-preserved
loop-i-preserved c =
    let vs = c.self.inside.values.items in
    let ss = c.self.inside.sols.items in
    let places = c.args.places.now in
    let i = c.loop-i.i in
    let k = slice_index_or places i 0 in
    let points = c.args.self.now.points in
    let before = c.args.to.now.points in
    let v = c.index-value.result.now in
    let s = c.index-sol.result.now in
    let p : Point = record { value = v; sol = s } in
    let within : i < length places = search rules in
    let below = c.requires.below i 0 within in
    let long = length-paired vs ss c.self.invariant.0 in
    let lens = ap (λ l. length l.points) c.self.view_is in
    let inside : k < length vs = omega arith in
    let value : get_or vs k v ≡ v = search rules in
    let sol : get_or ss k s ≡ s = search rules in
    let d : Point = record { value = []; sol = no_items 0 } in
    let at : point_at points k ≡ p = sym (ap (λ l. point_at l.points k) c.self.view_is)
    ∙ (get_or-paired vs ss k d v s c.self.invariant.0 inside
    ∙ (ap (λ (x : List ℤ). let q : Point = record { value = x; sol = get_or ss k s } in q) value ∙ ap (λ (x : Solution). let q : Point = record { value = v; sol = x } in q) sol)) in
    let more = map-take (λ (j : ℕ). point_at points j) places i 0 within in
    let pushed : c.push.new.self.points ≡ c.loop-i.to.points ++ p ∷ [] = search rules in (
      pushed ∙ (ap (λ ps. ps ++ p ∷ []) c.loop-i.invariant.0
          ∙ (append_assoc before (map (λ (j : ℕ). point_at points j) (take i places)) (p ∷ [])
          ∙ (ap (λ q. before ++ (map (λ (j : ℕ). point_at points j) (take i places) ++ q ∷ [])) (sym at) ∙ ap (λ ps. before ++ ps) (sym more)))),
      c.push.ensures.room ∙ c.loop-i.invariant.1,
    )
