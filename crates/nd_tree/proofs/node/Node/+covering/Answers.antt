use Rattle.std.proofs.Common.{◌≡◌, ◌<◌, ◌≤◌, ℕ, true, false, length, get_or, ap, sym, subst, ◌∙◌, arith, rules}
use Rattle.std.specs.Prelude.{IsTrue, IsFalse, vec_len}
use Rattle.pls_vectors.specs.Dominance.{weakly_dominates}
use Rattle.pls_archive.specs.Reply.{some_weakly_dominates}
use Rattle.nd_tree.specs.Seen.{Seen, AreChildren}
use Rattle.nd_tree.specs.Nodes.{seen, IsFormed}
use Rattle.nd_tree.specs.Questions.{IsCover, in_turn}
use Rattle.nd_tree.proofs.Siblings.{each_in_turn, up_to, none_below, some_below, enclosed-length, enclosed-here, occupied-here, same_below}
use Rattle.nd_tree.proofs.node.Node.+covering.Goals as goal
use Rattle.nd_tree.proofs.node.Node.+covering.Goals.{in-NotCovered, in-Unknown+in-None}

pub index-requires : goal.index-requires
index-requires t c =
    let formed : AreChildren c.in-Inner.boxes.items c.in-Inner.children.items = subst IsFormed c.in-Inner.is c.self.invariant in
    let same = enclosed-length c.in-Inner.boxes.items c.in-Inner.children.items formed.enclosed in
    let below : c.in_turn-k.result < length c.in-Inner.children.items = c.in_turn-k.ensures.bound (length c.in-Inner.children.items) (search rules) (search rules) in
    let long : length c.in-Inner.boxes.items ≡ vec_len c.in-Inner.boxes = search rules in
    omega arith

pub returns-in-Covered : goal.returns-in-Covered
unfolding seen
returns-in-Covered t c =
    let nodes = c.in-Inner.children.items in
    let formed : AreChildren c.in-Inner.boxes.items nodes = subst IsFormed c.in-Inner.is c.self.invariant in
    let k = c.in_turn-k.result in
    let w = c.in-Covered.nadir in
    let below : k < length nodes = c.in_turn-k.ensures.bound (length nodes) (search rules) (search rules) in
    let told = c.in-Covered.ensures (get_or nodes k c.args.self.now).points
    (enclosed-here c.in-Inner.boxes.items nodes formed k below c.args.self.now c.index.result.now c.index.ensures)
    (occupied-here c.in-Inner.boxes.items nodes formed k below c.args.self.now) in
    let is = sym c.self.view_is ∙ ap seen c.in-Inner.is in (
      told.0,
      subst (λ (s : Seen). IsTrue (some_weakly_dominates s.points w)) (sym is)
          (some_below (λ p. weakly_dominates p.value w) nodes k c.args.self.now below told.1),
    )

pub returns-in-Some : goal.returns-in-Some
unfolding seen
returns-in-Some t c =
    let nodes = c.in-Inner.children.items in
    let k = c.in_turn-k.result in
    let w = c.in-Some.w in
    let below : k < length nodes = c.in_turn-k.ensures.bound (length nodes) (search rules) (search rules) in
    let found = c.in-Some.ensures in
    let is = sym c.self.view_is ∙ ap seen c.in-Inner.is in (
      found.0,
      subst (λ (s : Seen). IsTrue (some_weakly_dominates s.points w)) (sym is)
          (some_below (λ p. weakly_dominates p.value w) nodes k c.args.self.now below
          (same_below (λ p. weakly_dominates p.value w) nodes k c.index-in-Unknown.result.now c.args.self.now true below c.index-in-Unknown.ensures found.1)),
    )

pub loop-i-preserved : goal.loop-i-preserved
loop-i-preserved t c =
    let nodes = c.in-Inner.children.items in
    let formed : AreChildren c.in-Inner.boxes.items nodes = subst IsFormed c.in-Inner.is c.self.invariant in
    let k = c.in_turn-k.result in
    let v = c.args.value.now in
    let below : k < length nodes = c.in_turn-k.ensures.bound (length nodes) (search rules) (search rules) in
    let here : (d : Seen) → IsFalse (some_weakly_dominates (get_or nodes k d).points v) = λ d. elim c.match-ask.branch [
      | in-NotCovered w ↦
          w.in-NotCovered.ensures (get_or nodes k d).points
          (enclosed-here c.in-Inner.boxes.items nodes formed k below d c.index.result.now c.index.ensures)
          (occupied-here c.in-Inner.boxes.items nodes formed k below d)
      | in-Unknown+in-None w ↦
          same_below (λ p. weakly_dominates p.value v) nodes k w.index-in-Unknown.result.now d false below w.index-in-Unknown.ensures w.in-None.ensures
    ] in
    let last = subst (λ (m : ℕ). (d : Seen) → IsFalse (some_weakly_dominates (get_or nodes m d).points v)) c.in_turn-k.ensures.value here in
    up_to c.loop-i.i (λ j. (d : Seen) → IsFalse (some_weakly_dominates (get_or nodes (in_turn c.among-first.result j) d).points v)) c.loop-i.invariant last

pub returns-in-Leaf : goal.returns-in-Leaf
unfolding seen
returns-in-Leaf t c =
    let is = sym c.self.view_is ∙ ap seen c.in-Leaf.is in
    subst (λ (s : Seen). IsCover (some_weakly_dominates s.points) c.args.value.now c.covering.result) (sym is) c.covering.ensures

pub returns-after-loop-i : goal.returns-after-loop-i
unfolding seen
returns-after-loop-i t c =
    let nodes = c.in-Inner.children.items in
    let v = c.args.value.now in
    let is = sym c.self.view_is ∙ ap seen c.in-Inner.is in
    let first : c.among-first.result < length nodes = search rules in
    let past : length nodes ≤ c.loop-i.i = search rules in
    subst (λ (s : Seen). IsFalse (some_weakly_dominates s.points v)) (sym is)
    (none_below (λ p. weakly_dominates p.value v) nodes
    (each_in_turn (λ k. (d : Seen) → IsFalse (some_weakly_dominates (get_or nodes k d).points v)) c.among-first.result (length nodes) first
    (λ j less. c.loop-i.invariant j (omega arith))))
