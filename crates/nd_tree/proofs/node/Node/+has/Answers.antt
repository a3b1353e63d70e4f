use Rattle.std.proofs.Common.{◌≡◌, ◌<◌, ◌≤◌, ◌&&◌, true, false, length, get_or, ap, sym, subst, ◌∙◌, arith, rules}
use Rattle.std.specs.Prelude.{IsTrue, IsFalse, vec_len}
use Rattle.pls_vectors.specs.Dominance.{weakly_dominates}
use Rattle.pls_archive.specs.Reply.{has_value}
use Rattle.nd_tree.specs.Seen.{Seen, AreChildren}
use Rattle.nd_tree.specs.Nodes.{seen, IsFormed}
use Rattle.nd_tree.proofs.Corners.{outside-has_value}
use Rattle.nd_tree.proofs.Siblings.{up_to, none_below, some_below, enclosed-length, enclosed-here, same_below}
use Rattle.nd_tree.proofs.node.Node.+has.Goals as goal
use Rattle.nd_tree.proofs.node.Node.+has.Goals.{then-encloses+else-has, else-encloses}

pub index-requires : goal.index-requires
index-requires t c =
    let formed : AreChildren c.in-Inner.boxes.items c.in-Inner.children.items = subst IsFormed c.in-Inner.is c.self.invariant in
    let same = enclosed-length c.in-Inner.boxes.items c.in-Inner.children.items formed.enclosed in
    let below : c.loop-k.k < length c.in-Inner.children.items = search rules in
    let long : length c.in-Inner.boxes.items ≡ vec_len c.in-Inner.boxes = search rules in
    omega arith

pub returns-then-has : goal.returns-then-has
unfolding seen
returns-then-has t c =
    let nodes = c.in-Inner.children.items in
    let v = c.args.value.now in
    let below : c.loop-k.k < length nodes = search rules in
    let is = sym c.self.view_is ∙ ap seen c.in-Inner.is in
    sym (subst (λ (s : Seen). IsTrue (has_value s.points v)) (sym is)
    (some_below (λ p. weakly_dominates p.value v && weakly_dominates v p.value) nodes c.loop-k.k c.args.self.now below
    (same_below (λ p. weakly_dominates p.value v && weakly_dominates v p.value) nodes c.loop-k.k c.index-then-encloses.result.now c.args.self.now true below
    c.index-then-encloses.ensures (sym c.if-has.ensures))))

pub loop-k-preserved : goal.loop-k-preserved
loop-k-preserved t c =
    let nodes = c.in-Inner.children.items in
    let formed : AreChildren c.in-Inner.boxes.items nodes = subst IsFormed c.in-Inner.is c.self.invariant in
    let k = c.loop-k.k in
    let v = c.args.value.now in
    let below : k < length nodes = search rules in
    let here : (d : Seen) → IsFalse (has_value (get_or nodes k d).points v) = λ d. elim c.if-encloses.branch [
      | then-encloses+else-has w ↦
          same_below (λ p. weakly_dominates p.value v && weakly_dominates v p.value) nodes k w.index-then-encloses.result.now d false below
          w.index-then-encloses.ensures (sym w.if-has.ensures)
      | else-encloses w ↦
          outside-has_value c.index.result.now v (sym w.if-encloses.ensures) (get_or nodes k d).points
          (enclosed-here c.in-Inner.boxes.items nodes formed k below d c.index.result.now c.index.ensures)
    ] in
    up_to k (λ j. (d : Seen) → IsFalse (has_value (get_or nodes j d).points v)) c.loop-k.invariant here

pub returns-in-Leaf : goal.returns-in-Leaf
unfolding seen
returns-in-Leaf t c =
    let is = sym c.self.view_is ∙ ap seen c.in-Leaf.is in
    c.has.ensures ∙ sym (ap (λ (s : Seen). has_value s.points c.args.value.now) is)

pub returns-after-loop-k : goal.returns-after-loop-k
unfolding seen
returns-after-loop-k t c =
    let nodes = c.in-Inner.children.items in
    let v = c.args.value.now in
    let is = sym c.self.view_is ∙ ap seen c.in-Inner.is in
    let past : length nodes ≤ c.loop-k.k = search rules in
    sym (subst (λ (s : Seen). IsFalse (has_value s.points v)) (sym is)
    (none_below (λ p. weakly_dominates p.value v && weakly_dominates v p.value) nodes (λ j less. c.loop-k.invariant j (omega arith))))
