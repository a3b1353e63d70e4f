use Rattle.std.proofs.Common.{◌≡◌, ◌+◌, ◌<◌, ℕ, suc, List, [], ◌++◌, length, take, drop, ap, sym, subst, ◌∙◌, arith, rules}
use Rattle.std.specs.Prelude.{vec_len}
use Rattle.pls_vectors.specs.Box.{Box}
use Rattle.pls_archive.specs.Lists.{Every}
use Rattle.nd_tree.specs.Seen.{Seen, all_points, longest_of, AreEnclosed}
use Rattle.nd_tree.proofs.Paired.{length-cut}
use Rattle.nd_tree.proofs.Removing.{enclosed-cut, all_points-cut, longest-cut, take-cut}
use Rattle.nd_tree.proofs.Siblings.{enclosed-length}
use Rattle.nd_tree.proofs.node.removal.drop_empty.Goals as goal

pub take_away-requires-clause-in_boxes : goal.take_away-requires-clause-in_boxes
take_away-requires-clause-in_boxes c =
    let same = enclosed-length c.loop-k.boxes.items c.loop-k.children.items c.loop-k.invariant.0 in
    let below : c.loop-k.k < length c.loop-k.children.items = search rules in
    let long : length c.loop-k.boxes.items ≡ vec_len c.loop-k.boxes = search rules in
    omega arith

pub loop-k-preserved-then-is_empty : goal.loop-k-preserved-then-is_empty
loop-k-preserved-then-is_empty c =
    let boxes = c.loop-k.boxes.items in
    let nodes = c.loop-k.children.items in
    let k = c.loop-k.k in
    let s = c.index.result.now in
    let below : k < length nodes = search rules in
    let several : 1 < length nodes = search rules in
    let next : k + 1 ≡ suc k = omega arith in
    let cut = c.take_away.ensures.boxes ∙ ap (λ (n : ℕ). take k boxes ++ drop n boxes) next in
    let cut' = c.take_away.ensures.children ∙ ap (λ (n : ℕ). take k nodes ++ drop n nodes) next in
    let none = subst (λ (x : Seen). x.points ≡ []) c.index.ensures (c.is_empty.ensures.empty c.if-is_empty.true) in
    let shorter = length-cut nodes k below in
    let short = ap length cut' in
    let longest = longest-cut nodes k below in
    let longest' = ap longest_of cut' in
    let before = c.loop-k.invariant.3 in (
      subst (λ (bs : List Box). AreEnclosed bs c.take_away.new.children.items) (sym cut)
          (subst (λ (xs : List Seen). AreEnclosed (take k boxes ++ drop (suc k) boxes) xs) (sym cut') (enclosed-cut boxes nodes k c.loop-k.invariant.0 below)),
      omega arith,
      ap all_points cut' ∙ (all_points-cut nodes k s below none ∙ c.loop-k.invariant.2),
      omega arith,
      subst (λ (xs : List Seen). Every (λ (x : Seen). 0 < length x.points) xs) (sym (ap (λ (xs : List Seen). take k xs) cut' ∙ take-cut nodes k below))
          c.loop-k.invariant.4,
    )
