use Rattle.std.proofs.Common.{◌≡◌, ℕ, nat_le, length, subst, arith}
use Rattle.pls_vectors.specs.Box.{Box, gap}
use Rattle.nd_tree.proofs.First.{IsFirst, IsFirst-first_best}
use Rattle.nd_tree.proofs.children.closest.Goals as goal

pub returns-clause-value : goal.returns-clause-value
returns-clause-value c =
    let boxes = c.args.boxes.now in
    let v = c.args.value.now in
    let end = c.loop-k.auto.k-end c.requires.some in
    let past = c.loop-k-test.false in
    let all : c.loop-k.k ≡ length boxes = omega arith in
    IsFirst-first_best (λ (a b : Box). nat_le (gap a v) (gap b v)) boxes c.loop-k.best
    (subst (λ (n : ℕ). IsFirst (λ (a b : Box). nat_le (gap a v) (gap b v)) boxes n c.loop-k.best) all c.loop-k.invariant.0)
