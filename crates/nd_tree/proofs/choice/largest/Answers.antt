use Rattle.std.proofs.Common.{◌≡◌, ℕ, Bool, nat_le, length, slice_index, subst, arith}
use Rattle.nd_tree.proofs.First.{IsFirst, IsFirst-first_best}
use Rattle.nd_tree.proofs.choice.largest.Goals as goal

pub returns-clause-value : goal.returns-clause-value
returns-clause-value c =
    let left = c.args.left.now in
    let good : ℕ → ℕ → Bool = λ a b. nat_le (slice_index c.args.sums.now b) (slice_index c.args.sums.now a) in
    let end = c.loop-k.auto.k-end c.requires.some in
    let past = c.loop-k-test.false in
    let all : c.loop-k.k ≡ length left = omega arith in
    IsFirst-first_best good left c.loop-k.best
    (subst (λ (n : ℕ). IsFirst good left n c.loop-k.best) all c.loop-k.invariant)
