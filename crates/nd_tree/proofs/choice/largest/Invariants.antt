use Rattle.std.proofs.Common.{nat_le, slice_index}
use Rattle.nd_tree.proofs.First.{IsFirst}
use Rattle.nd_tree.proofs.choice.largest.Given as goal

abbrev pub invariant-loop-k : goal.invariant-loop-k
invariant-loop-k l = IsFirst (λ a b. nat_le (slice_index l.sums b) (slice_index l.sums a)) l.left l.k l.best
