use Rattle.std.specs.Prelude.{IsFalse, take}
use Rattle.std.specs.List.{list_any}
use Rattle.pls_vectors.specs.Dominance.{weakly_dominates}
use Rattle.nd_tree.proofs.leaf.covering.Given as goal

abbrev pub invariant-loop-k : goal.invariant-loop-k
invariant-loop-k l = IsFalse (list_any (λ w. weakly_dominates w l.value) (take l.k l.values))
