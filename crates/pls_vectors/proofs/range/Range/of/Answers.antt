use Rattle.pls_vectors.proofs.Dominance.{weakly_dominates-refl}
use Rattle.pls_vectors.proofs.range.Range.of.Goals as goal

pub invariant_of-result : goal.invariant_of-result
invariant_of-result c = weakly_dominates-refl c.args.v
