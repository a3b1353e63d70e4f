use Rattle.pls_vectors.proofs.Dominance.{weakly_dominates-IsPreorder, weakly_dominates-antisym}
use Rattle.pls_vectors.proofs.laws.dominance_laws.Goals as goal

pub returns-clause-preorder : goal.returns-clause-preorder
returns-clause-preorder c = weakly_dominates-IsPreorder

pub returns-clause-antisymmetric : goal.returns-clause-antisymmetric
returns-clause-antisymmetric c = weakly_dominates-antisym
