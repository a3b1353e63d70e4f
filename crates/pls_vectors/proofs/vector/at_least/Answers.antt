use Rattle.pls_vectors.proofs.Signs.{weakly_dominates-signs}
use Rattle.pls_vectors.proofs.vector.at_least.Goals as goal

pub returns : goal.returns
returns c = weakly_dominates-signs c.args.a.now c.args.b.now c.told-a c.told-b c.requires.a_in_range c.requires.b_in_range
