use Rattle.pls_vectors.specs.Solution.{entry}
use Rattle.pls_vectors.proofs.sol.Sol.entry.Goals as goal

pub returns : goal.returns
unfolding entry
returns c = rw (c.byte.ensures, ← c.self.view_is)
