use Rattle.pls_vectors.specs.Solution.{with_entry}
use Rattle.pls_vectors.proofs.sol.Sol.set_entry.Goals as goal

pub returns : goal.returns
unfolding with_entry
returns c = rw (c.with_byte.ensures, ← c.self.view_is)
