use Rattle.pls_vectors.specs.Solution.{swapped}
use Rattle.pls_vectors.proofs.sol.Sol.swap.Goals as goal

pub returns : goal.returns
unfolding swapped
returns c = rw (c.set_entry-2.ensures, c.set_entry.ensures, c.entry.ensures, c.entry-entry.ensures)
