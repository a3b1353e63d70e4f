use Rattle.std.proofs.Common.{◌≡◌, ◌++◌, length}
use Rattle.era_core.specs.Words.{links, tree_at}
use Rattle.era_core.proofs.Walks.{pending}
use Rattle.era_core.proofs.walk.tree_rows.Given as goal

-- the rows found so far, and then what is pending
abbrev pub invariant-loop-row : goal.invariant-loop-row
invariant-loop-row l = l.found.items ++ pending (links l.passes l.rows l.words) l.todo.items ≡ tree_at l.passes l.rows l.words l.root

abbrev pub decreases-loop-row : goal.decreases-loop-row
decreases-loop-row l = length (pending (links l.passes l.rows l.words) l.todo.items)
