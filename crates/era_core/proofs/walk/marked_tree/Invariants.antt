use Rattle.std.proofs.Common.{◌≡◌, ◌++◌, length}
use Rattle.era_core.specs.Words.{links, tree_at}
use Rattle.era_core.proofs.Walks.{pending}
use Rattle.era_core.proofs.Marks.{Coming}
use Rattle.era_core.proofs.walk.marked_tree.Given as goal

abbrev pub invariant-loop-row : goal.invariant-loop-row
invariant-loop-row l =
    (l.found.items ++ pending (links l.passes l.rows l.words) l.todo.items ≡ tree_at l.passes l.rows l.words l.root)
    × Coming l.passes l.rows l.words l.fn.marks l.marks l.found.items

abbrev pub decreases-loop-row : goal.decreases-loop-row
decreases-loop-row l = length (pending (links l.passes l.rows l.words) l.todo.items)
