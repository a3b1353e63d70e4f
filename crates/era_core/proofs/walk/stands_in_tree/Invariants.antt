use Rattle.std.proofs.Common.{◌≡◌, ℕ, ◌<◌, length}
use Rattle.era_core.specs.Lists.{times, In}
use Rattle.era_core.specs.Words.{links, tree_at}
use Rattle.era_core.proofs.Walks.{pending}
use Rattle.era_core.proofs.walk.stands_in_tree.Given as goal

-- the row that is wanted was not among the rows that went by, and what is pending is in range
abbrev pub invariant-loop-row : goal.invariant-loop-row
invariant-loop-row l =
    (times l.wanted (pending (links l.passes l.rows l.words) l.todo.items) ≡ times l.wanted (tree_at l.passes l.rows l.words l.root))
    × ((x : ℕ) → In x (pending (links l.passes l.rows l.words) l.todo.items) → x < l.rows)

abbrev pub decreases-loop-row : goal.decreases-loop-row
decreases-loop-row l = length (pending (links l.passes l.rows l.words) l.todo.items)
