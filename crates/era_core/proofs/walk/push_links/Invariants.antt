use Rattle.std.proofs.Common.{◌≡◌, ◌+◌, ◌-◌, ◌/◌, ◌≤◌, min, ◌++◌, map, reverse}
use Rattle.era_core.specs.declared.sizes.TheConstants.{MOST_LINKS, KINDS}
use Rattle.era_core.specs.Words.{run_of, cell}
use Rattle.era_core.proofs.walk.push_links.Given as goal

-- the links after this place are on the stack
abbrev pub invariant-loop-place : goal.invariant-loop-place
invariant-loop-place l =
    (l.place ≤ min MOST_LINKS (cell l.passes l.rows l.words l.row 0 / KINDS))
    × (l.todo.items
    ≡ l.fn.todo.items ++ reverse (map (λ y. (y, l.levels - 1)) (run_of (cell l.passes l.rows l.words l.row) (l.place + 1) (min MOST_LINKS (cell l.passes l.rows l.words l.row 0 / KINDS) - l.place))))

abbrev pub decreases-loop-place : goal.decreases-loop-place
decreases-loop-place l = l.place
