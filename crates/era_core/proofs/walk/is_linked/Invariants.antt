use Rattle.std.proofs.Common.{◌≡◌, ◌+◌, ◌-◌, ltb}
use Rattle.std.specs.List.{list_all}
use Rattle.era_core.specs.Words.{run_of, links, cell}
use Rattle.era_core.proofs.walk.is_linked.Given as goal

-- the links before this place are rows
abbrev pub invariant-loop-place : goal.invariant-loop-place
invariant-loop-place l =
    list_all (λ y. ltb y l.rows) (run_of (cell l.passes l.rows l.words l.row) l.place (l.count + 1 - l.place)) ≡ list_all (λ y. ltb y l.rows) (links l.passes l.rows l.words l.row)
