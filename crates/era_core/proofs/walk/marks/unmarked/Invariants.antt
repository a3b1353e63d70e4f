use Rattle.std.proofs.Common.{◌≡◌, false, not, take, get_or}
use Rattle.std.specs.Prelude.{filter}
use Rattle.era_core.proofs.walk.marks.unmarked.Given as goal

-- the rows so far that have no mark
abbrev pub invariant-loop-row : goal.invariant-loop-row
invariant-loop-row l = l.left.items ≡ filter (λ x. not (get_or l.marks x false)) (take l.row-index l.list)
