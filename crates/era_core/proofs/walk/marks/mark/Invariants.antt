use Rattle.std.proofs.Common.{◌≡◌, ℕ, false, cond, take, get_or}
use Rattle.era_core.specs.Lists.{is_in}
use Rattle.era_core.proofs.walk.marks.mark.Given as goal

-- the rows so far have their mark, and the others what they had
abbrev pub invariant-loop-row : goal.invariant-loop-row
invariant-loop-row l = (x : ℕ) → get_or l.marks x false ≡ cond (is_in x (take l.row-index l.list)) l.value (get_or l.fn.marks x false)
