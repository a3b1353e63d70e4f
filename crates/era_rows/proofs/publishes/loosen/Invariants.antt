use Rattle.std.proofs.Common.{◌≡◌, ℕ, true, false, cond, length, take, get_or}
use Rattle.era_core.specs.Lists.{is_in}
use Rattle.era_rows.proofs.publishes.loosen.Given as goal

-- the rows so far have their flag, and the others what they had
abbrev pub invariant-loop-i : goal.invariant-loop-i
invariant-loop-i l = (length l.loose.items ≡ length l.fn.loose.items) × ((x : ℕ) → get_or l.loose.items x false ≡ cond (is_in x (take l.i l.rows.items)) true (get_or l.fn.loose.items x false))
