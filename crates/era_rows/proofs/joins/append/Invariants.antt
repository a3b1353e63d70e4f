use Rattle.std.proofs.Common.{◌≡◌, ◌++◌, take}
use Rattle.std.specs.Prelude.{vec_capacity}
use Rattle.era_rows.proofs.joins.append.Given as goal

-- the first so many stand behind those that were there
abbrev pub invariant-loop-i : goal.invariant-loop-i
invariant-loop-i l = (l.items.items ≡ l.fn.items.items ++ take l.i l.more.items) × (vec_capacity l.items ≡ vec_capacity l.fn.items)
