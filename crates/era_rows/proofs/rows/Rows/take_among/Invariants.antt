use Rattle.std.proofs.Common.{◌≤◌}
use Rattle.era_rows.specs.Passes.{known_of, IsPassOf, HasSame, FindsTaken}
use Rattle.era_rows.proofs.rows.Rows.take_among.Given as goal

-- each row before this one has an owner
abbrev pub invariant-loop-row : goal.invariant-loop-row
invariant-loop-row g l = IsPassOf l.self l.pass × HasSame l.fn.pass l.pass × (l.from ≤ l.row) × FindsTaken l.from l.row (known_of l.fn.pass) (known_of l.pass)
