use Rattle.std.proofs.Common.{length}
use Rattle.era_rows.specs.Passes.{known_of, IsPassOf, HasSame, LooksTaken}
use Rattle.era_rows.proofs.rows.Rows.take_freed.Given as goal

-- each row that it tried has an owner
abbrev pub invariant-loop-row : goal.invariant-loop-row
invariant-loop-row g l = IsPassOf l.self l.pass × HasSame l.fn.pass l.pass × LooksTaken 0 l.self.rows (known_of l.fn.pass) (known_of l.pass)

abbrev pub decreases-loop-row : goal.decreases-loop-row
decreases-loop-row g l = length l.pass.freed
