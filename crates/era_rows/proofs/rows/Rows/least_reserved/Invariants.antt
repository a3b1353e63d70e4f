use Rattle.era_rows.specs.Passes.{known_of, IsPassOf, HasSame}
use Rattle.era_rows.proofs.Tidying.{HasScanned}
use Rattle.era_rows.proofs.rows.Rows.least_reserved.Given as goal

-- the reservations of the passes before this one have been scanned
abbrev pub invariant-loop-j : goal.invariant-loop-j
invariant-loop-j g l = IsPassOf l.self l.pass × HasSame l.fn.pass l.pass × HasScanned l.j l.least (known_of l.fn.pass) (known_of l.pass)
