use Rattle.std.specs.Prelude.{length}
use Rattle.era_rows.specs.Passes.{known_of, IsPassOf, HasSame}
use Rattle.era_rows.specs.Ring.{pairs_in}
use Rattle.era_rows.proofs.Freeing.{HasFreed}
use Rattle.era_rows.proofs.rows.Rows.free_clear.Given as goal

-- those that waited longest are freed
abbrev pub invariant-loop-least : goal.invariant-loop-least
invariant-loop-least g l =
    IsPassOf l.self l.pass × HasSame l.fn.pass l.pass × HasFreed l.least l.freed (known_of l.fn.pass) (known_of l.pass) (pairs_in l.fn.pass.retired.items) (pairs_in l.pass.retired.items)

abbrev pub decreases-loop-least : goal.decreases-loop-least
decreases-loop-least g l = length l.pass.retired.items
