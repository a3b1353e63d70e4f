use Rattle.std.proofs.Common.{◌≡◌, ◌-◌}
use Rattle.std.specs.Prelude.{vec_capacity}
use Rattle.era_core.specs.Words.{run_of}
use Rattle.era_core.specs.Versions.{known}
use Rattle.era_rows.specs.Known.{known_words}
use Rattle.era_rows.specs.Rule.{knowing}
use Rattle.era_rows.specs.Passes.{IsSeatOf, HasRead}
use Rattle.era_rows.specs.Reach.{IsReached, AddsLinks}
use Rattle.era_rows.proofs.rows.Rows.reach_links.Given as goal

-- the links before this place have had their turn
abbrev pub invariant-loop-place : goal.invariant-loop-place
invariant-loop-place g l =
    IsSeatOf l.self l.seat
    × (l.seat.me.0 ≡ knowing l.fn.seat.me.0.seen l.fn.seat.me.0.lists l.seat.me.0.view)
    × (l.seat.me.1 ≡ l.fn.seat.me.1)
    × HasRead l.fn.seat.me.0.view l.seat.me.0.view
    × IsReached l.self.rows l.fn.seat.me.0.view.core.fresh l.loose.items l.reached.items
    × AddsLinks (run_of (known (known_words l.fn.seat.me.0.view) l.row) 1 (l.place - 1)) l.fn.seat.me.0.view.core.fresh l.fn.reached.items l.reached.items
    × (vec_capacity l.reached ≡ vec_capacity l.fn.reached)
