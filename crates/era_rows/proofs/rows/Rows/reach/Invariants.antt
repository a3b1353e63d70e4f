use Rattle.std.proofs.Common.{◌≡◌, ◌-◌}
use Rattle.std.specs.Prelude.{vec_capacity}
use Rattle.era_rows.specs.Rule.{knowing}
use Rattle.era_rows.specs.Passes.{IsSeatOf, HasRead}
use Rattle.era_rows.proofs.Reaching.{IsWalking}
use Rattle.era_rows.proofs.rows.Rows.reach.Given as goal

-- the reached rows before this one have had their turn
abbrev pub invariant-loop-next : goal.invariant-loop-next
invariant-loop-next g l =
    IsSeatOf l.self l.seat
    × (l.seat.me.0 ≡ knowing l.fn.seat.me.0.seen l.fn.seat.me.0.lists l.seat.me.0.view)
    × (l.seat.me.1 ≡ l.fn.seat.me.1)
    × HasRead l.fn.seat.me.0.view l.seat.me.0.view
    × IsWalking l.fn.seat.me.0.view l.root l.loose.items l.reached.items l.next
    × (vec_capacity l.reached ≡ vec_capacity l.fn.reached)

-- each turn leaves fewer rows
abbrev pub decreases-loop-next : goal.decreases-loop-next
decreases-loop-next g l = l.self.rows - l.next
