use Rattle.std.proofs.Common.{◌≡◌, ◌%◌}
use Rattle.pls_turn.specs.Passes.{IsSeatOf}
use Rattle.pls_turn.proofs.turned.Turned.take_turn.Given as goal

-- the turn is not taken yet
abbrev pub invariant-loop : goal.invariant-loop
invariant-loop g l = IsSeatOf l.self l.seat × (l.seat.me.0.view ≡ l.fn.seat.me.0.view) × (l.guess % 2 ≡ 0)
