use Rattle.std.proofs.Common.{◌≡◌, ℕ, ◌+◌, ◌-◌, []}
use Rattle.std.specs.Prelude.{vec_len}
use Rattle.pls_turn.specs.Turns.{no_calls}
use Rattle.pls_turn.specs.Passes.{IsSeatOf, IsNewPass}
use Rattle.pls_turn.proofs.turned.Turned.split_others.Given as goal
use mathlib.Core.Option.{some}
use lib.ListN.{get_elem?}

-- the first seat has the lists of the callers that have no pass yet
abbrev pub invariant-loop-number : goal.invariant-loop-number
invariant-loop-number g l =
    IsSeatOf l.self l.seat
    × (l.seat.me.0.view ≡ record { number = 0; observed = []; own = []; others = no_calls l.number (l.passes - l.number) })
    × (vec_len l.others + 1 ≡ l.number)
    × ((i : ℕ) (p : _) → get_elem? l.others.items i ≡ some p → IsNewPass l.self (i + 1) p)
