use Rattle.std.proofs.Common.{◌≡◌, ◌+◌, ◌-◌, ℕ, []}
use Rattle.std.specs.Prelude.{vec_len}
use Rattle.pls_pool.specs.Tallies.{started}
use Rattle.pls_pool.specs.DeskSeats.{IsNewDeskSeat}
use Rattle.pls_pool.proofs.desk.Desk.split_others.Given as goal
use mathlib.Core.Option.{some}
use lib.ListN.{get_elem?}

-- each seat so far has one share
abbrev pub invariant-loop : goal.invariant-loop
invariant-loop l =
    (l.seat.table_id ≡ l.self.table.shared.table_id)
    × (l.seat.me ≡ (started l.self.moves l.self.seats (l.self.seats + 1 - l.counter), []))
    × (vec_len l.others + 1 ≡ l.counter)
    × ((i : ℕ) (s : _) → get_elem? l.others.items i ≡ some s → IsNewDeskSeat l.self s)
