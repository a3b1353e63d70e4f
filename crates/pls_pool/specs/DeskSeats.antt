-- A desk and its seats, as their callers see them.
use Rattle.std.specs.Prelude.{◌≡◌, ◌<◌}
use Rattle.pls_pool.specs.Tallies.{started}
use Rattle.pls_pool.specs.declared.tally.Tally.{Tally}
use Rattle.pls_pool.specs.declared.desk.Desk.{Desk}
use Rattle.pls_pool.specs.declared.desk.DeskSeat.{DeskSeat}

-- what the seat has done, with the seats joined into it
abbrev pub tally_of : DeskSeat → Tally
tally_of s = s.seat.me.0

-- the seat is at this desk
pub record IsDeskSeatOf (d : Desk) (s : DeskSeat) : Type 0 where
  pub at_table : s.seat.table_id ≡ d.table.shared.table_id
  pub moves_are : (tally_of s).moves ≡ d.moves
  pub seats_are : (tally_of s).seats ≡ d.seats
  pub holds : 0 < (tally_of s).share

-- the seat is at this desk, holds itself alone and has done nothing
pub record IsNewDeskSeat (d : Desk) (s : DeskSeat) : Type 0 where
  pub seat : IsDeskSeatOf d s
  pub tally : tally_of s ≡ started d.moves d.seats 1
