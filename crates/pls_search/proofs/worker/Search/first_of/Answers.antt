use Rattle.std.proofs.Common.{rules, ◌≡◌, length, vec_len, arith}
use Rattle.pls_pool.specs.DeskSeats.{IsNewDeskSeat}
use Rattle.pls_search.specs.Seats.{IsNewPass, IsNewSeat}
use Rattle.pls_search.proofs.Crews.{Seated-first}
use Rattle.pls_search.proofs.worker.Search.first_of.Goals as goal

pub returns : goal.returns
returns g c =
    let s = c.args.self.now in
    let crew = c.args.crew.now in
    let many : vec_len crew.passes ≡ length crew.passes.items = search rules in
    let pass =
    Seated-first (IsNewPass g.A.Shared g.P.Pool s.archive.now) crew.passes.items c.remove-pass.new.self.items c.remove-pass.result (omega (arith, many, c.requires.some))
    c.remove-pass.ensures.value c.remove-pass.ensures.items c.requires.crew.passes in
    let many_seats : vec_len crew.pool_seats ≡ length crew.pool_seats.items = search rules in
    let pool_seat =
    Seated-first (IsNewSeat g.A.Shared g.P.Pool s.pool.now) crew.pool_seats.items c.remove-pool_seat.new.self.items c.remove-pool_seat.result (omega (arith, many_seats, c.requires.some, c.requires.crew.even.0))
    c.remove-pool_seat.ensures.value c.remove-pool_seat.ensures.items c.requires.crew.pool_seats in
    let many_desks : vec_len crew.desk_seats ≡ length crew.desk_seats.items = search rules in
    let desk_seat =
    Seated-first (λ k t. IsNewDeskSeat s.desk.now t) crew.desk_seats.items c.remove-desk_seat.new.self.items c.remove-desk_seat.result (omega (arith, many_desks, c.requires.some, c.requires.crew.even.1))
    c.remove-desk_seat.ensures.value c.remove-desk_seat.ensures.items c.requires.crew.desk_seats in
    record {
      count = search rules;
      crew = record { few = search rules; even = search rules; passes = pass.1; pool_seats = pool_seat.1; desk_seats = desk_seat.1 };
      worker = record { pass = search rules; pool_seat = search rules; desk_seat = search rules; uncounted = c.new.ensures.counts };
    }
