use Rattle.std.proofs.Common.{rules, ◌≡◌, [], ◌∷◌, ◌++◌, vec_len}
use Rattle.pls_pool.specs.DeskSeats.{IsNewDeskSeat}
use Rattle.pls_search.specs.Seats.{IsNewPass, IsNewSeat}
use Rattle.pls_search.proofs.Crews.{Seated-last}
use Rattle.pls_search.proofs.worker.Search.next_of.Goals as goal

pub returns : goal.returns
returns g c =
    let s = c.args.self.now in
    let crew = c.args.crew.now in
    let n = vec_len crew.passes in
    let split : crew.passes.items ≡ c.pop.new.self.items ++ c.in_ok-pass.pass ∷ [] = search rules in
    let pass = Seated-last (IsNewPass g.A.Shared g.P.Pool s.archive.now) n crew.passes.items c.pop.new.self.items c.in_ok-pass.pass (search rules) split c.requires.crew.passes in
    let split_seats : crew.pool_seats.items ≡ c.pop-2.new.self.items ++ c.in_ok-pool_seat.pool_seat ∷ [] = search rules in
    let pool_seat = Seated-last (IsNewSeat g.A.Shared g.P.Pool s.pool.now) n crew.pool_seats.items c.pop-2.new.self.items c.in_ok-pool_seat.pool_seat (search rules) split_seats c.requires.crew.pool_seats in
    let split_desks : crew.desk_seats.items ≡ c.pop-3.new.self.items ++ c.in_ok-desk_seat.desk_seat ∷ [] = search rules in
    let desk_seat = Seated-last (λ k t. IsNewDeskSeat s.desk.now t) n crew.desk_seats.items c.pop-3.new.self.items c.in_ok-desk_seat.desk_seat (search rules) split_desks c.requires.crew.desk_seats in
    record {
      count = search rules;
      crew = record { few = search rules; even = search rules; passes = pass.1; pool_seats = pool_seat.1; desk_seats = desk_seat.1 };
      worker = record { pass = search rules; pool_seat = search rules; desk_seat = search rules; uncounted = c.new.ensures.counts };
    }
