use Rattle.std.proofs.Common.{◌∙◌, ap, sym}
use Rattle.pls_pool.specs.DeskSeats.{IsNewDeskSeat}
use Rattle.pls_pool_tests.proofs.Taken.{only_one}
use Rattle.pls_pool_tests.proofs.desk.start_one.Goals as goal

pub returns : goal.returns
returns c =
    let desk = c.in_ok-desk.desk in
    let all = c.in_ok-desk.seats in
    let new = only_one (λ i. IsNewDeskSeat desk) all.items c.remove-seat.result (sym all.ok.0 ∙ c.in_ok-desk.ensures.count) c.in_ok-desk.ensures.seats c.remove-seat.ensures.value in
    (new.seat, ap (λ v. v.draws) new.tally ∙ sym (ap (λ v. v.goes) new.tally))
