use Rattle.std.proofs.Common.{◌∙◌, ap, sym}
use Rattle.std.specs.Prelude.{slice_index_or}
use Rattle.pls_pool.specs.DeskSeats.{IsNewDeskSeat}
use Rattle.pls_pool_tests.proofs.Taken.{both_ones}
use Rattle.pls_pool_tests.proofs.desk.start_two.Goals as goal

pub returns : goal.returns
returns c =
    let desk = c.in_ok-desk.desk in
    let all = c.in_ok-desk.seats in
    let new = both_ones (λ i. IsNewDeskSeat desk) all.items c.remove-first.result c.remove-second.result (sym all.ok.0 ∙ c.in_ok-desk.ensures.count) c.in_ok-desk.ensures.seats c.remove-second.ensures.value
    (c.remove-first.ensures.value ∙ ap (λ xs. slice_index_or xs 0 c.remove-first.result) c.remove-second.ensures.items) in
    record {
      first = (new.0.seat, ap (λ v. v.draws) new.0.tally ∙ sym (ap (λ v. v.goes) new.0.tally));
      second = (new.1.seat, ap (λ v. v.draws) new.1.tally ∙ sym (ap (λ v. v.goes) new.1.tally));
    }
