use Rattle.std.proofs.Common.{◌∙◌, ap, sym}
use Rattle.std.specs.Prelude.{slice_index_or}
use Rattle.std.specs.List.{remove}
use Rattle.pls_pool.specs.Accounts.{IsNew}
use Rattle.pls_pool_tests.proofs.Taken.{four_ones}
use Rattle.pls_pool_tests.proofs.pool.four_seats.Goals as goal

pub returns : goal.returns
returns g c =
    let all = c.args.seats in
    let three = c.remove-d.ensures.items in
    let two = c.remove-c.ensures.items ∙ ap (λ xs. remove xs 2) three in
    let one = c.remove-b.ensures.items ∙ ap (λ xs. remove xs 1) two in
    let new = four_ones (λ i s. g.P.Pool.belongs c.args.pool.now s × IsNew i (g.P.Pool.account s)) all.items c.remove-a.result c.remove-b.result c.remove-c.result c.remove-d.result (sym all.ok.0 ∙ c.requires.count) c.requires.seats
    c.remove-d.ensures.value
    (c.remove-c.ensures.value ∙ ap (λ xs. slice_index_or xs 2 c.remove-c.result) three)
    (c.remove-b.ensures.value ∙ ap (λ xs. slice_index_or xs 1 c.remove-b.result) two)
    (c.remove-a.ensures.value ∙ ap (λ xs. slice_index_or xs 0 c.remove-a.result) one) in
    record {
      first = (new.0.0, new.1.0);
      second = (new.2.0, new.3.0);
      first_numbers = (new.0.1.numbers, new.1.1.numbers);
      second_numbers = (new.2.1.numbers, new.3.1.numbers);
    }
