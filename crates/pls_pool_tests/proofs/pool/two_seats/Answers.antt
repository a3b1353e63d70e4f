use Rattle.std.proofs.Common.{◌∙◌, ap, sym}
use Rattle.std.specs.Prelude.{slice_index_or}
use Rattle.pls_pool_tests.proofs.Taken.{both_ones}
use Rattle.pls_pool_tests.proofs.pool.two_seats.Goals as goal

pub returns : goal.returns
returns g c =
    let all = c.args.seats in
    let new = both_ones (λ i s. g.P.Pool.belongs c.args.pool.now s) all.items c.remove-a.result c.remove-b.result (sym all.ok.0 ∙ c.requires.count) (λ i s at. (c.requires.seats i s at).0) c.remove-b.ensures.value
    (c.remove-a.ensures.value ∙ ap (λ xs. slice_index_or xs 0 c.remove-a.result) c.remove-b.ensures.items) in
    (new.0, new.1)
