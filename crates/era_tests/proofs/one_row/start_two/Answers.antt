use Rattle.std.proofs.Common.{◌∙◌, ap, sym}
use Rattle.std.specs.Prelude.{slice_index_or}
use Rattle.era_tests.proofs.Starting.{two_idle}
use Rattle.era_tests.proofs.one_row.start_two.Goals as goal

pub returns : goal.returns
returns c =
    let all = c.in_ok-rows.passes.items in
    two_idle c.in_ok-rows.rows all c.remove-a.result c.remove-b.result (sym c.in_ok-rows.passes.ok.0 ∙ c.in_ok-rows.ensures.count) c.in_ok-rows.ensures.passes c.remove-b.ensures.value
    (c.remove-a.ensures.value ∙ ap (λ xs. slice_index_or xs 0 c.remove-a.result) c.remove-b.ensures.items)
