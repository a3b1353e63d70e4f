use Rattle.std.proofs.Common.{◌∙◌, sym}
use Rattle.era_tests.proofs.Starting.{one_idle}
use Rattle.era_tests.proofs.one_row.start_one.Goals as goal

pub returns : goal.returns
returns c = one_idle c.in_ok-rows.rows c.in_ok-rows.passes.items c.remove-pass.result (sym c.in_ok-rows.passes.ok.0 ∙ c.in_ok-rows.ensures.count) c.in_ok-rows.ensures.passes c.remove-pass.ensures.value
