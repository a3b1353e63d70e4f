use Rattle.std.proofs.Common.{sym, subst}
use Rattle.era_rows.specs.Passes.{known_of}
use Rattle.era_one_row.specs.Finding.{FindsRow}
use Rattle.nd_update.proofs.TakingRows.{finds_does}
use Rattle.nd_update.proofs.Reading.{only_found}
use Rattle.nd_update.proofs.takes.take_row.Goals as goal

pub returns-clause-does : goal.returns-clause-does
returns-clause-does c = finds_does c.args.rows.now c.args.pass.now c.find_row.new.pass c.requires.building c.requires.paid c.find_row.ensures.pass c.find_row.ensures.same c.find_row.result c.find_row.ensures.found

pub returns-clause-only : goal.returns-clause-only
returns-clause-only c =
    let k = known_of c.args.pass.now in
    let l = known_of c.find_row.new.pass in
    only_found k l c.requires.building.counted.begun c.find_row.result (subst (λ n. FindsRow n k l c.find_row.result) (sym c.requires.building.is_pass.sized.rows_are) c.find_row.ensures.found)
