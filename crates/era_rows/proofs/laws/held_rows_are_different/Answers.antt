use Rattle.era_rows.proofs.laws.held_rows_are_different.Goals as goal

pub returns : goal.returns
returns g c = c.args.pass.now.tied.holds
