use Rattle.era_rows.proofs.laws.written_words_are_fresh.Goals as goal

pub returns : goal.returns
returns g c = c.args.pass.now.tied.written_fresh
