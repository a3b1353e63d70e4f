use Rattle.era_tests.proofs.one_row.remember_version.Goals as goal

pub unpin-requires-clause-pass : goal.unpin-requires-clause-pass
unpin-requires-clause-pass c = c.remember.ensures.pass _ c.open-version.ensures.reads.is_pass
