use Rattle.era_rows.proofs.rows.Rows.unpin.Given as goal

abbrev pub ghosts-unpin_as : goal.ghosts-unpin_as
ghosts-unpin_as g a = record { entry = g.N.Names.entry a.names.now }
