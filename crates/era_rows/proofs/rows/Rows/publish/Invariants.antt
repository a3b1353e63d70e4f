use Rattle.era_rows.proofs.rows.Rows.publish.Given as goal

abbrev pub ghosts-exchange_root : goal.ghosts-exchange_root
ghosts-exchange_root g a = record { entry = g.N.Names.entry a.names.now }
