use Rattle.pls_perms.specs.Table.{IsTableOf}
use Rattle.pls_perms.proofs.table.table_of.Given as goal

abbrev pub invariant-loop-place : goal.invariant-loop-place
invariant-loop-place l = IsTableOf l.long l.place l.numbers l.table.items
