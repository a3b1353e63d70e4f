use Rattle.pls_knapsack.specs.Table.{IsTableOf}
use Rattle.pls_knapsack.proofs.knapsack.table.table_of.Given as goal

abbrev pub invariant-loop-item : goal.invariant-loop-item
invariant-loop-item l = IsTableOf l.items l.item l.profits l.weights l.table.items
