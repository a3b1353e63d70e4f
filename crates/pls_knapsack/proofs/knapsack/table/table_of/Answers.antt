use Rattle.pls_knapsack.proofs.Tables.{IsTableOf-push}
use Rattle.pls_knapsack.proofs.knapsack.table.table_of.Goals as goal

pub loop-item-preserved : goal.loop-item-preserved
loop-item-preserved c =
    rw c.in_ok-push.ensures.items
    (IsTableOf-push c.args.items c.loop-item.item _ _ c.loop-item.table.items _ c.loop-item.invariant c.column.ensures c.column-in-loop-item.ensures)
