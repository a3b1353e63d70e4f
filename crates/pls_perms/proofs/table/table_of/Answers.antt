use Rattle.pls_perms.proofs.Tables.{IsTableOf-push}
use Rattle.pls_perms.proofs.table.table_of.Goals as goal

pub loop-place-preserved : goal.loop-place-preserved
loop-place-preserved c =
    rw c.in_ok-push.ensures.items
    (IsTableOf-push c.args.long c.loop-place.place _ c.loop-place.table.items _ c.loop-place.invariant c.numbers_at.ensures)
