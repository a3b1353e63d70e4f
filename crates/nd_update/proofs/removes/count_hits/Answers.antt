use Rattle.std.proofs.Common.{false, slice_index_or, arith}
use Rattle.nd_update.proofs.Sweeping.{hits_few}
use Rattle.nd_update.proofs.Removing.{one_le}
use Rattle.nd_update.proofs.removes.count_hits.Goals as goal

pub overflow_add-count : goal.overflow_add-count
overflow_add-count c =
    let so_far = c.loop-k.invariant in
    let most = hits_few c.args.hits.now in
    let len = c.type_inv.hits in
    let one = c.one-count.ensures in
    let low = one_le (slice_index_or c.args.hits.now c.loop-k.k false) in omega (arith, so_far, most, len, one, low)
