use Rattle.std.proofs.Common.{◌≡◌}
use Rattle.std.specs.Prelude.{◌+◌, length}
use Rattle.std.specs.VecDeque.{deque_capacity}
use Rattle.era_rows.proofs.Orders.{IsMerging}
use Rattle.era_rows.proofs.ring.merge.Given as goal

-- the words that are still to come stand before those that are merged
abbrev pub invariant-loop-left : goal.invariant-loop-left
invariant-loop-left l = IsMerging l.left l.retired.items l.more.items l.fn.retired.items l.fn.more.items × (deque_capacity l.retired ≡ deque_capacity l.fn.retired)

abbrev pub decreases-loop-left : goal.decreases-loop-left
decreases-loop-left l = l.left + length l.more.items
