use Rattle.std.proofs.Common.{◌≡◌, ◌++◌, take, map}
use Rattle.std.specs.VecDeque.{deque_capacity}
use Rattle.era_rows.specs.Ring.{pairs_in}
use Rattle.era_rows.proofs.ring.retire.Given as goal

-- the rows so far are retired
abbrev pub invariant-loop-i : goal.invariant-loop-i
invariant-loop-i l =
    (pairs_in l.retired.items ≡ pairs_in l.fn.retired.items ++ map (λ x. (l.version, x)) (take l.i l.marked.items)) × (deque_capacity l.retired ≡ deque_capacity l.fn.retired)
