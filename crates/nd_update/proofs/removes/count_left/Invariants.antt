use Rattle.std.proofs.Common.{◌≡◌, ◌+◌, length, drop}
use Rattle.era_rows.specs.Passes.{work_of}
use Rattle.nd_update.specs.Left.{alive}
use Rattle.nd_update.proofs.removes.count_left.Given as goal

-- what was counted, with what is left, is all
abbrev pub invariant-loop-k : goal.invariant-loop-k
invariant-loop-k l =
    l.count + length (alive (drop l.k (work_of l.pass))) ≡ length (alive (drop l.from (work_of l.pass)))
