use Rattle.std.proofs.Common.{◌≡◌, drop}
use Rattle.era_rows.specs.Passes.{work_of}
use Rattle.nd_update.specs.Left.{alive}
use Rattle.nd_update.proofs.removes.first_left.Given as goal

-- those that are left are all
abbrev pub invariant-loop-k : goal.invariant-loop-k
invariant-loop-k l =
    alive (drop l.k (work_of l.pass)) ≡ alive (drop l.from (work_of l.pass))
