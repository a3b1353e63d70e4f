use Rattle.std.proofs.Common.{◌≡◌, drop}
use Rattle.era_rows.specs.Passes.{work_of}
use Rattle.nd_update.specs.Left.{is_touched}
use Rattle.nd_update.proofs.removes.is_changed.Given as goal

-- what is left tells it
abbrev pub invariant-loop-k : goal.invariant-loop-k
invariant-loop-k l =
    is_touched (drop l.k (work_of l.pass)) ≡ is_touched (drop l.from (work_of l.pass))
