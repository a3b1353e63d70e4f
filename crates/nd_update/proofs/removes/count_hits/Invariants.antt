use Rattle.std.proofs.Common.{◌≡◌, ◌+◌, drop}
use Rattle.nd_update.specs.Left.{hits_in}
use Rattle.nd_update.proofs.removes.count_hits.Given as goal

-- what was counted, with what is left, is all
abbrev pub invariant-loop-k : goal.invariant-loop-k
invariant-loop-k l =
    l.count + hits_in (drop l.k l.hits) ≡ hits_in l.hits
