use Rattle.std.proofs.Common.{◌≡◌, ◌+◌, ◌*◌, ◌≤◌, ◌^◌, drop}
use Rattle.pls_vectors.specs.Box.{gap_between}
use Rattle.pls_vectors.proofs.range.gap_between.Given as goal

abbrev pub invariant-loop-k : goal.invariant-loop-k
invariant-loop-k l =
    (l.sum + gap_between (drop l.k l.ideal) (drop l.k l.nadir) (drop l.k l.parts) ≡ gap_between l.ideal l.nadir l.parts)
    × (l.sum ≤ l.k * 2 ^ 84)
