use Rattle.std.proofs.Common.{◌≡◌, true, Some}
use Rattle.nd_rows.specs.Entries.{held_covers}
use Rattle.nd_rows.proofs.Remembered.{AreCompared}
use Rattle.nd_rows.proofs.remembers.is_other.Given as goal

-- the words that are left tell of all
abbrev pub invariant-loop-k : goal.invariant-loop-k
invariant-loop-k l = held_covers l.value (Some l.words) ≡ true → AreCompared l.value l.words l.k l.other
