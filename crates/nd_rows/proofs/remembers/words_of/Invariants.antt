use Rattle.nd_rows.proofs.Remembered.{AreWordsTo}
use Rattle.nd_rows.proofs.remembers.words_of.Given as goal

-- the words so far are those of the parts
abbrev pub invariant-loop-k : goal.invariant-loop-k
invariant-loop-k l = AreWordsTo l.value l.k l.words
