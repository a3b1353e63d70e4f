use Rattle.std.proofs.Common.{◌≡◌, ◌-◌, ◌≤◌, length, false}
use Rattle.pls_io.specs.Words.{words_at}
use Rattle.pls_io.proofs.words.word_start.Given as goal

abbrev pub invariant-loop-start : goal.invariant-loop-start
invariant-loop-start l =
    record {
      within : l.start ≤ length l.text;
      same : words_at false l.text l.at ≡ words_at false l.text l.start;
    }

abbrev pub decreases-loop-start : goal.decreases-loop-start
decreases-loop-start l = length l.text - l.start
