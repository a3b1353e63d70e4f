use Rattle.std.proofs.Common.{◌≡◌, ◌-◌, ◌≤◌, length, true}
use Rattle.pls_io.specs.Words.{words_at}
use Rattle.pls_io.proofs.words.comment_end.Given as goal

abbrev pub invariant-loop-end : goal.invariant-loop-end
invariant-loop-end l =
    record {
      after : l.at ≤ l.end;
      within : l.end ≤ length l.text;
      same : words_at true l.text l.at ≡ words_at true l.text l.end;
    }

abbrev pub decreases-loop-end : goal.decreases-loop-end
decreases-loop-end l = length l.text - l.end
