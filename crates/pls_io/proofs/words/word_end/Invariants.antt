use Rattle.std.proofs.Common.{◌≡◌, ◌-◌, ◌≤◌, length, true, slice_range}
use Rattle.std.specs.List.{list_all}
use Rattle.pls_io.specs.Words.{is_word_byte}
use Rattle.pls_io.proofs.words.word_end.Given as goal

abbrev pub invariant-loop-end : goal.invariant-loop-end
invariant-loop-end l =
    record {
      after : l.at ≤ l.end;
      within : l.end ≤ length l.text;
      word : list_all is_word_byte (slice_range l.text l.at l.end) ≡ true;
    }

abbrev pub decreases-loop-end : goal.decreases-loop-end
decreases-loop-end l = length l.text - l.end
