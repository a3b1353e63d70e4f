use Rattle.std.proofs.Common.{◌≡◌, ◌++◌, map, drop}
use Rattle.pls_settings.specs.Words.{pieces, AreEnds}
use Rattle.pls_settings.proofs.arg_words.ArgWords.texts.Given as goal

abbrev pub invariant-loop-end : goal.invariant-loop-end
invariant-loop-end l =
    let text = l.self-inside.text.items in
    let ends = l.self-inside.ends.items in
    record {
      done : pieces 0 text ends ≡ map (λ t. t.now) l.texts.items ++ pieces l.from text (drop l.end-index ends);
      left : AreEnds l.from text (drop l.end-index ends);
    }
