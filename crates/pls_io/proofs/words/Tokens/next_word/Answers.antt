use Rattle.std.proofs.Common.{◌<◌, ◌∙◌, sym, arith}
use Rattle.pls_io.proofs.WordSteps.{words_at-word}
use Rattle.pls_io.proofs.words.Tokens.next_word.Goals as goal

pub returns-clause-first : goal.returns-clause-first
returns-clause-first c =
    let start = c.word_start-start.result in
    let end = c.word_end-end.result in
    let some : start < end = omega (arith, c.word_end-end.ensures.after, c.if-start-end.false) in
    sym c.self.view_is ∙ c.word_start-start.ensures.same ∙ words_at-word c.self.inside.text.now start end some c.word_end-end.ensures.within c.word_end-end.ensures.word c.word_end-end.ensures.stops
