use Rattle.std.proofs.Common.{refl, arith}
use Rattle.nd_rows.proofs.Remembered.{words_more, words_all, value_all}
use Rattle.nd_rows.proofs.remembers.words_of.Goals as goal

pub loop-k-init : goal.loop-k-init
loop-k-init c = record { words_are = refl; in_range = refl }

pub loop-k-preserved : goal.loop-k-preserved
loop-k-preserved c =
    words_more c.args.value.now c.loop-k.k _ c.loop-k.words (omega (arith, c.loop-k-test.true, c.len-k-end.ensures.value)) (omega (arith, c.len-k-end.ensures.value, c.len-k-end.ensures.few))
    c.part_word.ensures.value c.part_word.ensures.in_range c.loop-k.invariant

pub returns-clause-words : goal.returns-clause-words
returns-clause-words c = words_all c.args.value.now c.loop-k.k c.loop-k.words (omega (arith, c.loop-k.auto.k-end, c.loop-k-test.false, c.len-k-end.ensures.value)) c.loop-k.invariant

pub returns-clause-value : goal.returns-clause-value
returns-clause-value c =
    value_all c.args.value.now c.loop-k.k c.loop-k.words (omega (arith, c.len-k-end.ensures.value, c.len-k-end.ensures.some)) (omega (arith, c.len-k-end.ensures.value, c.len-k-end.ensures.few))
    (omega (arith, c.loop-k.auto.k-end, c.loop-k-test.false, c.len-k-end.ensures.value)) c.loop-k.invariant
