use Rattle.std.proofs.Common.{refl, arith}
use Rattle.nd_rows.proofs.Remembered.{compared_more, compared_all}
use Rattle.nd_rows.proofs.remembers.is_other.Goals as goal

pub loop-k-init : goal.loop-k-init
loop-k-init c covers = record { rest_covers = covers; so_far = refl }

pub loop-k-preserved : goal.loop-k-preserved
loop-k-preserved c covers =
    compared_more c.args.value.now c.args.words.now c.loop-k.k c.loop-k.other (omega (arith, c.loop-k-test.true, c.len-k-end.ensures.value))
    (omega (arith, c.told-words, c.loop-k-test.true, c.len-k-end.ensures.few)) c.part_word.ensures.in_range (c.loop-k.invariant covers) c.part_word.result c.part_word.ensures.value

pub returns : goal.returns
returns c covers =
    compared_all c.args.value.now c.args.words.now c.loop-k.k c.loop-k.other (omega (arith, c.loop-k.auto.k-end, c.loop-k-test.false, c.len-k-end.ensures.value)) (c.loop-k.invariant covers) covers
