use Rattle.std.proofs.Common.{ltb, arith}
use Rattle.std.specs.List.{list_all}
use Rattle.era_core.specs.Words.{links, cell}
use Rattle.era_core.proofs.Marks.{linked-more}
use Rattle.era_core.proofs.walk.is_linked.Goals as goal

pub loop-place-preserved : goal.loop-place-preserved
loop-place-preserved c =
    linked-more (cell c.args.passes c.args.rows c.args.words.now c.args.row) c.args.rows c.loop-place.place _ c.word_at-in-loop-place.result
    (list_all (λ y. ltb y c.args.rows) (links c.args.passes c.args.rows c.args.words.now c.args.row))
    c.loop-place-test.true c.word_at-in-loop-place.ensures (omega (arith, c.from.ensures)) c.loop-place.invariant
