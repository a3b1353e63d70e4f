use Rattle.std.proofs.Common.{get_or, arith}
use Rattle.std.proofs.lemmas.List.{take_more}
use Rattle.era_core.proofs.Marks.{in_at, mark-more}
use Rattle.era_core.proofs.walk.marks.mark.Goals as goal

pub bounds-marks-row : goal.bounds-marks-row
bounds-marks-row c =
    let row = get_or c.args.list.now c.loop-row.row-index 0 in
    omega (arith, c.requires.in_range row (in_at c.args.list.now c.loop-row.row-index 0 (omega arith)))

pub loop-row-preserved : goal.loop-row-preserved
loop-row-preserved c =
    let row = get_or c.args.list.now c.loop-row.row-index 0 in
    mark-more c.args.marks.now c.loop-row.marks c.args.value _ _ row (take_more c.args.list.now c.loop-row.row-index 0 (omega arith))
    (omega (arith, c.requires.in_range row (in_at c.args.list.now c.loop-row.row-index 0 (omega arith)))) c.loop-row.invariant
