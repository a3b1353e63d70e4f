use Rattle.std.proofs.Common.{get_or, arith}
use Rattle.era_core.proofs.Marks.{in_at}
use Rattle.era_core.proofs.walk.marks.unmarked.Goals as goal

pub bounds-marks-row : goal.bounds-marks-row
bounds-marks-row c = c.requires.in_range (get_or c.args.list.now c.loop-row.row-index 0) (in_at c.args.list.now c.loop-row.row-index 0 (omega arith))
