use Rattle.std.proofs.Common.{◌<◌, ⊎_elim, arith}
use Rattle.era_rows.proofs.Tied.{tied_row}
use Rattle.era_rows.proofs.rows.Rows.read.Goals as goal

pub read_by-requires-clause-places : goal.read_by-requires-clause-places
read_by-requires-clause-places g c =
    let pass = c.args.pass.now in
    let sized = c.requires.pass.sized in
    let low : c.args.row < pass.seat.me.0.view.rows = ⊎_elim (tied_row pass.tied c.args.row) (pass.tied.tree.inside c.args.row) c.requires.row in
    (omega (arith, sized.rows_are), c.requires.place)
