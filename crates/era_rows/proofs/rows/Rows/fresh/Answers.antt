use Rattle.std.proofs.Common.{length, ap, arith}
use Rattle.era_rows.proofs.Tidying.{fresh_few}
use Rattle.era_rows.proofs.rows.Rows.fresh.Goals as goal

pub overflow_cast-result : goal.overflow_cast-result
overflow_cast-result g c =
    let pass = c.args.pass.now in
    let few = fresh_few pass.seat.me.0.view pass.tied.holds in
    let rows = pass.tied.few in
    omega (arith, c.len.ensures, pass.fresh.ok.0, ap length pass.tied.fresh_are)
