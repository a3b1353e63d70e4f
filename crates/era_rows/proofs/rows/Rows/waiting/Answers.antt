use Rattle.std.proofs.Common.{arith}
use Rattle.era_rows.specs.Ring.{pairs_in}
use Rattle.era_rows.proofs.Orders.{pairs_long}
use Rattle.era_rows.proofs.Retired.{batched_length}
use Rattle.era_rows.proofs.Tidying.{retired_few}
use Rattle.era_rows.proofs.rows.Rows.waiting.Goals as goal

pub overflow_cast-result : goal.overflow_cast-result
overflow_cast-result g c =
    let pass = c.args.pass.now in
    let few = retired_few pass.seat.me.0.view pass.tied.holds in
    let rows = pass.tied.few in
    omega (arith, c.len.ensures, pass.retired.ok.0, pairs_long pass.retired.items, batched_length (pairs_in pass.retired.items) pass.seat.me.0.view.core.retired pass.tied.batched)

pub returns : goal.returns
returns g c =
    let pass = c.args.pass.now in
    omega (arith, c.len.ensures, pass.retired.ok.0, pairs_long pass.retired.items, batched_length (pairs_in pass.retired.items) pass.seat.me.0.view.core.retired pass.tied.batched)
