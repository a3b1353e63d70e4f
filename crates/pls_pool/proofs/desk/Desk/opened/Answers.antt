use Rattle.std.proofs.Common.{refl, arith}
use Rattle.atomic_table.specs.Table.{keeps}
use Rattle.pls_pool.specs.Tallies.{opening}
use Rattle.pls_pool.proofs.DeskMoves.{opens}
use Rattle.pls_pool.proofs.desk.Desk.opened.Goals as goal

pub fetch_add-requires : goal.fetch_add-requires
fetch_add-requires c =
    let desk = c.args.self.now in
    let seat = c.args.seat.now.seat in (
      c.requires.at_table,
      (let long = desk.long in omega arith),
      λ s kept homes at bound. (opening seat.me.0, keeps, tt, opens desk.table.shared.key s.words s.views kept seat.id seat.me.0 at c.requires.holds, refl),
    )
