use Rattle.std.proofs.Common.{refl, arith}
use Rattle.atomic_table.specs.Table.{keeps}
use Rattle.pls_pool.specs.Tallies.{closing}
use Rattle.pls_pool.proofs.DeskMoves.{closes}
use Rattle.pls_pool.proofs.desk.Desk.done.Goals as goal

pub fetch_sub-requires : goal.fetch_sub-requires
fetch_sub-requires c =
    let desk = c.args.self.now in
    let seat = c.args.seat.now.seat in (
      c.requires.at_table,
      (let long = desk.long in omega arith),
      λ s kept homes at bound. (closing seat.me.0, keeps, tt, closes desk.table.shared.key s.words s.views kept seat.id seat.me.0 at c.requires.holds, refl),
    )
