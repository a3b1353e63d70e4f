use Rattle.std.proofs.Common.{arith}
use Rattle.pls_pool.proofs.DeskMoves.{joins}
use Rattle.pls_pool.proofs.desk.Desk.join.Goals as goal

pub join_seat-requires : goal.join_seat-requires
join_seat-requires c =
    let desk = c.args.self.now in
    let seat = c.args.seat.now.seat in
    let long = desk.long in (
      c.requires.0.at_table,
      c.requires.1.at_table,
      c.args.other.bare,
      omega arith,
      λ s kept at apart there. joins desk.table.shared.key s.words s.views kept seat.id seat.me.0 at c.args.other.seat.id c.args.other.seat.me.0 there apart c.requires.0.holds,
    )
