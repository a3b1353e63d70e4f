use Rattle.std.proofs.Common.{slice_index, ap, refl, arith}
use Rattle.atomic_table.specs.Table.{keeps}
use Rattle.pls_pool.specs.Tallies.{drawing}
use Rattle.pls_pool.proofs.DeskMoves.{draws}
use Rattle.pls_pool.proofs.desk.Desk.draw.Goals as goal

pub fetch_add-number-requires : goal.fetch_add-number-requires
fetch_add-number-requires c =
    let desk = c.args.self.now in
    let seat = c.args.seat.now.seat in
    let long = desk.long in
    let key_is = desk.sized in
    let few_moves = desk.few_moves in
    let few_seats = desk.few_seats in (
      c.requires.seat.at_table,
      omega arith,
      λ s kept homes at bound. (
        drawing (slice_index s.words 8) seat.me.0,
        keeps,
        tt,
        draws desk.table.shared.key s.words s.views kept seat.id seat.me.0 at c.requires.seat.holds c.requires.fresh (omega (arith, ap (λ k. k.moves) key_is)) (omega (arith, ap (λ k. k.seats) key_is)),
        refl,
      ),
    )
