use Rattle.std.proofs.Common.{rules}
use Rattle.std.specs.Prelude.{vec_len}
use Rattle.atomic_table.proofs.Lists.{at_index}
use Rattle.pls_pool.proofs.SeatMoves.{reach_after, takes_or_none}
use Rattle.pls_pool.proofs.stealing.Stealing.take_at.Goals as goal

pub take_from-requires : goal.take_from-requires
take_from-requires g c =
    let q = c.args.self.now in
    let seat = c.args.seat.now in
    let stealer = at_index q.stealers.items c.args.number c.index.result.now (search rules) c.index.ensures in
    let r = at_index seat.reaches.items c.args.number c.index_mut.result.now (search rules) c.index_mut.ensures.value in
    record { reach = (vec_len q.stealers, q.room, c.requires.seat.each c.args.number c.index_mut.result.now r c.index.result.now stealer) }

pub returns-clause-seat : goal.returns-clause-seat
returns-clause-seat g c =
    let q = c.args.self.now in
    let seat = c.args.seat.now in
    let stealer = at_index q.stealers.items c.args.number c.index.result.now (search rules) c.index.ensures in
    let r = at_index seat.reaches.items c.args.number c.index_mut.result.now (search rules) c.index_mut.ensures.value in
    (takes_or_none q seat.number seat.reaches.items seat.spare c.requires.seat c.args.number c.index_mut.result.now c.take_from.new.reach r
    (reach_after q c.args.number c.index_mut.result.now c.take_from.new.reach c.index.result.now stealer (c.requires.seat.each c.args.number c.index_mut.result.now r) c.take_from.ensures.reach)
    c.take_from.result c.take_from.ensures.taken).0

pub returns-clause-taken : goal.returns-clause-taken
returns-clause-taken g c =
    let q = c.args.self.now in
    let seat = c.args.seat.now in
    let stealer = at_index q.stealers.items c.args.number c.index.result.now (search rules) c.index.ensures in
    let r = at_index seat.reaches.items c.args.number c.index_mut.result.now (search rules) c.index_mut.ensures.value in
    (takes_or_none q seat.number seat.reaches.items seat.spare c.requires.seat c.args.number c.index_mut.result.now c.take_from.new.reach r
    (reach_after q c.args.number c.index_mut.result.now c.take_from.new.reach c.index.result.now stealer (c.requires.seat.each c.args.number c.index_mut.result.now r) c.take_from.ensures.reach)
    c.take_from.result c.take_from.ensures.taken).1
