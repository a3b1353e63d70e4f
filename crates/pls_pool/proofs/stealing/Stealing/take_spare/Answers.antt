use Rattle.std.proofs.Common.{rules, ◌≡◌, ◌∷◌}
use Rattle.atomic_table.proofs.Lists.{at_index, at_map}
use Rattle.pls_pool.specs.Reaches.{hand_at}
use Rattle.pls_pool.proofs.SeatMoves.{reach_stays, takes_spare}
use Rattle.pls_pool.proofs.stealing.Stealing.take_spare.Goals as goal

pub returns-clause-seat : goal.returns-clause-seat
returns-clause-seat g c =
    let q = c.args.self.now in
    let seat = c.args.seat.now in
    let rs = seat.reaches.items in
    let r = c.index_mut.result.now in
    let at = at_index rs seat.number r (search rules) c.index_mut.ensures.value in
    let front : seat.spare ≡ c.in_ok-task.task ∷ c.pop_front.new.self = search rules in
    (takes_spare q seat.number rs seat.spare c.requires.seat r c.note_spare.new.reach at (reach_stays q seat.number r c.note_spare.new.reach c.note_spare.ensures.reach (c.requires.seat.each seat.number r at))
    c.in_ok-task.task c.pop_front.new.self front (c.requires.bare (hand_at r) (at_map hand_at rs seat.number r at)) c.note_spare.ensures.hand).0

pub returns-clause-taken : goal.returns-clause-taken
returns-clause-taken g c =
    let q = c.args.self.now in
    let seat = c.args.seat.now in
    let rs = seat.reaches.items in
    let r = c.index_mut.result.now in
    let at = at_index rs seat.number r (search rules) c.index_mut.ensures.value in
    let front : seat.spare ≡ c.in_ok-task.task ∷ c.pop_front.new.self = search rules in
    (takes_spare q seat.number rs seat.spare c.requires.seat r c.note_spare.new.reach at (reach_stays q seat.number r c.note_spare.new.reach c.note_spare.ensures.reach (c.requires.seat.each seat.number r at))
    c.in_ok-task.task c.pop_front.new.self front (c.requires.bare (hand_at r) (at_map hand_at rs seat.number r at)) c.note_spare.ensures.hand).1
