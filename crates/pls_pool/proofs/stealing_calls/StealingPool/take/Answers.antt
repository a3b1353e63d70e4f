use Rattle.std.proofs.Common.{arith}
use Rattle.pls_pool.proofs.SeatMoves.{is_among, last_answer}
use Rattle.pls_pool.proofs.stealing_calls.StealingPool.take.Goals as goal

pub returns-in-Some-clause-among : goal.returns-in-Some-clause-among
returns-in-Some-clause-among g c = let seat = c.take_at.new.seat in is_among c.args.self.now seat.number seat.reaches.items seat.spare c.take_at.ensures.seat

pub returns-in-Some-take_spare-clause-among : goal.returns-in-Some-take_spare-clause-among
returns-in-Some-take_spare-clause-among g c = let seat = c.take_spare.new.seat in is_among c.args.self.now seat.number seat.reaches.items seat.spare c.take_spare.ensures.seat

pub returns-in-Some-take_among-clause-among : goal.returns-in-Some-take_among-clause-among
returns-in-Some-take_among-clause-among g c = let seat = c.take_among.new.seat in is_among c.args.self.now seat.number seat.reaches.items seat.spare c.take_among.ensures.seat

pub returns-clause-taken : goal.returns-clause-taken
returns-clause-taken g c =
    last_answer c.args.self.now c.args.seat.now c.take_at.new.seat c.take_spare.new.seat c.take_among.new.seat c.take_among-2.new.seat c.in-None.ensures.taken.0 c.in-None.ensures.taken.1 c.in-None-take_spare.ensures.taken.0
    c.in-None-take_spare.ensures.taken.1 c.in-None-take_among.ensures.taken.0 (λ j low high. c.in-None-take_among.ensures.taken.1 j low (let e = c.len.ensures in omega arith)) c.take_among-2.ensures.seat c.take_among-2.result
    c.take_among-2.ensures.taken

pub returns-clause-among : goal.returns-clause-among
returns-clause-among g c = let seat = c.take_among-2.new.seat in is_among c.args.self.now seat.number seat.reaches.items seat.spare c.take_among-2.ensures.seat
