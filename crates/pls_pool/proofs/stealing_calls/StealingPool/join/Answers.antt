use Rattle.std.proofs.Common.{rules, ◌≡◌, ◌++◌}
use Rattle.pls_pool.proofs.SeatMoves.{may_join, joins}
use Rattle.pls_pool.proofs.stealing_calls.StealingPool.join.Goals as goal

pub put_all_together-requires-clause-join : goal.put_all_together-requires-clause-join
put_all_together-requires-clause-join g c =
    let seat = c.args.seat.now in
    let other = c.args.other in
    may_join c.args.self.now seat.number seat.reaches.items seat.spare c.requires.seats.0 other.number other.reaches.items other.spare c.requires.seats.1 c.requires.apart c.requires.few

pub returns-clause-seat : goal.returns-clause-seat
returns-clause-seat g c =
    let seat = c.args.seat.now in
    let other = c.args.other in
    let both : c.append.new.self ≡ seat.spare ++ other.spare = search rules in
    (joins c.args.self.now seat.number seat.reaches.items seat.spare c.requires.seats.0 other.number other.reaches.items other.spare c.requires.seats.1 c.requires.apart c.requires.few c.put_all_together.new.mine.items c.put_all_together.ensures
    c.append.new.self both).0

pub returns-clause-joined : goal.returns-clause-joined
returns-clause-joined g c =
    let seat = c.args.seat.now in
    let other = c.args.other in
    let both : c.append.new.self ≡ seat.spare ++ other.spare = search rules in
    (joins c.args.self.now seat.number seat.reaches.items seat.spare c.requires.seats.0 other.number other.reaches.items other.spare c.requires.seats.1 c.requires.apart c.requires.few c.put_all_together.new.mine.items c.put_all_together.ensures
    c.append.new.self both).1
