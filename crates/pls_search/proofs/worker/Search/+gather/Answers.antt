use Rattle.std.proofs.Common.{rules, ap, arith}
use Rattle.pls_pool.specs.declared.tally.Tally.{Tally}
use Rattle.pls_search.specs.Seats.{hands_of}
use Rattle.pls_search.proofs.Gathered.{IsNewWorker-made, gathered}
use Rattle.pls_search.proofs.Joining.{Holds-joined}
use Rattle.pls_search.proofs.Numbers.{numbers-apart, numbers-length}
use Rattle.pls_search.proofs.Room.{room-joined}
use Rattle.pls_search.proofs.worker.Search.+gather.Goals as goal

pub join-requires-clause-apart : goal.join-requires-clause-apart
join-requires-clause-apart g t c κs within = numbers-apart _ _ _ _ c.in-Some.ensures.count c.gather-worker.ensures.holds.numbers c.in-Some.ensures.worker.pool_seat.1.numbers

pub join-requires-clause-few : goal.join-requires-clause-few
join-requires-clause-few g t c κs within =
    let long = numbers-length _ _ _ _ c.in-Some.ensures.count c.gather-worker.ensures.holds.numbers c.in-Some.ensures.worker.pool_seat.1.numbers in
    omega (arith, long, c.requires.few)

pub returns : goal.returns
returns g t c =
    let s = c.args.self.now in
    let first = c.gather-worker.result in
    let other = c.in-Some.other in
    let after = c.join.new.worker in
    let count = c.in-Some.ensures.count in
    let new = c.in-Some.ensures.worker in
    let joins = c.join.ensures.joins in
    let share = ap (λ (t : Tally). t.share) new.desk_seat.tally in
    let rest = c.gather-worker.ensures in
    let is_new = IsNewWorker-made (hands_of g.A.Shared g.P.Pool other) _ _ _ _ new.pass.2 new.pool_seat.1 new.desk_seat.tally new.uncounted.0 new.uncounted.1 in
    record {
      holds = Holds-joined g.A.Shared g.A.Law.Rule g.P.Pool s _ _ first other after count rest.holds new.pool_seat.1.numbers share joins c.join.ensures.seated c.join.ensures.lists;
      full = search rules;
      room = let more = (room-joined _ _ _ joins.views).0 in omega (arith, more, rest.room);
      lacks = λ starts of.
          gathered s.instance.now starts _ _ (hands_of g.A.Shared g.P.Pool first) (hands_of g.A.Shared g.P.Pool other) (hands_of g.A.Shared g.P.Pool after)
          count (rest.lacks starts of) is_new new.pass.2 joins;
    }
