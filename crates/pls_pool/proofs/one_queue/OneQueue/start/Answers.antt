use Rattle.std.proofs.Common.{rules, ◌≡◌, ◌-◌, length, ◌∙◌, arith}
use Rattle.pls_pool.specs.QueueSeats.{IsNewQueueSeat}
use Rattle.pls_pool.proofs.AccountMoves.{started_new}
use Rattle.pls_pool.proofs.Pushed.{each_pushed}
use Rattle.pls_pool.proofs.one_queue.OneQueue.start.Goals as goal

pub returns-clause-seats : goal.returns-clause-seats
returns-clause-seats g c =
    let pool = c.in_ok-pool.pool in
    let all = c.in_ok-all.all in
    let count : length all.items ≡ pool.seats - 1 = (let was = c.in_ok-all.ensures.count in omega (arith, all.ok.0)) in
    each_pushed (IsNewQueueSeat pool) all.items c.seated-last.result (pool.seats - 1) c.push.new.self.items count (search rules) c.in_ok-all.ensures.others
    (record { seat = c.seated-last.ensures.seat; account = started_new _ _ pool.seats (pool.seats - 1) (c.seated-last.ensures.hand ∙ c.in_ok-all.ensures.last) c.seated-last.ensures.bare })
