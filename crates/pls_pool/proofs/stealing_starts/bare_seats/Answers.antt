use Rattle.std.proofs.Common.{rules, ◌≡◌, [], length, arith}
use Rattle.pls_pool.specs.Deals.{IsBegun}
use Rattle.pls_pool.proofs.Pushed.{each_pushed}
use Rattle.pls_pool.proofs.stealing_starts.bare_seats.Goals as goal

pub loop-number-preserved : goal.loop-number-preserved
loop-number-preserved g c =
    let all = c.loop-number.all in
    let was = c.loop-number.invariant in
    let count : length all.items ≡ c.loop-number.number = (let len = was.0 in omega (arith, all.ok.0)) in (
      search rules,
      each_pushed (IsBegun 0 0 []) all.items c.in_ok-seat.seat c.loop-number.number c.push.new.self.items count (search rules) was.1 c.in_ok-seat.ensures,
    )
