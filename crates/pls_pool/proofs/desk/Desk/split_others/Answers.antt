use Rattle.std.proofs.Common.{rules, ◌≡◌, ◌+◌, ◌-◌, [], length, ap, ◌∙◌, arith}
use Rattle.pls_pool.specs.Tallies.{giving, started}
use Rattle.pls_pool.specs.DeskSeats.{IsNewDeskSeat}
use Rattle.pls_pool.proofs.DeskMoves.{splits}
use Rattle.pls_pool.proofs.Pushed.{each_pushed}
use Rattle.pls_pool.proofs.desk.Desk.split_others.Goals as goal

pub split_seat-other-requires : goal.split_seat-other-requires
split_seat-other-requires c =
    let desk = c.args.self.now in
    let seat = c.loop.seat in
    let is = ap (λ m. m.0) c.loop.invariant.1 in
    let share : seat.me.0.share ≡ desk.seats + 1 - c.loop.counter = ap (λ v. v.share) is in
    let low = c.loop-test.true in (
      c.loop.invariant.0,
      (let long = desk.long in omega arith),
      λ s kept at. splits desk.table.shared.key s.words s.views kept seat.id seat.me.0 at (omega arith) (ap (λ v. v.draws) is),
    )

pub loop-preserved : goal.loop-preserved
loop-preserved c =
    let desk = c.args.self.now in
    let count = c.loop.invariant.2 in (
      search rules,
      c.split_seat-other.ensures.2 ∙ ap (λ m. (giving m.0, m.1)) c.loop.invariant.1
          ∙ ap (λ n. (started desk.moves desk.seats n, [])) (let e : desk.seats + 1 - c.loop.counter - 1 ≡ desk.seats + 1 - (c.loop.counter + 1) = omega arith in e),
      search rules,
      each_pushed (λ i. IsNewDeskSeat desk) c.loop.others.items c.seated-other.result _ c.push.new.self.items (λ k. length c.loop.others.items) (search rules) c.loop.invariant.3 c.seated-other.ensures,
    )
