use Rattle.std.proofs.Common.{rules, ap, length, sym, ◌∙◌}
use Rattle.std.proofs.lemmas.List.FromFn.{length-range_with_len}
use Rattle.pls_pool.specs.DeskSeats.{tally_of}
use Rattle.pls_search.specs.Seats.{hands_of}
use Rattle.pls_search.proofs.Concluded.{accounted, ended}
use Rattle.pls_search.proofs.worker.Search.conclude.Goals as goal

pub returns-in-Ok-clause-found : goal.returns-in-Ok-clause-found
returns-in-Ok-clause-found g c = λ starts small left.
    let s = c.args.self.now in
    let w = c.args.worker in
    let holds = c.requires.holds in
    let even = c.requires.all in
    let number = g.A.Shared.number s.archive.now in
    let all_seats = ap length holds.numbers ∙ (length-range_with_len 0 (g.A.Shared.passes s.archive.now) ∙ sym even.0) in
    let seats = holds.seated.seats.1.seats_are in
    let told =
    accounted _ (g.P.Pool.account w.pool_seat) (g.P.Pool.account c.take.new.seat) s.desk.now.moves (g.A.Shared.view w.pass) (tally_of w.desk_seat)
    (tally_of c.halted.new.seat) w.explored w.evaluated c.take.result c.take.ensures.taken c.take.ensures.among all_seats c.halted.ensures.tally
    c.halted.ensures.learns (holds.share ∙ (sym even.1 ∙ sym seats)) holds.seated.seats.1.moves_are in
    ended s.instance.now starts s.desk.now.moves _ (hands_of g.A.Shared g.P.Pool w) told small (search rules) (search rules) (g.A.Law.Rule.front number)
    (g.A.Law.Rule.reply number) (g.A.Law.Rule.laws number) c.in-Ok.front _ (g.A.Shared.view c.snapshot.new.pass) c.in-Ok.ensures.answers (seats ∙ even.1)
    c.args.left c.in-Some.end c.in-Some.ensures left
