use Rattle.std.proofs.Common.{rules, sym, ◌∙◌}
use Rattle.pls_search.specs.Seats.{hands_of}
use Rattle.pls_search.proofs.Leavings.{Leaves-went_on}
use Rattle.pls_search.proofs.Room.{room-observed}
use Rattle.pls_search.proofs.worker.Search.go_on.Goals as goal

pub returns-in-Ok-clause-shown : goal.returns-in-Ok-clause-shown
returns-in-Ok-clause-shown g c = record { full = search rules; room = λ is. room-observed _ _ (c.work.ensures.keeps.room is) }

pub returns-in-Ok-clause-leaves : goal.returns-in-Ok-clause-leaves
returns-in-Ok-clause-leaves g c =
    let before = hands_of g.A.Shared g.P.Pool c.args.worker.now in
    let after = hands_of g.A.Shared g.P.Pool c.work.new.worker in
    let seats = c.requires.holds.seated.seats.1.seats_are in
    λ starts.
    Leaves-went_on _ c.args.self.now.instance.now starts _ before after _ c.args.left c.work.result c.in-Ok.is c.work.ensures.explores
    c.work.ensures.keeps.goes_on c.work.ensures.left
    (c.work.ensures.keeps.goes_on.share ∙ (c.requires.holds.share ∙ (sym c.requires.all.1 ∙ sym c.work.ensures.keeps.seated.seats.1.seats_are))) (c.work.ensures.keeps.seated.seats.1.seats_are ∙ sym seats)
    (λ one. c.work.ensures.in_line (c.requires.all.0 ∙ (sym c.requires.all.1 ∙ (sym seats ∙ one))))
