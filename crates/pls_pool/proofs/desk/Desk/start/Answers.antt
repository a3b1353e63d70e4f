use Rattle.std.proofs.Common.{rules, refl}
use Rattle.pls_pool.specs.DeskSeats.{IsNewDeskSeat}
use Rattle.pls_pool.proofs.Pushed.{each_pushed}
use Rattle.pls_pool.proofs.desk.Desk.start.Goals as goal

pub returns-clause-seats : goal.returns-clause-seats
returns-clause-seats c = each_pushed (λ i. IsNewDeskSeat c.in_ok-desk.desk) c.in_ok-all.all.items c.seated-first.result _ c.push.new.self.items refl (search rules) c.in_ok-all.ensures.others c.seated-first.ensures
