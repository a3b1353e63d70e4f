use Rattle.std.proofs.Common.{sym, ◌∙◌}
use Rattle.pls_search.proofs.Room.{room-observed}
use Rattle.pls_search.proofs.worker.Search.depart.Goals as goal

pub returns : goal.returns
returns g c =
    let keeps = c.work-end.ensures.keeps in
    record {
      seated = keeps.seated;
      departs = record {
        explores = c.work-end.ensures.explores;
        goes_on = keeps.goes_on;
        seats = keeps.seated.seats.1.seats_are ∙ sym c.requires.seated.seats.1.seats_are;
        in_line = λ one. c.work-end.ensures.in_line (c.requires.all.0 ∙ (sym c.requires.all.1 ∙ (sym c.requires.seated.seats.1.seats_are ∙ one)));
      };
      full = keeps.full;
      room = λ is. room-observed _ _ (keeps.room is);
    }
