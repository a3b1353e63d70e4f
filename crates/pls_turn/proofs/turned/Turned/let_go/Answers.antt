use Rattle.std.proofs.Common.{refl}
use Rattle.pls_turn.proofs.turned.Turned.let_go.Goals as goal

pub give_back-requires-clause-may : goal.give_back-requires-clause-may
give_back-requires-clause-may g c =
    let turn = c.requires.turn in
    let archive = c.requires.archive in (
      archive.0,
      archive.1,
      record {
        terms_are = turn.terms_are;
        holds = turn.holds;
        number_is = refl;
        others_are = refl;
        few = turn.few;
        observed = turn.observed;
        agrees = turn.agrees;
        archive = archive.2;
        keeps = λ w apart agrees. agrees;
      },
    )
