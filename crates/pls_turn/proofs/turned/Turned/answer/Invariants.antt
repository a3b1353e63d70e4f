use Rattle.pls_turn.specs.Turns.{after_entry}
use Rattle.pls_turn.specs.Passes.{entry_of}
use Rattle.pls_turn.proofs.turned.Turned.answer.Given as goal

abbrev pub ghosts-give_back : goal.ghosts-give_back
ghosts-give_back g a =
    let view = a.seat.now.me.0.view in
    record { view = after_entry (entry_of view (g.A.Answer.call a.note.now) (g.A.Answer.reply a.note.now) a.stamp) view }
