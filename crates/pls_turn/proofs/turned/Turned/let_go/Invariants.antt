use Rattle.pls_turn.proofs.turned.Turned.let_go.Given as goal

abbrev pub ghosts-give_back : goal.ghosts-give_back
ghosts-give_back g a = record { view = a.seat.now.me.0.view }
