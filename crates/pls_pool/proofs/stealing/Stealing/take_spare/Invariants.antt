use Rattle.std.proofs.Common.{Some}
use Rattle.pls_pool.specs.Hands.{taking_spare}
use Rattle.pls_pool.specs.Reaches.{hand_at}
use Rattle.pls_pool.proofs.stealing.Stealing.take_spare.Given as goal

abbrev pub ghosts-note_spare : goal.ghosts-note_spare
ghosts-note_spare g a = record { now = Some (taking_spare a.task.now (hand_at a.reach.now)) }
