use Rattle.std.proofs.Common.{Some}
use Rattle.pls_pool.specs.Hands.{started}
use Rattle.pls_pool.specs.Deals.{in_turn}
use Rattle.pls_pool.proofs.stealing_starts.open.Given as goal

abbrev pub ghosts-plan : goal.ghosts-plan
ghosts-plan g a = record { now = Some (started a.seats (in_turn a.seats a.number)) }
