use Rattle.std.proofs.Common.{Some}
use Rattle.std.specs.List.{range_with_len}
use Rattle.pls_pool.specs.Hands.{started}
use Rattle.pls_pool.proofs.one_queue.OneQueue.lay.Given as goal

abbrev pub ghosts-plan : goal.ghosts-plan
ghosts-plan g a = record { now = Some (started a.seats (range_with_len 0 a.seats)) }
