use Rattle.nd_shared.specs.Views.{IsReady}
use Rattle.nd_shared_tests.proofs.tree.has_room_for_one_point_in_eight_rows_beyond_64.Given as goal

abbrev pub invariant-loop-k : goal.invariant-loop-k
invariant-loop-k g l = IsReady l.tree.rows l.pass
