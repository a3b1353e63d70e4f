use Rattle.std.proofs.Common.{◌≡◌}
use Rattle.nd_shared.specs.Views.{IsReady}
use Rattle.nd_shared_tests.proofs.beside_plain.replies_as_the_plain_archive.Given as goal

abbrev pub invariant-loop-k : goal.invariant-loop-k
invariant-loop-k g l = IsReady l.tree.rows l.pass × (l.plain.objectives ≡ 3)
