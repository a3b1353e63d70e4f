use Rattle.std.proofs.Common.{◌≡◌}
use Rattle.pls_archive_tests.proofs.plain.shows_its_members_in_order.Given as goal

abbrev pub invariant-loop-a : goal.invariant-loop-a
invariant-loop-a g l = l.archive.objectives ≡ 2
