use Rattle.std.proofs.Common.{◌≡◌, ℕ, Some}
use Rattle.era_rows.specs.Passes.{known_of, IsPassOf}
use Rattle.era_tests.proofs.rows.take_all.Given as goal

abbrev pub invariant-loop-taken : goal.invariant-loop-taken
invariant-loop-taken l = IsPassOf l.rows l.pass × ((n p : ℕ) × ((known_of l.pass).core.pinned ≡ Some (n, p)))
