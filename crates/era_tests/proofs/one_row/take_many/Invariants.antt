use Rattle.std.proofs.Common.{◌≡◌, length}
use Rattle.era_rows.specs.Passes.{IsPassOf}
use Rattle.era_tests.proofs.one_row.take_many.Given as goal

abbrev pub invariant-loop : goal.invariant-loop
invariant-loop l = IsPassOf l.rows l.pass × (length l.seen.items ≡ 64)
