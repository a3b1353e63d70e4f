use Rattle.std.proofs.Common.{string_bytes}
use Rattle.std.specs.Fmt.{decimal}
use Rattle.pls_io.proofs.Joins.{Joins}
use Rattle.pls_top.proofs.Joined.{shown_before}
use Rattle.pls_top.proofs.report.write_solution.Given as goal

abbrev pub invariant-loop-place : goal.invariant-loop-place
invariant-loop-place l = Joins decimal (string_bytes l.fn.text) (shown_before l.instance l.sol l.place) (string_bytes l.text) l.any
