use Rattle.std.proofs.Common.{map, take, string_bytes}
use Rattle.std.specs.Fmt.{signed_decimal}
use Rattle.pls_io.proofs.Joins.{Joins}
use Rattle.pls_problem.specs.Instance.{original}
use Rattle.pls_top.proofs.report.write_value.Given as goal

abbrev pub invariant-loop-k : goal.invariant-loop-k
invariant-loop-k l = Joins signed_decimal (string_bytes l.fn.text) (map (original l.instance) (take l.k l.value)) (string_bytes l.text) l.any
