use Rattle.std.proofs.Common.{◌≡◌, ◌++◌, length, take, string_bytes}
use Rattle.std.specs.List.{flat_map}
use Rattle.pls_top.specs.Report.{front_line, point_line}
use Rattle.pls_top.proofs.report.report_text.Given as goal

abbrev pub invariant-loop-point : goal.invariant-loop-point
invariant-loop-point l =
    string_bytes l.text ≡ front_line l.instance (length l.points) ++ flat_map (point_line l.instance) (take l.point-index l.points)
