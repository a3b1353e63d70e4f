use Rattle.std.proofs.Common.{◌≡◌, drop}
use Rattle.std.specs.Cmp.Lexicographic.{slice_cmp}
use Rattle.std.specs.Ordering.{int_cmp}
use Rattle.pls_archive.proofs.point_list.lex.Given as goal

abbrev pub invariant-loop-k : goal.invariant-loop-k
invariant-loop-k l = slice_cmp int_cmp (drop l.k l.a) (drop l.k l.b) ≡ slice_cmp int_cmp l.a l.b
