use Rattle.std.proofs.Common.{◌≡◌, length, All, if◌then◌else◌}
use Rattle.pls_archive_tests.proofs.split.on_a_line.Given as goal

abbrev pub invariant-loop-i : goal.invariant-loop-i
invariant-loop-i l = All (λ v. length v ≡ (if l.three then 3 else 2)) l.values
