use Rattle.std.proofs.Common.{◌<◌, length, arith, string_bytes}
use Rattle.std.proofs.Common.{w64, rules}
use mir.Val.{SFits}
use Rattle.std.proofs.lemmas.Int.{to_z-of_z}
use Rattle.pls_problem.specs.Instance.{original}
use Rattle.pls_top.proofs.Joined.{part_written}
use Rattle.pls_top.proofs.report.write_value.Goals as goal

pub loop-k-preserved : goal.loop-k-preserved
loop-k-preserved c =
    let inside : c.loop-k.k < length c.args.value.now = omega arith in
    let fits : SFits w64 c.original-part.result = search rules in
    let fits_part : SFits w64 c.part.result = search rules in
    part_written (original c.args.instance.now) c.args.value.now c.loop-k.k (string_bytes c.args.text.now) (string_bytes c.loop-k.text)
    (string_bytes c.push_word.new.line) c.loop-k.any c.part.result c.part.ensures.value inside c.loop-k.invariant
    (rw (to_z-of_z w64 c.original-part.result fits, c.original-part.ensures, to_z-of_z w64 c.part.result fits_part) at c.in_ok-push_word.ensures)
