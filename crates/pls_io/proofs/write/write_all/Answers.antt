use Rattle.std.proofs.Common.{◌∙◌}
use Rattle.std.proofs.lemmas.List.{take_rest}
use Rattle.pls_io.proofs.Transfers.{Writes-more}
use Rattle.pls_io.proofs.write.write_all.Goals as goal

pub loop-done-preserved : goal.loop-done-preserved
loop-done-preserved g c =
    record {
      wrote = Writes-more c.loop-done.done c.in-Ok.n _ _ _ _ _ (take_rest c.args.bytes.now c.loop-done.done) c.loop-done.invariant.wrote c.in-Ok.ensures.writes;
      steady = c.in-Ok.ensures.steady ∙ c.loop-done.invariant.steady;
    }
