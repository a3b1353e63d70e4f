use Rattle.std.proofs.Common.{◌∙◌, arith, length-take}
use Rattle.pls_io.proofs.Transfers.{HasRead-more, TakesSome-from_HasRead, TakesAll-from_end, IsTooLong-from_more}
use Rattle.pls_io.proofs.read.read_pieces.Goals as goal

pub returns-in-Ok-eq0-clause-whole : goal.returns-in-Ok-eq0-clause-whole
returns-in-Ok-eq0-clause-whole g c =
    TakesAll-from_end _ _ _ _ _ _ _ _ c.in-Ok-eq0.field-0-test (omega (arith, c.loop-all.invariant.within)) (omega (arith, c.loop-all.auto.piece, c.requires.room)) c.loop-all.invariant.read c.in-Ok-eq0.ensures.reads

pub returns-in-Ok-eq0-clause-rest : goal.returns-in-Ok-eq0-clause-rest
returns-in-Ok-eq0-clause-rest g c =
    TakesSome-from_HasRead _ _ _ (HasRead-more _ _ _ _ _ _ _ c.loop-all.invariant.read c.in-Ok-eq0.ensures.reads)

pub returns-then-n-limit-clause-too_long : goal.returns-then-n-limit-clause-too_long
returns-then-n-limit-clause-too_long g c = λ _.
    IsTooLong-from_more _ _ _ _ _ _ _ _ (omega (arith, c.loop-all.invariant.within)) c.loop-all.invariant.read c.in-Ok.ensures.reads

pub returns-then-n-limit-clause-rest : goal.returns-then-n-limit-clause-rest
returns-then-n-limit-clause-rest g c =
    TakesSome-from_HasRead _ _ _ (HasRead-more _ _ _ _ _ _ _ c.loop-all.invariant.read c.in-Ok.ensures.reads)

pub loop-all-preserved : goal.loop-all-preserved
loop-all-preserved g c =
    record {
      read = rw c.in_ok-extend_from_slice-in-Ok.ensures.items (HasRead-more _ _ _ _ _ _ _ c.loop-all.invariant.read c.in-Ok.ensures.reads);
      within = omega (arith, c.loop-all.invariant.within, c.in_ok-extend_from_slice-in-Ok.ensures.len, length-take c.in-Ok.n c.read.new.buf);
      steady = c.in-Ok.ensures.steady ∙ c.loop-all.invariant.steady;
    }

pub returns-in_err-extend_from_slice-in-Ok-clause-rest : goal.returns-in_err-extend_from_slice-in-Ok-clause-rest
returns-in_err-extend_from_slice-in-Ok-clause-rest g c =
    TakesSome-from_HasRead _ _ _ (HasRead-more _ _ _ _ _ _ _ c.loop-all.invariant.read c.in-Ok.ensures.reads)
