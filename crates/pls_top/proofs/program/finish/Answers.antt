use Rattle.std.proofs.Common.{refl, inl, inr}
use Rattle.pls_top.proofs.Writing.{wrote_whole, wrote_part}
use Rattle.pls_top.proofs.program.finish.Goals as goal

pub returns-in-Ok-clause-finishes : goal.returns-in-Ok-clause-finishes
returns-in-Ok-clause-finishes g c = inl (refl, c.in-Ok.ensures.steady, wrote_whole _ _ _ c.in-Ok.ensures.whole)

pub returns-in-Err-clause-finishes : goal.returns-in-Err-clause-finishes
returns-in-Err-clause-finishes g c = inr (refl, c.in-Err.ensures.cause, wrote_part _ _ _ _ c.in-Err.ensures.prefix)
