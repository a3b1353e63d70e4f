use Rattle.era_rows.specs.Passes.{known_of}
use Rattle.era_one_row.proofs.Preparing.{in_listed}
use Rattle.nd_update.proofs.TakingRows.{gives_none, gives_more, fewer_fresh}
use Rattle.nd_update.proofs.takes.give_all_back.Goals as goal

pub give_back-requires-clause-fresh : goal.give_back-requires-clause-fresh
give_back-requires-clause-fresh c = in_listed _ _ _ c.fresh_row-row.ensures

pub loop-pass-smaller : goal.loop-pass-smaller
loop-pass-smaller c = fewer_fresh (known_of c.loop-pass.pass) (known_of c.give_back.new.pass) c.fresh_row-row.result _ c.fresh_row-row.ensures c.give_back.ensures.freed

pub loop-pass-preserved : goal.loop-pass-preserved
loop-pass-preserved c =
    gives_more c.args.rows.now c.args.pass.now c.loop-pass.pass c.give_back.new.pass c.fresh_row-row.result c.loop-pass.invariant c.give_back.ensures.pass c.give_back.ensures.same c.give_back.ensures.freed

pub loop-pass-init : goal.loop-pass-init
loop-pass-init c = gives_none c.args.rows.now c.args.pass.now c.requires
