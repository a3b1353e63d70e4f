use Rattle.std.proofs.Common.{◌+◌, drop, sym, ap, ◌∙◌}
use Rattle.era_rows.specs.Passes.{work_of}
use Rattle.nd_update.specs.Left.{is_touched}
use Rattle.nd_update.proofs.Removing.{drop_there, touched_yes, touched_no}
use Rattle.nd_update.proofs.removes.is_changed.Goals as goal

pub returns-then-work-ge-ROOT_ROWS : goal.returns-then-work-ge-ROOT_ROWS
returns-then-work-ge-ROOT_ROWS c =
    let rest = drop (c.loop-k.k + 1) (work_of c.args.pass.now) in
    sym (sym c.loop-k.invariant ∙ ap is_touched (drop_there (work_of c.args.pass.now) c.loop-k.k c.work.result c.work.ensures) ∙ touched_yes c.work.result rest c.if-work-ge-ROOT_ROWS.true)

pub loop-k-preserved : goal.loop-k-preserved
loop-k-preserved c =
    let rest = drop (c.loop-k.k + 1) (work_of c.args.pass.now) in
    sym (ap is_touched (drop_there (work_of c.args.pass.now) c.loop-k.k c.work.result c.work.ensures) ∙ touched_no c.work.result rest c.if-work-ge-ROOT_ROWS.false) ∙ c.loop-k.invariant
