use Rattle.std.proofs.Common.{rules, arith}
use Rattle.era_rows.proofs.Searching.{search_more}
use Rattle.era_rows.proofs.rows.Rows.take_among.Goals as goal

pub loop-row-preserved : goal.loop-row-preserved
loop-row-preserved g c =
    let busy = c.try_take.ensures.busy (search rules) in
    let sized = c.requires.pass.sized in (
      c.try_take.ensures.pass,
      search rules,
      search rules,
      search_more c.args.from c.loop-row.row _ _ _ busy.0 _ c.loop-row.invariant.3 c.loop-row.invariant.2 busy.1 (omega (arith, sized.passes_are)) (c.try_take.ensures.alone (search rules)) busy.2,
    )
