use Rattle.std.proofs.Common.{rules, sym, ap, subst, arith}
use Rattle.era_rows.specs.Passes.{known_of, LooksTaken}
use Rattle.era_rows.proofs.Searching.{look_more}
use Rattle.era_rows.proofs.rows.Rows.take_freed.Goals as goal
use Rattle.era_rows.proofs.rows.Rows.take_freed.Goals.{else-row-self-via-then-row-self+else-try_take, else-row-self-via-else-row-self}

pub loop-row-preserved : goal.loop-row-preserved
loop-row-preserved g c =
    let rows = c.args.self.now.rows in
    let before = known_of c.args.pass.now in
    let looked = c.loop-row.invariant.2 in
    let sized = c.requires.sized in
    elim c.else-row-self.branch [
      | else-row-self-via-then-row-self+else-try_take w ↦
          let busy = w.try_take.ensures.busy (search rules) in
          let here = look_more 0 rows c.in-Some.row before _ _ busy.0 _ looked (omega arith) (let low = w.if-row-self.true in omega arith) busy.1 (omega (arith, sized.passes_are)) busy.2 in
          (search rules, search rules, subst (LooksTaken 0 rows before) (sym (ap known_of w.pass-is)) here)
      | else-row-self-via-else-row-self w ↦ (search rules, search rules, subst (LooksTaken 0 rows before) (sym (ap known_of w.pass-is)) looked)
    ]
