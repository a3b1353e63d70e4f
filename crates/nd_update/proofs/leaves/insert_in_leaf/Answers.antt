use Rattle.std.proofs.Common.{◌≡◌, ◌+◌, ◌*◌, inr, Some, [], ◌∷◌, refl, sym, ap, subst, ◌∙◌, arith}
use Rattle.era_core.specs.declared.sizes.TheConstants.{KINDS}
use Rattle.era_core.specs.Versions.{look_up}
use Rattle.era_core.proofs.ListFacts.{in_head}
use Rattle.era_rows.specs.Known.{known_words}
use Rattle.era_rows.specs.Passes.{known_of, marked_of}
use Rattle.nd_rows.specs.declared.layout.TheConstants.{LEAF, FIRST_LINK}
use Rattle.nd_rows.specs.Nodes.{rows_with}
use Rattle.nd_update.specs.Building.{Outside}
use Rattle.nd_update.proofs.Building.{now_fresh, still_fresh, writes_both}
use Rattle.nd_update.proofs.Filling.{match_both, point_does, point_paid, row_fresh, linked_on, put_does, put_kept, put_fits, put_full, leaf_row}
use Rattle.nd_update.proofs.Lacking.{does_lacks}
use Rattle.nd_update.proofs.Owning.{match_none}
use Rattle.nd_update.proofs.Paying.{paid_more}
use Rattle.nd_update.proofs.Reading.{only_any, only_then, then_only}
use Rattle.nd_update.proofs.leaves.insert_in_leaf.Goals as goal

pub take_row-requires-clause-paid : goal.take_row-requires-clause-paid
take_row-requires-clause-paid c = paid_more 0 (c.args.rows.now.shape + 2) (known_of c.args.pass.now) (marked_of c.args.pass.now) (omega arith) c.requires.paid

pub returns-in_err-at-clause-put : goal.returns-in_err-at-clause-put
returns-in_err-at-clause-put c = match_none c.from_residual.result _ _ c.from_residual.ensures c.in_err-at.ensures.does

pub write_point-requires-clause-fresh : goal.write_point-requires-clause-fresh
write_point-requires-clause-fresh c = let at = c.in_ok-at.at in now_fresh c.args.rows.now (at ∷ []) [] [] c.args.pass.now c.take_row.new.pass c.in_ok-at.ensures.does at (in_head at [])

pub divide-requires-clause-fresh : goal.divide-requires-clause-fresh
divide-requires-clause-fresh c = row_fresh c.args.rows.now c.args.rows.now.shape c.in_ok-at.at c.args.row c.args.pass.now c.take_row.new.pass c.write_point.new.pass c.in_ok-at.ensures.does c.write_point.ensures.does c.requires.fresh

pub divide-requires-clause-paid : goal.divide-requires-clause-paid
divide-requires-clause-paid c =
    let at = c.in_ok-at.at in
    point_paid c.args.rows.now c.args.rows.now.shape at 0 c.args.pass.now c.take_row.new.pass c.write_point.new.pass c.in_ok-at.ensures.does c.write_point.ensures.does 0 c.requires.building c.requires.paid

pub divide-requires-clause-linked : goal.divide-requires-clause-linked
divide-requires-clause-linked c =
    let placed = c.requires.linked.0 in (
      placed,
      linked_on c.args.rows.now c.args.rows.now.shape c.in_ok-at.at c.args.row c.args.pass.now c.take_row.new.pass c.write_point.new.pass c.in_ok-at.ensures.does c.write_point.ensures.does c.requires.fresh placed c.requires.linked.1,
      c.requires.linked.2 ∙ c.if-count.true,
    )

pub returns-then-count-clause-kept : goal.returns-then-count-clause-kept
returns-then-count-clause-kept c =
    match_both c.divide.result _ _ _ _ (λ none. none)
    (λ u kept. put_kept c.args.rows.now c.args.rows.now.shape c.in_ok-at.at c.args.row c.args.pass.now c.take_row.new.pass c.write_point.new.pass c.in_ok-at.ensures.does c.write_point.ensures.does c.requires.fresh c.divide.new.pass kept)
    c.divide.ensures.kept

pub returns-then-count-clause-put : goal.returns-then-count-clause-put
returns-then-count-clause-put c =
    let r = c.args.rows.now in
    let at = c.in_ok-at.at in
    match_both c.divide.result _ _ _ _
    (λ lacks. does_lacks r (at ∷ []) [] (at ∷ []) c.args.pass.now c.write_point.new.pass c.divide.new.pass (point_does c.args.rows.now c.args.rows.now.shape at 0 c.args.pass.now c.take_row.new.pass c.write_point.new.pass c.in_ok-at.ensures.does c.write_point.ensures.does) lacks)
    (λ u filled. (
      at,
      filled.0,
      put_does r r.shape at c.args.row c.args.pass.now c.take_row.new.pass c.write_point.new.pass c.in_ok-at.ensures.does c.write_point.ensures.does c.requires.fresh c.divide.new.pass filled.0 filled.1,
      λ placed has long.
          put_full r r.shape at c.args.row c.args.pass.now c.take_row.new.pass c.write_point.new.pass c.in_ok-at.ensures.does c.write_point.ensures.does c.requires.fresh c.divide.new.pass filled.0 filled.1 placed c.args.point.now
          (long ∙ c.if-count.true)
          (filled.2 placed (linked_on r r.shape at c.args.row c.args.pass.now c.take_row.new.pass c.write_point.new.pass c.in_ok-at.ensures.does c.write_point.ensures.does c.requires.fresh placed has) (long ∙ c.if-count.true)
          (record { row = at; point = c.args.point.now }) refl refl)
          c.write_point.ensures.point,
    ))
    c.divide.ensures.divided

pub write_word-requires-clause-fresh : goal.write_word-requires-clause-fresh
write_word-requires-clause-fresh c = row_fresh c.args.rows.now c.args.rows.now.shape c.in_ok-at.at c.args.row c.args.pass.now c.take_row.new.pass c.write_point.new.pass c.in_ok-at.ensures.does c.write_point.ensures.does c.requires.fresh

pub write_first-requires-clause-fresh : goal.write_first-requires-clause-fresh
write_first-requires-clause-fresh c = still_fresh c.args.rows.now [] [] (c.args.row ∷ []) c.write_point.new.pass c.write_word.new.pass c.write_word.ensures.does c.args.row
    (row_fresh c.args.rows.now c.args.rows.now.shape c.in_ok-at.at c.args.row c.args.pass.now c.take_row.new.pass c.write_point.new.pass c.in_ok-at.ensures.does c.write_point.ensures.does c.requires.fresh)

pub returns-clause-kept : goal.returns-clause-kept
returns-clause-kept c =
    let r = c.args.rows.now in
    put_kept r r.shape c.in_ok-at.at c.args.row c.args.pass.now c.take_row.new.pass c.write_point.new.pass c.in_ok-at.ensures.does c.write_point.ensures.does c.requires.fresh c.write_first.new.pass
    (λ k high. let few = c.requires.few in c.write_first.ensures.outside c.args.row k (inr (inr (omega (arith, high)))) ∙ c.write_word.ensures.outside c.args.row k (inr (inr (omega (arith, high, few, c.if-count.false)))))

pub returns-clause-put : goal.returns-clause-put
returns-clause-put c =
    let r = c.args.rows.now in
    let at = c.in_ok-at.at in
    let row = c.args.row in
    let wrote = writes_both r row c.write_point.new.pass c.write_word.new.pass c.write_first.new.pass c.write_word.ensures.does c.write_first.ensures.does in (
      at,
      [],
      put_does r r.shape at c.args.row c.args.pass.now c.take_row.new.pass c.write_point.new.pass c.in_ok-at.ensures.does c.write_point.ensures.does c.requires.fresh c.write_first.new.pass [] wrote,
      λ placed has long.
          let still = linked_on r r.shape at row c.args.pass.now c.take_row.new.pass c.write_point.new.pass c.in_ok-at.ensures.does c.write_point.ensures.does c.requires.fresh placed has in
          let a = known_words (known_of c.write_point.new.pass) in
          let b = known_words (known_of c.write_word.new.pass) in
          let d = known_words (known_of c.write_first.new.pass) in
          put_fits r r.shape at row c.args.pass.now c.take_row.new.pass c.write_point.new.pass c.in_ok-at.ensures.does c.write_point.ensures.does c.requires.fresh c.write_first.new.pass [] wrote placed c.args.point.now refl
          (omega (arith, long, c.requires.few, c.if-count.false))
          (leaf_row row placed (record { row = at; point = c.args.point.now }) a b d still.linked
          (subst (λ n. Outside row (FIRST_LINK + n) (FIRST_LINK + n + 1) a b) (sym long) c.write_word.ensures.outside)
          (subst (λ n. look_up b row (FIRST_LINK + n) ≡ Some at) (sym long) (c.write_word.ensures.word ∙ ap Some c.from.ensures))
          c.write_first.ensures.outside
          (subst (λ n. look_up d row 0 ≡ Some (KINDS * (n + 1) + LEAF)) (sym long) c.write_first.ensures.word))
          c.write_point.ensures.point,
    )

pub returns-in_err-at-clause-only : goal.returns-in_err-at-clause-only
returns-in_err-at-clause-only c placed has long = only_any (c.args.row ∷ rows_with placed) (known_of c.args.pass.now) (known_of c.take_row.new.pass) c.take_row.ensures.only

pub returns-then-count-clause-only : goal.returns-then-count-clause-only
returns-then-count-clause-only c placed has long =
    let r = c.args.rows.now in
    let at = c.in_ok-at.at in
    let all = c.args.row ∷ rows_with placed in
    let end = c.divide.new.pass in
    then_only r (at ∷ []) [] [] all c.args.pass.now c.take_row.new.pass end c.in_ok-at.ensures.does c.take_row.ensures.only
    (then_only r [] [] (at ∷ []) all c.take_row.new.pass c.write_point.new.pass end c.write_point.ensures.does c.write_point.ensures.only
    (c.divide.ensures.only placed (linked_on r r.shape at c.args.row c.args.pass.now c.take_row.new.pass c.write_point.new.pass c.in_ok-at.ensures.does c.write_point.ensures.does c.requires.fresh placed has) (long ∙ c.if-count.true)))

pub returns-clause-only : goal.returns-clause-only
returns-clause-only c placed has long =
    let r = c.args.rows.now in
    let at = c.in_ok-at.at in
    let end = c.write_first.new.pass in
    only_any (c.args.row ∷ rows_with placed) (known_of c.args.pass.now) (known_of end)
    (only_then r (at ∷ []) [] [] [] c.args.pass.now c.take_row.new.pass end c.in_ok-at.ensures.does c.take_row.ensures.only
    (only_then r [] [] (at ∷ []) [] c.take_row.new.pass c.write_point.new.pass end c.write_point.ensures.does c.write_point.ensures.only
    (only_then r [] [] (c.args.row ∷ []) [] c.write_point.new.pass c.write_word.new.pass end c.write_word.ensures.does c.write_word.ensures.only c.write_first.ensures.only)))
