use Rattle.std.proofs.Common.{◌+◌, Some, [], ◌∷◌, ap, ◌∙◌, arith}
use Rattle.era_core.proofs.ListFacts.{in_head}
use Rattle.era_rows.specs.Passes.{known_of, marked_of}
use Rattle.nd_update.proofs.Building.{now_fresh, still_fresh}
use Rattle.nd_update.proofs.Filling.{point_does, point_paid, alone_does, alone_point, alone_leaf}
use Rattle.nd_update.proofs.Lacking.{does_lacks}
use Rattle.nd_update.proofs.Owning.{match_none}
use Rattle.nd_update.proofs.Paying.{paid_more}
use Rattle.nd_update.proofs.Reading.{only_then}
use Rattle.nd_update.proofs.leaves.insert_alone.Goals as goal

pub take_row-requires-clause-paid : goal.take_row-requires-clause-paid
take_row-requires-clause-paid c = paid_more 0 (c.args.rows.now.shape + 2) (known_of c.args.pass.now) (marked_of c.args.pass.now) (omega arith) c.requires.paid

pub returns-in_err-at-clause-inserted : goal.returns-in_err-at-clause-inserted
returns-in_err-at-clause-inserted c = match_none c.from_residual.result _ _ c.from_residual.ensures c.in_err-at.ensures.does

pub write_point-requires-clause-fresh : goal.write_point-requires-clause-fresh
write_point-requires-clause-fresh c = let at = c.in_ok-at.at in now_fresh c.args.rows.now (at ∷ []) [] [] c.args.pass.now c.take_row.new.pass c.in_ok-at.ensures.does at (in_head at [])

pub take_row-requires-2-clause-paid : goal.take_row-requires-2-clause-paid
take_row-requires-2-clause-paid c =
    let at = c.in_ok-at.at in
    paid_more 1 (c.args.rows.now.shape + 2) (known_of c.write_point.new.pass) (marked_of c.write_point.new.pass) (omega arith)
    (point_paid c.args.rows.now c.args.rows.now.shape at 0 c.args.pass.now c.take_row.new.pass c.write_point.new.pass c.in_ok-at.ensures.does c.write_point.ensures.does 0 c.requires.building c.requires.paid)

pub returns-in_err-leaf-clause-inserted : goal.returns-in_err-leaf-clause-inserted
returns-in_err-leaf-clause-inserted c =
    let at = c.in_ok-at.at in
    match_none c.from_residual-in_err-leaf.result _ _ c.from_residual-in_err-leaf.ensures
    (does_lacks c.args.rows.now (at ∷ []) [] (at ∷ []) c.args.pass.now c.write_point.new.pass c.take_row-2.new.pass
    (point_does c.args.rows.now c.args.rows.now.shape at 0 c.args.pass.now c.take_row.new.pass c.write_point.new.pass c.in_ok-at.ensures.does c.write_point.ensures.does) c.in_err-leaf.ensures.does)

pub write_word-requires-clause-fresh : goal.write_word-requires-clause-fresh
write_word-requires-clause-fresh c = let leaf = c.in_ok-leaf.leaf in now_fresh c.args.rows.now (leaf ∷ []) [] [] c.write_point.new.pass c.take_row-2.new.pass c.in_ok-leaf.ensures.does leaf (in_head leaf [])

pub write_first-requires-clause-fresh : goal.write_first-requires-clause-fresh
write_first-requires-clause-fresh c = let leaf = c.in_ok-leaf.leaf in still_fresh c.args.rows.now [] [] (leaf ∷ []) c.take_row-2.new.pass c.write_word.new.pass c.write_word.ensures.does leaf (now_fresh c.args.rows.now (leaf ∷ []) [] [] c.write_point.new.pass c.take_row-2.new.pass c.in_ok-leaf.ensures.does leaf (in_head leaf []))

pub write_box-requires-clause-fresh : goal.write_box-requires-clause-fresh
write_box-requires-clause-fresh c = let leaf = c.in_ok-leaf.leaf in still_fresh c.args.rows.now [] [] (leaf ∷ []) c.write_word.new.pass c.write_first.new.pass c.write_first.ensures.does leaf
    (still_fresh c.args.rows.now [] [] (leaf ∷ []) c.take_row-2.new.pass c.write_word.new.pass c.write_word.ensures.does leaf (now_fresh c.args.rows.now (leaf ∷ []) [] [] c.write_point.new.pass c.take_row-2.new.pass c.in_ok-leaf.ensures.does leaf (in_head leaf [])))

pub returns-clause-inserted : goal.returns-clause-inserted
returns-clause-inserted c =
    let r = c.args.rows.now in
    let at = c.in_ok-at.at in
    let leaf = c.in_ok-leaf.leaf in (
      at,
      alone_does r r.shape at leaf c.args.pass.now c.take_row.new.pass c.write_point.new.pass c.in_ok-at.ensures.does c.write_point.ensures.does
          c.take_row-2.new.pass c.write_word.new.pass c.write_first.new.pass c.write_box.new.pass c.in_ok-leaf.ensures.does c.write_word.ensures.does c.write_first.ensures.does c.write_box.ensures.does,
      alone_point r r.shape at leaf c.args.pass.now c.take_row.new.pass c.write_point.new.pass c.in_ok-at.ensures.does c.write_point.ensures.does
          c.take_row-2.new.pass c.write_word.new.pass c.write_first.new.pass c.write_box.new.pass c.in_ok-leaf.ensures.does c.write_word.ensures.does c.write_first.ensures.does c.write_box.ensures.does
          c.args.point.now c.write_point.ensures.point,
      alone_leaf r r.shape at leaf c.args.pass.now c.take_row.new.pass c.write_point.new.pass c.in_ok-at.ensures.does c.write_point.ensures.does
          c.take_row-2.new.pass c.write_word.new.pass c.write_first.new.pass c.write_box.new.pass c.in_ok-leaf.ensures.does c.write_word.ensures.does c.write_first.ensures.does c.write_box.ensures.does
          c.args.point.now c.of.result (c.write_word.ensures.word ∙ ap Some c.from.ensures) c.write_first.ensures.outside c.write_first.ensures.word c.write_box.ensures.outside c.write_box.ensures.boxed c.of.ensures,
    )

pub returns-in_err-at-clause-only : goal.returns-in_err-at-clause-only
returns-in_err-at-clause-only c = c.take_row.ensures.only

pub returns-in_err-leaf-clause-only : goal.returns-in_err-leaf-clause-only
returns-in_err-leaf-clause-only c =
    let r = c.args.rows.now in
    let at = c.in_ok-at.at in
    let end = c.take_row-2.new.pass in
    only_then r (at ∷ []) [] [] [] c.args.pass.now c.take_row.new.pass end c.in_ok-at.ensures.does c.take_row.ensures.only
    (only_then r [] [] (at ∷ []) [] c.take_row.new.pass c.write_point.new.pass end c.write_point.ensures.does c.write_point.ensures.only c.take_row-2.ensures.only)

pub returns-clause-only : goal.returns-clause-only
returns-clause-only c =
    let r = c.args.rows.now in
    let at = c.in_ok-at.at in
    let leaf = c.in_ok-leaf.leaf in
    let end = c.write_box.new.pass in
    only_then r (at ∷ []) [] [] [] c.args.pass.now c.take_row.new.pass end c.in_ok-at.ensures.does c.take_row.ensures.only
    (only_then r [] [] (at ∷ []) [] c.take_row.new.pass c.write_point.new.pass end c.write_point.ensures.does c.write_point.ensures.only
    (only_then r (leaf ∷ []) [] [] [] c.write_point.new.pass c.take_row-2.new.pass end c.in_ok-leaf.ensures.does c.take_row-2.ensures.only
    (only_then r [] [] (leaf ∷ []) [] c.take_row-2.new.pass c.write_word.new.pass end c.write_word.ensures.does c.write_word.ensures.only
    (only_then r [] [] (leaf ∷ []) [] c.write_word.new.pass c.write_first.new.pass end c.write_first.ensures.does c.write_first.ensures.only c.write_box.ensures.only))))
