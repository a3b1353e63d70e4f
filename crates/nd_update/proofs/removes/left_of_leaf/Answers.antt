use Rattle.std.proofs.Common.{◌+◌, [], ◌∷◌, arith}
use Rattle.era_core.proofs.ListFacts.{in_head}
use Rattle.era_rows.specs.Known.{pinned_copy, known_words}
use Rattle.era_rows.specs.Passes.{known_of, marked_of}
use Rattle.nd_rows.specs.Nodes.{rows_with}
use Rattle.nd_update.specs.Left.{IsHitLeaf}
use Rattle.era_core.specs.Versions.{Copy}
use Rattle.nd_update.proofs.Building.{does_none, does_both, now_fresh}
use Rattle.nd_update.proofs.Paying.{paid_more}
use Rattle.nd_update.proofs.Reading.{only_none, only_any, then_only}
use Rattle.nd_update.proofs.Removing.{stay_pinned, inside_now}
use Rattle.nd_update.proofs.Sweeping.{known_rows}
use Rattle.nd_update.proofs.LeafDone.{leaf_all, leaf_some}
use Rattle.nd_update.proofs.removes.left_of_leaf.Goals as goal

pub returns-then-hit-count-clause-does : goal.returns-then-hit-count-clause-does
returns-then-hit-count-clause-does c = ([], omega arith, does_none c.args.rows.now c.args.pass.now c.requires.building)

pub returns-then-hit-count-clause-left : goal.returns-then-hit-count-clause-left
returns-then-hit-count-clause-left c v b placed is =
    let r = c.args.rows.now in
    let p = c.args.pass.now in (
      [],
      does_none r p c.requires.building,
      leaf_all r.rows r.shape (pinned_copy (known_of p)) c.args.row c.args.count c.args.hits.now v b placed is (known_words (known_of p)) c.args.hit c.requires.hit.0 c.requires.hit.1 c.if-hit-count.true c.told.result (let e = c.told.ensures in omega (arith, e)),
    )

pub take_row-requires-clause-paid : goal.take_row-requires-clause-paid
take_row-requires-clause-paid c =
    let p = c.args.pass.now in paid_more 0 (c.args.rows.now.shape + 2) (known_of p) (marked_of p) (omega arith) c.requires.paid

pub returns-in_err-own-clause-lacks : goal.returns-in_err-own-clause-lacks
returns-in_err-own-clause-lacks c _ = c.in_err-own.ensures.does

pub copy_leaf-requires-clause-own : goal.copy_leaf-requires-clause-own
copy_leaf-requires-clause-own c = now_fresh c.args.rows.now (c.in_ok-own.own ∷ []) [] [] c.args.pass.now c.take_row.new.pass c.in_ok-own.ensures.does c.in_ok-own.own (in_head c.in_ok-own.own [])

pub returns-clause-does : goal.returns-clause-does
returns-clause-does c =
    let own = c.in_ok-own.own in
    (own ∷ [], omega arith, does_both c.args.rows.now (own ∷ []) [] [] [] [] (own ∷ []) c.args.pass.now c.take_row.new.pass c.copy_leaf.new.pass c.in_ok-own.ensures.does c.copy_leaf.ensures.does)

pub returns-clause-left : goal.returns-clause-left
returns-clause-left c v b placed is =
    let r = c.args.rows.now in
    let p = c.args.pass.now in
    let q = c.take_row.new.pass in
    let own = c.in_ok-own.own in
    let took = c.in_ok-own.ensures.does in
    let there = stay_pinned r (λ (x : Copy). IsHitLeaf r.shape x c.args.row c.args.count c.args.hits.now v b placed) (own ∷ []) [] [] p q took is in (
      own ∷ [],
      does_both r (own ∷ []) [] [] [] [] (own ∷ []) p q c.copy_leaf.new.pass took c.copy_leaf.ensures.does,
      leaf_some r.rows r.shape (pinned_copy (known_of p)) c.args.row c.args.count c.args.hits.now v b placed is (known_words (known_of c.copy_leaf.new.pass)) c.args.hit c.requires.hit.0 c.requires.hit.1 c.if-hit-count.false
          (known_rows r.rows v r.shape (pinned_copy (known_of p)) r.few_rows (inside_now r p c.requires.building.is_pass) (rows_with placed) is.points.among) own c.told-2.result (let e = c.told-2.ensures in omega (arith, e)) (c.copy_leaf.ensures.leaf v b placed there),
    )

pub returns-then-hit-count-clause-only : goal.returns-then-hit-count-clause-only
returns-then-hit-count-clause-only c = only_none (c.args.row ∷ []) (known_of c.args.pass.now)

pub returns-in_err-own-clause-only : goal.returns-in_err-own-clause-only
returns-in_err-own-clause-only c = only_any (c.args.row ∷ []) (known_of c.args.pass.now) (known_of c.take_row.new.pass) c.take_row.ensures.only

pub returns-clause-only : goal.returns-clause-only
returns-clause-only c =
    then_only c.args.rows.now (c.in_ok-own.own ∷ []) [] [] (c.args.row ∷ []) c.args.pass.now c.take_row.new.pass c.copy_leaf.new.pass c.in_ok-own.ensures.does c.take_row.ensures.only c.copy_leaf.ensures.only
