use Rattle.std.proofs.Common.{length, subst, ◌∙◌}
use Rattle.era_rows.specs.Known.{pinned_copy}
use Rattle.era_rows.specs.Passes.{known_of, work_of}
use Rattle.nd_rows.specs.Walk.{Asks}
use Rattle.nd_rows.proofs.Below.{looks_row, begin_still, looks_below, finds_below}
use Rattle.nd_rows.proofs.Pending.{row_among, told_answer, told_nothing}
use Rattle.nd_rows.proofs.walk.ask_node.Goals as goal

pub ask_box-requires-clause-row : goal.ask_box-requires-clause-row
ask_box-requires-clause-row c = row_among (length c.args.value.now) (pinned_copy (known_of c.args.pass.now)) c.args.row c.requires.node.0 c.requires.node.2

pub returns-in-Some-clause-looks : goal.returns-in-Some-clause-looks
returns-in-Some-clause-looks c ns formed at =
    looks_row c.args.rows.now (length c.args.value.now) c.args.value.now c.args.pass.now c.args.pass.now c.ask_box.new.pass c.args.row ns at c.ask_box.ensures.looks

pub returns-in-Some-clause-asks : goal.returns-in-Some-clause-asks
returns-in-Some-clause-asks c ns formed at = (
  told_answer (length c.args.value.now) (pinned_copy (known_of c.args.pass.now)) c.args.row c.args.value.now c.args.question ns formed at c.ask_box.result c.ask_box.ensures.answer c.in-Some.answer c.in-Some.is,
  c.ask_box.ensures.work,
)

pub returns-in-None-clause-looks : goal.returns-in-None-clause-looks
returns-in-None-clause-looks c ns formed at =
    let v = c.args.value.now in
    let p = c.args.pass.now in
    let opens = told_nothing (length v) (pinned_copy (known_of p)) c.args.row v c.args.question ns formed at c.ask_box.result c.ask_box.ensures.answer c.in-None.is in
    looks_below c.args.rows.now v p c.ask_box.new.pass c.word-first.new.pass c.args.row ns at c.ask_box.ensures.looks c.word-first.ensures.looks c.ask_below.new.pass
    (c.ask_below.ensures.looks ns (begin_still c.args.rows.now v p c.ask_box.new.pass c.word-first.new.pass c.args.row ns at c.ask_box.ensures.looks c.word-first.ensures.looks) opens)

pub returns-in-None-clause-asks : goal.returns-in-None-clause-asks
returns-in-None-clause-asks c ns formed at =
    let v = c.args.value.now in
    let p = c.args.pass.now in
    let opens = told_nothing (length v) (pinned_copy (known_of p)) c.args.row v c.args.question ns formed at c.ask_box.result c.ask_box.ensures.answer c.in-None.is in
    subst (λ ws. Asks c.args.question v ns c.ask_below.result ws (work_of c.ask_below.new.pass)) (c.word-first.ensures.work ∙ c.ask_box.ensures.work)
    (c.ask_below.ensures.asks ns (begin_still c.args.rows.now v p c.ask_box.new.pass c.word-first.new.pass c.args.row ns at c.ask_box.ensures.looks c.word-first.ensures.looks) opens)

pub returns-in-None-clause-finds : goal.returns-in-None-clause-finds
returns-in-None-clause-finds c ns formed at =
    let v = c.args.value.now in
    let p = c.args.pass.now in
    let opens = told_nothing (length v) (pinned_copy (known_of p)) c.args.row v c.args.question ns formed at c.ask_box.result c.ask_box.ensures.answer c.in-None.is in
    finds_below c.args.rows.now v p c.ask_box.new.pass c.word-first.new.pass c.args.row ns at c.ask_box.ensures.looks c.word-first.ensures.looks c.args.found.now c.ask_below.new.found
    (c.ask_below.ensures.finds ns (begin_still c.args.rows.now v p c.ask_box.new.pass c.word-first.new.pass c.args.row ns at c.ask_box.ensures.looks c.word-first.ensures.looks) opens)
