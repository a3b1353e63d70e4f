use Rattle.std.proofs.Common.{sym, ◌∙◌}
use Rattle.nd_rows.proofs.PinnedTrees.{root_among, root_looks, none_asked, begun, all_looks, all_finds}
use Rattle.nd_rows.proofs.questions.ask.Goals as goal

pub word-first-requires-clause-row : goal.word-first-requires-clause-row
word-first-requires-clause-row c =
    root_among c.args.rows.now c.requires.tree.0 c.args.pass.now c.requires.tree.1 c.in-Some.pin (sym c.in-Some.is ∙ c.pinned.ensures)

pub returns-then-first-eq0-clause-looks : goal.returns-then-first-eq0-clause-looks
returns-then-first-eq0-clause-looks c n tree =
    root_looks c.args.rows.now c.args.value.now n c.args.pass.now tree c.requires.parts c.in-Some.pin (sym c.in-Some.is ∙ c.pinned.ensures) c.word-first.new.pass c.word-first.ensures.looks c.word-first.result c.word-first.ensures.word

pub returns-then-first-eq0-clause-work : goal.returns-then-first-eq0-clause-work
returns-then-first-eq0-clause-work c = c.word-first.ensures.work ∙ c.requires.idle

pub returns-then-first-eq0-clause-answer : goal.returns-then-first-eq0-clause-answer
returns-then-first-eq0-clause-answer c n tree =
    none_asked c.args.rows.now c.args.value.now n c.args.pass.now tree c.requires.parts c.in-Some.pin (sym c.in-Some.is ∙ c.pinned.ensures) c.word-first.new.pass c.word-first.ensures.looks c.word-first.result c.word-first.ensures.word
    c.if-first-eq0.true c.args.question

pub ask_pending-yes-requires-clause-pass : goal.ask_pending-yes-requires-clause-pass
ask_pending-yes-requires-clause-pass c = c.work_push.ensures.pass c.args.rows.now c.word-first.ensures.looks.is_pass

pub ask_pending-yes-requires-clause-nodes : goal.ask_pending-yes-requires-clause-nodes
ask_pending-yes-requires-clause-nodes c =
    let n = c.requires.tree.0 in
    let tree = c.requires.tree.1 in
    let push = c.work_push.ensures in
    let begins = begun c.args.rows.now c.args.value.now n c.args.pass.now tree c.requires.parts c.in-Some.pin (sym c.in-Some.is ∙ c.pinned.ensures) c.word-first.new.pass c.word-first.ensures.looks c.word-first.result c.word-first.ensures.word
    c.if-first-eq0.false (c.word-first.ensures.work ∙ c.requires.idle) c.work_push.new.self push.pass push.number push.known push.marks push.memory push.work in
    (tree.stands.0, begins.formed, begins.on_list)

pub returns-clause-looks : goal.returns-clause-looks
returns-clause-looks c n tree =
    let push = c.work_push.ensures in
    let begins = begun c.args.rows.now c.args.value.now n c.args.pass.now tree c.requires.parts c.in-Some.pin (sym c.in-Some.is ∙ c.pinned.ensures) c.word-first.new.pass c.word-first.ensures.looks c.word-first.result c.word-first.ensures.word
    c.if-first-eq0.false (c.word-first.ensures.work ∙ c.requires.idle) c.work_push.new.self push.pass push.number push.known push.marks push.memory push.work in
    all_looks c.args.rows.now c.args.value.now n c.args.pass.now tree c.requires.parts c.work_push.new.self c.ask_pending-yes.new.pass begins (c.ask_pending-yes.ensures.looks tree.stands.0 begins.formed begins.on_list)

pub returns-clause-answer : goal.returns-clause-answer
returns-clause-answer c n tree =
    let push = c.work_push.ensures in
    let begins = begun c.args.rows.now c.args.value.now n c.args.pass.now tree c.requires.parts c.in-Some.pin (sym c.in-Some.is ∙ c.pinned.ensures) c.word-first.new.pass c.word-first.ensures.looks c.word-first.result c.word-first.ensures.word
    c.if-first-eq0.false (c.word-first.ensures.work ∙ c.requires.idle) c.work_push.new.self push.pass push.number push.known push.marks push.memory push.work in
    c.ask_pending-yes.ensures.answer tree.stands.0 begins.formed begins.on_list

pub returns-clause-row : goal.returns-clause-row
returns-clause-row c n tree =
    let push = c.work_push.ensures in
    let begins = begun c.args.rows.now c.args.value.now n c.args.pass.now tree c.requires.parts c.in-Some.pin (sym c.in-Some.is ∙ c.pinned.ensures) c.word-first.new.pass c.word-first.ensures.looks c.word-first.result c.word-first.ensures.word
    c.if-first-eq0.false (c.word-first.ensures.work ∙ c.requires.idle) c.work_push.new.self push.pass push.number push.known push.marks push.memory push.work in
    all_finds c.args.rows.now c.args.value.now n c.args.pass.now tree c.requires.parts c.work_push.new.self begins c.ask_pending-yes.new.found (c.ask_pending-yes.ensures.finds tree.stands.0 begins.formed begins.on_list)
