use Rattle.std.proofs.Common.{inl, length, refl, sym, ◌∙◌, arith}
use Rattle.era_rows.specs.Known.{pinned_copy}
use Rattle.era_rows.specs.Passes.{known_of, work_of}
use Rattle.nd_rows.specs.Nodes.{points_of, necessary}
use Rattle.nd_rows.proofs.Looks.{looks_none, looks_more, looks_work}
use Rattle.nd_rows.proofs.Left.{nothing_left, left_out}
use Rattle.nd_rows.proofs.Asking.{asked_none, asked_all}
use Rattle.nd_rows.proofs.Finding.{finds_both}
use Rattle.nd_rows.proofs.Pops.{popped, pop_looks, pop_finds, pop_yes, pop_more}
use Rattle.nd_rows.proofs.walk.ask_pending.Goals as goal

pub loop-asked-init : goal.loop-asked-init
loop-asked-init c = (
  c.requires.pass,
  λ ns formed on.
      (looks_none c.args.rows.now (necessary c.args.value.now ns) c.args.pass.now c.requires.pass, asked_none (length c.args.value.now) (pinned_copy (known_of c.args.pass.now)) c.args.question c.args.value.now c.args.rows.now.rows (work_of c.args.pass.now) ns formed on, inl refl),
)

pub returns-then-len-eq0-clause-looks : goal.returns-then-len-eq0-clause-looks
returns-then-len-eq0-clause-looks c ns formed on = (c.loop-asked.invariant.1 ns formed on).0

pub returns-then-len-eq0-clause-answer : goal.returns-then-len-eq0-clause-answer
returns-then-len-eq0-clause-answer c ns formed on =
    asked_all (length c.args.value.now) (pinned_copy (known_of c.args.pass.now)) c.args.question c.args.value.now ns c.loop-asked.asked (work_of c.loop-asked.pass) (c.loop-asked.invariant.1 ns formed on).1 (sym c.work_len-len.ensures ∙ c.if-len-eq0.true)

pub returns-then-len-eq0-clause-finds : goal.returns-then-len-eq0-clause-finds
returns-then-len-eq0-clause-finds c ns formed on = (c.loop-asked.invariant.1 ns formed on).2

pub overflow_cast-row : goal.overflow_cast-row
overflow_cast-row c =
    let ns = c.requires.nodes.0 in
    let formed = c.requires.nodes.1 in
    let on = c.requires.nodes.2 in
    let v = c.args.value.now in
    let cut = c.work_cut.ensures in
    let so_far = c.loop-asked.invariant.1 ns formed on in
    let pop = popped c.args.rows.now (length v) (necessary v ns) c.args.pass.now ns c.loop-asked.asked on.few c.loop-asked.pass c.loop-asked.invariant.0 so_far.0 so_far.1.left so_far.1.are_left c.work_len-len.result c.work-row.result c.work_len-len.ensures c.if-len-eq0.false c.work-row.ensures c.work_cut.new.self cut.pass cut.number cut.known cut.marks cut.memory cut.work in
    let small = pop.small in
    omega arith

pub ask_node-requires-clause-pass : goal.ask_node-requires-clause-pass
ask_node-requires-clause-pass c = c.work_cut.ensures.pass c.args.rows.now c.loop-asked.invariant.0

pub ask_node-requires-clause-node : goal.ask_node-requires-clause-node
ask_node-requires-clause-node c =
    let ns = c.requires.nodes.0 in
    let formed = c.requires.nodes.1 in
    let on = c.requires.nodes.2 in
    let v = c.args.value.now in
    let cut = c.work_cut.ensures in
    let so_far = c.loop-asked.invariant.1 ns formed on in
    let pop = popped c.args.rows.now (length v) (necessary v ns) c.args.pass.now ns c.loop-asked.asked on.few c.loop-asked.pass c.loop-asked.invariant.0 so_far.0 so_far.1.left so_far.1.are_left c.work_len-len.result c.work-row.result c.work_len-len.ensures c.if-len-eq0.false c.work-row.ensures c.work_cut.new.self cut.pass cut.number cut.known cut.marks cut.memory cut.work in
    (so_far.1.left, so_far.1.formed, pop.at, pop.room)

pub returns-then-unwrap_or-clause-looks : goal.returns-then-unwrap_or-clause-looks
returns-then-unwrap_or-clause-looks c ns formed on =
    let v = c.args.value.now in
    let cut = c.work_cut.ensures in
    let so_far = c.loop-asked.invariant.1 ns formed on in
    let pop = popped c.args.rows.now (length v) (necessary v ns) c.args.pass.now ns c.loop-asked.asked on.few c.loop-asked.pass c.loop-asked.invariant.0 so_far.0 so_far.1.left so_far.1.are_left c.work_len-len.result c.work-row.result c.work_len-len.ensures c.if-len-eq0.false c.work-row.ensures c.work_cut.new.self cut.pass cut.number cut.known cut.marks cut.memory cut.work in
    let looks = pop_looks c.args.rows.now c.args.question v c.args.pass.now ns c.loop-asked.asked c.loop-asked.pass c.work_cut.new.self c.ask_node.new.pass c.work-row.result so_far.1 pop (c.ask_node.ensures.looks so_far.1.left so_far.1.formed pop.at) c.ask_node.result (c.ask_node.ensures.asks so_far.1.left so_far.1.formed pop.at) in
    let last = c.work_cut-then-unwrap_or.ensures in
    looks_more c.args.rows.now (necessary v ns) c.args.pass.now c.ask_node.new.pass c.work_cut-then-unwrap_or.new.self looks
    (looks_work c.args.rows.now (necessary v ns) c.ask_node.new.pass c.work_cut-then-unwrap_or.new.self looks.is_pass last.pass last.number last.known last.marks last.memory)

pub returns-then-unwrap_or-clause-answer : goal.returns-then-unwrap_or-clause-answer
returns-then-unwrap_or-clause-answer c ns formed on =
    let v = c.args.value.now in
    let cut = c.work_cut.ensures in
    let so_far = c.loop-asked.invariant.1 ns formed on in
    let pop = popped c.args.rows.now (length v) (necessary v ns) c.args.pass.now ns c.loop-asked.asked on.few c.loop-asked.pass c.loop-asked.invariant.0 so_far.0 so_far.1.left so_far.1.are_left c.work_len-len.result c.work-row.result c.work_len-len.ensures c.if-len-eq0.false c.work-row.ensures c.work_cut.new.self cut.pass cut.number cut.known cut.marks cut.memory cut.work in
    pop_yes c.args.rows.now c.args.question v c.args.pass.now ns c.loop-asked.asked c.loop-asked.pass c.work_cut.new.self c.ask_node.new.pass c.work-row.result so_far.1 pop (c.ask_node.ensures.looks so_far.1.left so_far.1.formed pop.at) c.ask_node.result (c.ask_node.ensures.asks so_far.1.left so_far.1.formed pop.at) (sym c.unwrap_or.ensures ∙ c.if-unwrap_or.true)

pub returns-then-unwrap_or-clause-finds : goal.returns-then-unwrap_or-clause-finds
returns-then-unwrap_or-clause-finds c ns formed on =
    let v = c.args.value.now in
    let cut = c.work_cut.ensures in
    let so_far = c.loop-asked.invariant.1 ns formed on in
    let pop = popped c.args.rows.now (length v) (necessary v ns) c.args.pass.now ns c.loop-asked.asked on.few c.loop-asked.pass c.loop-asked.invariant.0 so_far.0 so_far.1.left so_far.1.are_left c.work_len-len.result c.work-row.result c.work_len-len.ensures c.if-len-eq0.false c.work-row.ensures c.work_cut.new.self cut.pass cut.number cut.known cut.marks cut.memory cut.work in
    finds_both (length v) (pinned_copy (known_of c.args.pass.now)) (necessary v ns) (points_of ns) c.args.found.now c.loop-asked.found c.ask_node.new.found so_far.2
    (pop_finds c.args.rows.now c.args.question v c.args.pass.now ns c.loop-asked.asked c.loop-asked.pass c.work_cut.new.self c.ask_node.new.pass c.work-row.result so_far.1 pop (c.ask_node.ensures.looks so_far.1.left so_far.1.formed pop.at) c.ask_node.result (c.ask_node.ensures.asks so_far.1.left so_far.1.formed pop.at)
    c.loop-asked.found c.ask_node.new.found (c.ask_node.ensures.finds so_far.1.left so_far.1.formed pop.at))

pub loop-asked-preserved : goal.loop-asked-preserved
loop-asked-preserved c = (
  (let ns = c.requires.nodes.0 in
      let formed = c.requires.nodes.1 in
      let on = c.requires.nodes.2 in
      let v = c.args.value.now in
      let cut = c.work_cut.ensures in
      let so_far = c.loop-asked.invariant.1 ns formed on in
      let pop = popped c.args.rows.now (length v) (necessary v ns) c.args.pass.now ns c.loop-asked.asked on.few c.loop-asked.pass c.loop-asked.invariant.0 so_far.0 so_far.1.left so_far.1.are_left c.work_len-len.result c.work-row.result c.work_len-len.ensures c.if-len-eq0.false c.work-row.ensures c.work_cut.new.self cut.pass cut.number cut.known cut.marks cut.memory cut.work in
      (c.ask_node.ensures.looks so_far.1.left so_far.1.formed pop.at).is_pass),
  λ ns formed on. (
      let v = c.args.value.now in
      let cut = c.work_cut.ensures in
      let so_far = c.loop-asked.invariant.1 ns formed on in
      let pop = popped c.args.rows.now (length v) (necessary v ns) c.args.pass.now ns c.loop-asked.asked on.few c.loop-asked.pass c.loop-asked.invariant.0 so_far.0 so_far.1.left so_far.1.are_left c.work_len-len.result c.work-row.result c.work_len-len.ensures c.if-len-eq0.false c.work-row.ensures c.work_cut.new.self cut.pass cut.number cut.known cut.marks cut.memory cut.work in (
        pop_looks c.args.rows.now c.args.question v c.args.pass.now ns c.loop-asked.asked c.loop-asked.pass c.work_cut.new.self c.ask_node.new.pass c.work-row.result so_far.1 pop (c.ask_node.ensures.looks so_far.1.left so_far.1.formed pop.at) c.ask_node.result (c.ask_node.ensures.asks so_far.1.left so_far.1.formed pop.at),
        pop_more c.args.rows.now c.args.question v c.args.pass.now ns c.loop-asked.asked c.loop-asked.pass c.work_cut.new.self c.ask_node.new.pass c.work-row.result so_far.1 pop (c.ask_node.ensures.looks so_far.1.left so_far.1.formed pop.at) c.ask_node.result (c.ask_node.ensures.asks so_far.1.left so_far.1.formed pop.at) (sym c.unwrap_or.ensures ∙ c.if-unwrap_or.false),
        finds_both (length v) (pinned_copy (known_of c.args.pass.now)) (necessary v ns) (points_of ns) c.args.found.now c.loop-asked.found c.ask_node.new.found so_far.2
            (pop_finds c.args.rows.now c.args.question v c.args.pass.now ns c.loop-asked.asked c.loop-asked.pass c.work_cut.new.self c.ask_node.new.pass c.work-row.result so_far.1 pop (c.ask_node.ensures.looks so_far.1.left so_far.1.formed pop.at) c.ask_node.result (c.ask_node.ensures.asks so_far.1.left so_far.1.formed pop.at)
            c.loop-asked.found c.ask_node.new.found (c.ask_node.ensures.finds so_far.1.left so_far.1.formed pop.at)),
      )),
)

pub returns-clause-looks : goal.returns-clause-looks
returns-clause-looks c ns formed on = (c.loop-asked.invariant.1 ns formed on).0

pub returns-clause-answer : goal.returns-clause-answer
returns-clause-answer c ns formed on =
    let asked = (c.loop-asked.invariant.1 ns formed on).1 in
    asked_all (length c.args.value.now) (pinned_copy (known_of c.args.pass.now)) c.args.question c.args.value.now ns c.loop-asked.asked (work_of c.loop-asked.pass) asked
    (left_out (length c.args.value.now) (pinned_copy (known_of c.args.pass.now)) ns c.loop-asked.asked (work_of c.loop-asked.pass) asked.left asked.are_left (omega (arith, on.few, c.args.rows.now.few_rows, c.loop-asked-test.false)))

pub returns-clause-finds : goal.returns-clause-finds
returns-clause-finds c ns formed on = (c.loop-asked.invariant.1 ns formed on).2

pub returns-clause-work : goal.returns-clause-work
returns-clause-work c =
    let on = c.requires.nodes in
    let asked = (c.loop-asked.invariant.1 on.0 on.1 on.2).1 in
    nothing_left (work_of c.loop-asked.pass)
    (left_out (length c.args.value.now) (pinned_copy (known_of c.args.pass.now)) on.0 c.loop-asked.asked (work_of c.loop-asked.pass) asked.left asked.are_left (omega (arith, on.2.few, c.args.rows.now.few_rows, c.loop-asked-test.false)))
