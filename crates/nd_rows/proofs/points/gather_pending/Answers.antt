use Rattle.std.proofs.Common.{◌++◌, sym, ◌∙◌, arith}
use Rattle.era_rows.specs.Known.{pinned_copy}
use Rattle.era_rows.specs.Passes.{known_of, work_of}
use Rattle.nd_rows.specs.Nodes.{points_of}
use Rattle.nd_rows.proofs.Looks.{looks_none, looks_on}
use Rattle.nd_rows.proofs.Left.{left_out}
use Rattle.nd_rows.proofs.Gathering.{gathered_none, gathered_all, gathered_node}
use Rattle.nd_rows.proofs.Pops.{popped}
use Rattle.nd_rows.proofs.points.gather_pending.Goals as goal

pub loop-given-init : goal.loop-given-init
loop-given-init c =
    let r = c.args.rows.now in
    let copy = pinned_copy (known_of c.args.pass.now) in
    (looks_none r copy.rows c.args.pass.now c.requires.pass, λ ns on. gathered_none r.shape copy ns r.rows (work_of c.args.pass.now) c.args.points.now.items on)

pub returns-then-len-eq0-clause-points : goal.returns-then-len-eq0-clause-points
returns-then-len-eq0-clause-points c ns on =
    gathered_all c.args.rows.now.shape (pinned_copy (known_of c.args.pass.now)) ns (c.args.points.now.items ++ points_of ns) c.loop-given.given (work_of c.loop-given.pass) c.loop-given.points.items (c.loop-given.invariant.1 ns on)
    (sym c.work_len-len.ensures ∙ c.if-len-eq0.true)

pub overflow_cast-row : goal.overflow_cast-row
overflow_cast-row c =
    let ns = c.requires.nodes.0 in
    let on = c.requires.nodes.1 in
    let r = c.args.rows.now in
    let copy = pinned_copy (known_of c.args.pass.now) in
    let cut = c.work_cut.ensures in
    let so_far = c.loop-given.invariant.1 ns on in
    let pop = popped r r.shape copy.rows c.args.pass.now ns c.loop-given.given on.few c.loop-given.pass c.loop-given.invariant.0.is_pass c.loop-given.invariant.0 so_far.left so_far.are_left c.work_len-len.result c.work-row.result c.work_len-len.ensures c.if-len-eq0.false c.work-row.ensures c.work_cut.new.self cut.pass cut.number cut.known cut.marks cut.memory cut.work in
    let small = pop.small in
    omega arith

pub gather_node-requires-clause-pass : goal.gather_node-requires-clause-pass
gather_node-requires-clause-pass c = c.work_cut.ensures.pass c.args.rows.now c.loop-given.invariant.0.is_pass

pub gather_node-requires-clause-node : goal.gather_node-requires-clause-node
gather_node-requires-clause-node c =
    let ns = c.requires.nodes.0 in
    let on = c.requires.nodes.1 in
    let r = c.args.rows.now in
    let copy = pinned_copy (known_of c.args.pass.now) in
    let cut = c.work_cut.ensures in
    let so_far = c.loop-given.invariant.1 ns on in
    let pop = popped r r.shape copy.rows c.args.pass.now ns c.loop-given.given on.few c.loop-given.pass c.loop-given.invariant.0.is_pass c.loop-given.invariant.0 so_far.left so_far.are_left c.work_len-len.result c.work-row.result c.work_len-len.ensures c.if-len-eq0.false c.work-row.ensures c.work_cut.new.self cut.pass cut.number cut.known cut.marks cut.memory cut.work in
    (so_far.left, pop.at, pop.room)

pub returns-in_err-gather_node-clause-looks : goal.returns-in_err-gather_node-clause-looks
returns-in_err-gather_node-clause-looks c =
    let ns = c.requires.nodes.0 in
    let on = c.requires.nodes.1 in
    let r = c.args.rows.now in
    let copy = pinned_copy (known_of c.args.pass.now) in
    let cut = c.work_cut.ensures in
    let so_far = c.loop-given.invariant.1 ns on in
    let pop = popped r r.shape copy.rows c.args.pass.now ns c.loop-given.given on.few c.loop-given.pass c.loop-given.invariant.0.is_pass c.loop-given.invariant.0 so_far.left so_far.are_left c.work_len-len.result c.work-row.result c.work_len-len.ensures c.if-len-eq0.false c.work-row.ensures c.work_cut.new.self cut.pass cut.number cut.known cut.marks cut.memory cut.work in
    looks_on r c.args.pass.now c.work_cut.new.self c.gather_node.new.pass pop.looks c.gather_node.ensures.looks

pub loop-given-preserved : goal.loop-given-preserved
loop-given-preserved c = (
  (let ns = c.requires.nodes.0 in
      let on = c.requires.nodes.1 in
      let r = c.args.rows.now in
      let copy = pinned_copy (known_of c.args.pass.now) in
      let cut = c.work_cut.ensures in
      let so_far = c.loop-given.invariant.1 ns on in
      let pop = popped r r.shape copy.rows c.args.pass.now ns c.loop-given.given on.few c.loop-given.pass c.loop-given.invariant.0.is_pass c.loop-given.invariant.0 so_far.left so_far.are_left c.work_len-len.result c.work-row.result c.work_len-len.ensures c.if-len-eq0.false c.work-row.ensures c.work_cut.new.self cut.pass cut.number cut.known cut.marks cut.memory cut.work in
      looks_on r c.args.pass.now c.work_cut.new.self c.gather_node.new.pass pop.looks c.gather_node.ensures.looks),
  λ ns on. (
      let r = c.args.rows.now in
      let copy = pinned_copy (known_of c.args.pass.now) in
      let cut = c.work_cut.ensures in
      let so_far = c.loop-given.invariant.1 ns on in
      let pop = popped r r.shape copy.rows c.args.pass.now ns c.loop-given.given on.few c.loop-given.pass c.loop-given.invariant.0.is_pass c.loop-given.invariant.0 so_far.left so_far.are_left c.work_len-len.result c.work-row.result c.work_len-len.ensures c.if-len-eq0.false c.work-row.ensures c.work_cut.new.self cut.pass cut.number cut.known cut.marks cut.memory cut.work in
      gathered_node r.shape copy ns (c.args.points.now.items ++ points_of ns) c.loop-given.given (work_of c.loop-given.pass) c.loop-given.points.items so_far
      c.work-row.result (work_of c.work_cut.new.self) (work_of c.gather_node.new.pass) c.gather_node.new.points.items pop.top (c.in_ok-gather_node.ensures.gathers so_far.left pop.at)),
)

pub returns-clause-points : goal.returns-clause-points
returns-clause-points c ns on =
    let copy = pinned_copy (known_of c.args.pass.now) in
    let so_far = c.loop-given.invariant.1 ns on in
    gathered_all c.args.rows.now.shape copy ns (c.args.points.now.items ++ points_of ns) c.loop-given.given (work_of c.loop-given.pass) c.loop-given.points.items so_far
    (left_out c.args.rows.now.shape copy ns c.loop-given.given (work_of c.loop-given.pass) so_far.left so_far.are_left (omega (arith, on.few, c.args.rows.now.few_rows, c.loop-given-test.false)))
