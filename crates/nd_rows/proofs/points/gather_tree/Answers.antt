use Rattle.std.proofs.Common.{sym, ◌∙◌}
use Rattle.std.proofs.lemmas.Result.{on_ok_weaker}
use Rattle.era_rows.specs.Known.{pinned_copy}
use Rattle.era_rows.specs.Passes.{known_of}
use Rattle.nd_rows.proofs.Looks.{looks_more, looks_work, looks_on}
use Rattle.nd_rows.proofs.PinnedTrees.{root_on_list}
use Rattle.nd_rows.proofs.points.gather_tree.Goals as goal

pub gather_pending-gathered-requires-clause-pass : goal.gather_pending-gathered-requires-clause-pass
gather_pending-gathered-requires-clause-pass c = c.work_push.ensures.pass c.args.rows.now c.requires.tree.1.is_pass

pub gather_pending-gathered-requires-clause-nodes : goal.gather_pending-gathered-requires-clause-nodes
gather_pending-gathered-requires-clause-nodes c =
    let tree = c.requires.tree.1 in
    let push = c.work_push.ensures in
    (tree.stands.0, root_on_list c.args.rows.now c.requires.tree.0 c.args.pass.now tree c.in-Some.pin (sym c.in-Some.is ∙ c.pinned.ensures) c.requires.idle c.work_push.new.self push.known push.work)

pub returns-clause-looks : goal.returns-clause-looks
returns-clause-looks c =
    let r = c.args.rows.now in
    let p = c.args.pass.now in
    let all = (pinned_copy (known_of p)).rows in
    let push = c.work_push.ensures in
    let cut = c.work_cut.ensures in
    let walked = c.gather_pending-gathered.new.pass in
    let looks = looks_on r p c.work_push.new.self walked (looks_work r all p c.work_push.new.self c.requires.tree.1.is_pass push.pass push.number push.known push.marks push.memory) c.gather_pending-gathered.ensures.looks in
    looks_more r all p walked c.work_cut.new.self looks (looks_work r all walked c.work_cut.new.self looks.is_pass cut.pass cut.number cut.known cut.marks cut.memory)

pub returns-clause-points : goal.returns-clause-points
returns-clause-points c =
    let push = c.work_push.ensures in
    on_ok_weaker c.gather_pending-gathered.result
    (λ gives. λ n tree. gives tree.stands.0 (root_on_list c.args.rows.now n c.args.pass.now tree c.in-Some.pin (sym c.in-Some.is ∙ c.pinned.ensures) c.requires.idle c.work_push.new.self push.known push.work))
    c.gather_pending-gathered.ensures.points
