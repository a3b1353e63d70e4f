use Rattle.std.proofs.Common.{[], ◌∷◌, ◌∙◌}
use Rattle.std.proofs.lemmas.Result.{on_ok_weaker}
use Rattle.era_rows.specs.Known.{pinned_copy}
use Rattle.era_rows.specs.Passes.{known_of, work_of}
use Rattle.nd_rows.specs.Nodes.{rows_with}
use Rattle.nd_rows.specs.Walk.{HasPlaced}
use Rattle.nd_rows.proofs.Looks.{looks_more, looks_among, looks_at, stays}
use Rattle.nd_rows.proofs.Pending.{row_among, first_there, leaf_there, placed_among}
use Rattle.nd_rows.proofs.Gathering.{leaf_gathers}
use Rattle.nd_rows.proofs.points.gather_node.Goals as goal

pub word-first-requires-clause-row : goal.word-first-requires-clause-row
word-first-requires-clause-row c = row_among c.args.rows.now.shape (pinned_copy (known_of c.args.pass.now)) c.args.row c.requires.node.0 c.requires.node.1

pub gather_points-requires-clause-points : goal.gather_points-requires-clause-points
gather_points-requires-clause-points c =
    let r = c.args.rows.now in
    let copy = pinned_copy (known_of c.args.pass.now) in
    let node = c.requires.node in
    let there = first_there r.shape copy c.args.row node.0 node.1 c.word-first.result c.word-first.ensures.word in
    let points = leaf_there r.shape copy c.args.row node.0 c.word-first.result node.1 there c.if-first-eq-LEAF.true in
    (points.0, stays r (λ x. HasPlaced r.shape x c.args.row points.0) (c.args.row ∷ []) c.args.pass.now c.word-first.new.pass c.word-first.ensures.looks points.1, points.2)

pub returns-then-first-eq-LEAF-clause-looks : goal.returns-then-first-eq-LEAF-clause-looks
returns-then-first-eq-LEAF-clause-looks c =
    let r = c.args.rows.now in
    let copy = pinned_copy (known_of c.args.pass.now) in
    let node = c.requires.node in
    let here = row_among r.shape copy c.args.row node.0 node.1 in
    let there = first_there r.shape copy c.args.row node.0 node.1 c.word-first.result c.word-first.ensures.word in
    let points = leaf_there r.shape copy c.args.row node.0 c.word-first.result node.1 there c.if-first-eq-LEAF.true in
    looks_more r copy.rows c.args.pass.now c.word-first.new.pass c.gather_points.new.pass
    (looks_at r copy.rows c.args.pass.now c.word-first.new.pass c.args.row here c.word-first.ensures.looks)
    (looks_among r copy.rows (c.args.row ∷ rows_with points.0) c.word-first.new.pass c.gather_points.new.pass (placed_among r.shape copy c.args.row points.0 here points.1)
    (c.gather_points.ensures.looks points.0 (stays r (λ x. HasPlaced r.shape x c.args.row points.0) (c.args.row ∷ []) c.args.pass.now c.word-first.new.pass c.word-first.ensures.looks points.1) points.2))

pub returns-then-first-eq-LEAF-clause-gathers : goal.returns-then-first-eq-LEAF-clause-gathers
returns-then-first-eq-LEAF-clause-gathers c =
    let r = c.args.rows.now in
    let copy = pinned_copy (known_of c.args.pass.now) in
    on_ok_weaker c.gather_points.result
    (λ gives. λ ns at.
    let there = first_there r.shape copy c.args.row ns at c.word-first.result c.word-first.ensures.word in
    leaf_gathers r.shape copy c.args.row ns c.word-first.result at there c.if-first-eq-LEAF.true (work_of c.args.pass.now) (work_of c.gather_points.new.pass) c.args.points.now.items c.gather_points.new.points.items
    (λ placed has count. gives placed (stays r (λ x. HasPlaced r.shape x c.args.row placed) (c.args.row ∷ []) c.args.pass.now c.word-first.new.pass c.word-first.ensures.looks has) count)
    (c.gather_points.ensures.work ∙ c.word-first.ensures.work))
    c.gather_points.ensures.points

pub returns-clause-looks : goal.returns-clause-looks
returns-clause-looks c =
    let r = c.args.rows.now in
    let copy = pinned_copy (known_of c.args.pass.now) in
    let here = row_among r.shape copy c.args.row c.requires.node.0 c.requires.node.1 in
    looks_more r copy.rows c.args.pass.now c.word-first.new.pass c.push_links.new.pass
    (looks_at r copy.rows c.args.pass.now c.word-first.new.pass c.args.row here c.word-first.ensures.looks)
    (looks_at r copy.rows c.word-first.new.pass c.push_links.new.pass c.args.row here c.push_links.ensures.looks)
