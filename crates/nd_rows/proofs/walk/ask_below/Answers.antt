use Rattle.std.proofs.Common.{length, ◌∙◌}
use Rattle.era_rows.specs.Known.{pinned_copy}
use Rattle.era_rows.specs.Passes.{known_of, work_of}
use Rattle.nd_rows.specs.Nodes.{points_of, necessary}
use Rattle.nd_rows.proofs.Finding.{finds_or, leaf_found}
use Rattle.nd_rows.proofs.Below.{looks_row, looks_leaf}
use Rattle.nd_rows.proofs.Pending.{links_of, link_row, leaf_there, leaf_asks, inner_asks, links_count}
use Rattle.nd_rows.proofs.walk.ask_below.Goals as goal

pub ask_points-point-requires-clause-points : goal.ask_points-point-requires-clause-points
ask_points-point-requires-clause-points c =
    leaf_there (length c.args.value.now) (pinned_copy (known_of c.args.pass.now)) c.args.row c.requires.node.0 c.args.first c.requires.node.1 c.requires.first c.if-first-eq-LEAF.true

pub returns-then-first-eq-LEAF-clause-looks : goal.returns-then-first-eq-LEAF-clause-looks
returns-then-first-eq-LEAF-clause-looks c ns at is =
    looks_leaf c.args.rows.now (length c.args.value.now) c.args.value.now c.args.pass.now c.args.pass.now c.ask_points-point.new.pass c.args.row ns c.args.first at c.requires.first c.if-first-eq-LEAF.true is c.ask_points-point.ensures.looks

pub returns-then-first-eq-LEAF-clause-asks : goal.returns-then-first-eq-LEAF-clause-asks
returns-then-first-eq-LEAF-clause-asks c ns at is =
    leaf_asks (length c.args.value.now) (pinned_copy (known_of c.args.pass.now)) c.args.row c.args.value.now c.args.question ns c.args.first at c.requires.first c.if-first-eq-LEAF.true c.is_some.result
    (work_of c.args.pass.now) (work_of c.ask_points-point.new.pass) (λ placed has count. c.is_some.ensures ∙ c.ask_points-point.ensures.answer placed has count) c.ask_points-point.ensures.work

pub returns-then-first-eq-LEAF-clause-finds : goal.returns-then-first-eq-LEAF-clause-finds
returns-then-first-eq-LEAF-clause-finds c ns at is =
    let v = c.args.value.now in
    let copy = pinned_copy (known_of c.args.pass.now) in
    finds_or (length v) copy (necessary v ns) (points_of ns) c.ask_points-point.result c.args.found.now c.or.result
    (leaf_found (length v) copy c.args.row v ns c.args.first at c.requires.first c.if-first-eq-LEAF.true is c.ask_points-point.result c.ask_points-point.ensures.row) c.or.ensures

pub returns-clause-looks : goal.returns-clause-looks
returns-clause-looks c ns at is = looks_row c.args.rows.now (length c.args.value.now) c.args.value.now c.args.pass.now c.args.pass.now c.push_links.new.pass c.args.row ns at c.push_links.ensures.looks

pub returns-clause-asks : goal.returns-clause-asks
returns-clause-asks c ns at is =
    let copy = pinned_copy (known_of c.args.pass.now) in
    inner_asks (length c.args.value.now) copy c.args.row c.args.value.now c.args.question ns c.args.first at c.requires.first c.if-first-eq-LEAF.false is (work_of c.args.pass.now) (work_of c.push_links.new.pass)
    (c.push_links.ensures.work (links_of ns) (link_row (length c.args.value.now) copy c.args.row ns at).linked (links_count (length c.args.value.now) copy c.args.row ns c.args.first at c.requires.first))
