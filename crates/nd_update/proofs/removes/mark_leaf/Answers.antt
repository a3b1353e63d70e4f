use Rattle.std.proofs.Common.{◌≡◌, ◌+◌, ◌<◌, [], ◌∷◌, length, take, drop, refl, ap, ◌∙◌, arith}
use Rattle.era_core.specs.Lists.{times}
use Rattle.era_core.proofs.ListFacts.{times-head}
use Rattle.era_rows.specs.Passes.{marked_of}
use Rattle.nd_rows.specs.Nodes.{rows_with}
use Rattle.nd_update.specs.Removal.{going}
use Rattle.nd_update.proofs.Building.{does_as, mark_does}
use Rattle.nd_update.proofs.Reading.{only_then, only_list}
use Rattle.nd_update.proofs.Removing.{row_still}
use Rattle.nd_update.proofs.LeafSteps.{take_all, point, point_drop, point_link, point_there}
use Rattle.nd_update.proofs.LeafDone.{unmarked_at, marks_more}
use Rattle.nd_update.proofs.removes.mark_leaf.Goals as goal

pub mark-requires-clause-unmarked : goal.mark-requires-clause-unmarked
mark-requires-clause-unmarked c =
    let leaf = c.requires.leaf in
    let once = leaf.4 c.args.row in
    let head = times-head c.args.row (rows_with leaf.2) in omega (arith, once, head)

pub loop-k-init : goal.loop-k-init
loop-k-init c = (
  c.mark.ensures.same.same_work,
  λ v b placed is.
      let unmarked : times c.args.row (marked_of c.args.pass.now) ≡ 0 = (let once = c.requires.leaf.4 c.args.row in let head = times-head c.args.row (rows_with c.requires.leaf.2) in omega (arith, once, head)) in
      mark_does c.args.rows.now c.args.pass.now c.mark.new.pass c.args.row c.requires.building c.requires.row unmarked c.mark.ensures.pass c.mark.ensures.same c.mark.ensures.known c.mark.ensures.marked,
  only_list (c.args.row ∷ []) c.args.pass.now c.mark.new.pass c.mark.ensures.known,
)

pub mark_link-requires-clause-building : goal.mark_link-requires-clause-building
mark_link-requires-clause-building c = let leaf = c.requires.leaf in (c.loop-k.invariant.1 leaf.0 leaf.1 leaf.2 leaf.3).building

pub mark_link-requires-clause-row : goal.mark_link-requires-clause-row
mark_link-requires-clause-row c =
    let leaf = c.requires.leaf in
    row_still c.args.rows.now [] (c.args.row ∷ rows_with (going leaf.0 (take c.loop-k.k leaf.2))) [] c.args.pass.now c.loop-k.pass (c.loop-k.invariant.1 leaf.0 leaf.1 leaf.2 leaf.3) c.args.row c.requires.row

pub mark_link-requires-clause-place : goal.mark_link-requires-clause-place
mark_link-requires-clause-place c = let leaf = c.requires.leaf in let few = leaf.3.few in let n = leaf.3.counted in let l = c.loop-k-test.true in omega (arith, few, n, l)

pub mark_link-requires-clause-link : goal.mark_link-requires-clause-link
mark_link-requires-clause-link c =
    let leaf = c.requires.leaf in
    let r = c.args.rows.now in
    let p = c.args.pass.now in
    let q = c.loop-k.pass in
    let marks = c.args.row ∷ rows_with (going leaf.0 (take c.loop-k.k leaf.2)) in
    let so_far = c.loop-k.invariant.1 leaf.0 leaf.1 leaf.2 leaf.3 in
    let low : c.loop-k.k < length leaf.2 = (let n = leaf.3.counted in let l = c.loop-k-test.true in omega (arith, n, l)) in
    let pt = point r p q c.args.row leaf.2 leaf.3.points [] marks [] so_far c.loop-k.k low in (
      pt.row,
      point_link r p q c.args.row leaf.2 leaf.3.points [] marks [] so_far c.loop-k.k low,
      point_there r p q c.args.row leaf.2 leaf.3.points [] marks [] so_far c.loop-k.k low,
      unmarked_at leaf.0 leaf.2 c.loop-k.k pt (drop (c.loop-k.k + 1) leaf.2) c.args.row (marked_of p) (marked_of q) (point_drop r p q c.args.row leaf.2 leaf.3.points [] marks [] so_far c.loop-k.k low) leaf.4 so_far.marks,
    )

pub loop-k-preserved : goal.loop-k-preserved
loop-k-preserved c = (
  c.mark_link.ensures.work ∙ c.loop-k.invariant.0,
  λ v b placed is.
      let r = c.args.rows.now in
      let p = c.args.pass.now in
      let q = c.loop-k.pass in
      let s = c.mark_link.new.pass in
      let marks = c.args.row ∷ rows_with (going v (take c.loop-k.k placed)) in
      let so_far = c.loop-k.invariant.1 v b placed is in
      let low : c.loop-k.k < length placed = (let n = is.counted in let l = c.loop-k-test.true in omega (arith, n, l)) in
      let pt = point r p q c.args.row placed is.points [] marks [] so_far c.loop-k.k low in
      let at = point_drop r p q c.args.row placed is.points [] marks [] so_far c.loop-k.k low in
      marks_more r v c.args.row placed c.loop-k.k pt at c.args.hits.now is.hit p q s so_far (c.mark_link.ensures.does pt.row (point_link r p q c.args.row placed is.points [] marks [] so_far c.loop-k.k low)),
  let leaf = c.requires.leaf in
      only_then c.args.rows.now [] (c.args.row ∷ rows_with (going leaf.0 (take c.loop-k.k leaf.2))) [] (c.args.row ∷ []) c.args.pass.now c.loop-k.pass c.mark_link.new.pass (c.loop-k.invariant.1 leaf.0 leaf.1 leaf.2 leaf.3) c.loop-k.invariant.2 c.mark_link.ensures.only,
)

pub returns-clause-does : goal.returns-clause-does
returns-clause-does c v b placed is =
    let all = take_all placed c.loop-k.k (let n = is.counted in let l = c.loop-k-test.false in omega (arith, n, l)) in
    does_as c.args.rows.now [] (c.args.row ∷ rows_with (going v (take c.loop-k.k placed))) [] [] (c.args.row ∷ rows_with (going v placed)) [] c.args.pass.now c.loop-k.pass refl (ap (λ ps. c.args.row ∷ rows_with (going v ps)) all) (λ x here. here) (c.loop-k.invariant.1 v b placed is)

pub returns-clause-only : goal.returns-clause-only
returns-clause-only c = c.loop-k.invariant.2
