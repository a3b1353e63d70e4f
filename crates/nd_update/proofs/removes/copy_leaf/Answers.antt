use Rattle.std.proofs.Common.{rules, ◌≡◌, ◌<◌, ◌≤◌, [], ◌∷◌, length, take, refl, sym, ap, subst, ◌∙◌, arith}
use Rattle.era_rows.specs.Known.{known_words}
use Rattle.era_rows.specs.Passes.{known_of}
use Rattle.nd_rows.specs.declared.layout.TheConstants.{FIRST_LINK}
use Rattle.nd_rows.specs.Layout.{HasWords}
use Rattle.nd_rows.specs.Nodes.{rows_with}
use Rattle.nd_rows.proofs.Pending.{length_rows}
use Rattle.nd_update.specs.Removal.{staying}
use Rattle.nd_update.proofs.Building.{writes_both, still_fresh}
use Rattle.nd_update.proofs.Reading.{only_none, only_then}
use Rattle.nd_update.proofs.Removing.{row_still}
use Rattle.nd_update.proofs.LeafSteps.{take_all, staying_few, stays_more, point, point_drop, point_link}
use Rattle.nd_update.proofs.CopyDone.{writes_none, still_boxed}
use Rattle.nd_update.proofs.removes.copy_leaf.Goals as goal

pub loop-k-init : goal.loop-k-init
loop-k-init c = (writes_none c.args.rows.now c.args.pass.now c.args.own c.requires.building, refl, λ v b placed is. (tt, refl), only_none (c.args.row ∷ []) (known_of c.args.pass.now))

pub copy_link-place-requires-clause-building : goal.copy_link-place-requires-clause-building
copy_link-place-requires-clause-building c = c.loop-k.invariant.0.building

pub copy_link-place-requires-clause-row : goal.copy_link-place-requires-clause-row
copy_link-place-requires-clause-row c = row_still c.args.rows.now [] [] (c.args.own ∷ []) c.args.pass.now c.loop-k.pass c.loop-k.invariant.0 c.args.row c.requires.row

pub copy_link-place-requires-clause-own : goal.copy_link-place-requires-clause-own
copy_link-place-requires-clause-own c = still_fresh c.args.rows.now [] [] (c.args.own ∷ []) c.args.pass.now c.loop-k.pass c.loop-k.invariant.0 c.args.own c.requires.own

pub copy_link-place-requires-clause-places : goal.copy_link-place-requires-clause-places
copy_link-place-requires-clause-places c =
    let leaf = c.requires.leaf in
    let few = leaf.3.few in let n = leaf.3.counted in let l = c.loop-k-test.true in
    let at = (c.loop-k.invariant.2 leaf.0 leaf.1 leaf.2 leaf.3).1 in
    let stay = staying_few leaf.0 leaf.2 c.loop-k.k in (omega (arith, few, n, l), omega (arith, few, n, l, at, stay))

pub copy_link-place-requires-clause-link : goal.copy_link-place-requires-clause-link
copy_link-place-requires-clause-link c =
    let leaf = c.requires.leaf in
    let r = c.args.rows.now in
    let p = c.args.pass.now in
    let q = c.loop-k.pass in
    let low : c.loop-k.k < length leaf.2 = (let n = leaf.3.counted in let l = c.loop-k-test.true in omega (arith, n, l)) in
    let pt = point r p q c.args.row leaf.2 leaf.3.points [] [] (c.args.own ∷ []) c.loop-k.invariant.0 c.loop-k.k low in
    (pt.row, point_link r p q c.args.row leaf.2 leaf.3.points [] [] (c.args.own ∷ []) c.loop-k.invariant.0 c.loop-k.k low)

pub loop-k-preserved : goal.loop-k-preserved
loop-k-preserved c =
    let r = c.args.rows.now in
    let p = c.args.pass.now in
    let q = c.loop-k.pass in
    let s = c.copy_link-place.new.pass in (
      writes_both r c.args.own p q s c.loop-k.invariant.0 c.copy_link-place.ensures.does,
      c.copy_link-place.ensures.work ∙ c.loop-k.invariant.1,
      λ v b placed is.
          let so_far = c.loop-k.invariant.2 v b placed is in
          let low : c.loop-k.k < length placed = (let n = is.counted in let l = c.loop-k-test.true in omega (arith, n, l)) in
          let pt = point r p q c.args.row placed is.points [] [] (c.args.own ∷ []) c.loop-k.invariant.0 c.loop-k.k low in
          let link = point_link r p q c.args.row placed is.points [] [] (c.args.own ∷ []) c.loop-k.invariant.0 c.loop-k.k low in
          let stay = staying v (take c.loop-k.k placed) in
          stays_more v placed c.loop-k.k pt (point_drop r p q c.args.row placed is.points [] [] (c.args.own ∷ []) c.loop-k.invariant.0 c.loop-k.k low) c.args.hits.now is.hit (known_words (known_of s)) c.args.own c.loop-k.place c.copy_link-place.result so_far.1
          (c.copy_link-place.ensures.links pt.row (rows_with stay) link so_far.0 (length_rows stay ∙ sym so_far.1)) c.copy_link-place.ensures.place,
      only_then r [] [] (c.args.own ∷ []) (c.args.row ∷ []) p q s c.loop-k.invariant.0 c.loop-k.invariant.3 c.copy_link-place.ensures.only,
    )

pub end_copy-requires : goal.end_copy-requires
end_copy-requires c =
    let r = c.args.rows.now in
    let own = c.args.own in
    let row = c.args.row in
    let leaf = c.requires.leaf in
    let p = c.args.pass.now in
    let q = c.loop-k.pass in
    let links = c.loop-k.invariant.0 in
    record {
      building = links.building;
      row = row_still r [] [] (own ∷ []) p q links row c.requires.row;
      own = still_fresh r [] [] (own ∷ []) p q links own c.requires.own;
      kind = search rules;
      boxed = (leaf.1, record { boxed = still_boxed r own row p q links leaf.1 leaf.3.boxed; corners = leaf.3.corners });
    }

pub returns : goal.returns
returns c =
    let r = c.args.rows.now in
    let own = c.args.own in
    let row = c.args.row in
    let p = c.args.pass.now in
    let q = c.loop-k.pass in
    let s = c.end_copy.new.pass in
    let links = c.loop-k.invariant.0 in
    let ends = c.end_copy.ensures in
    record {
      does = writes_both r own p q s links ends.does;
      work = ends.work ∙ c.loop-k.invariant.1;
      leaf = λ v b placed is.
          let so_far = c.loop-k.invariant.2 v b placed is in
          let stay = staying v placed in
          let all = take_all placed c.loop-k.k (let n = is.counted in let l = c.loop-k-test.false in omega (arith, n, l)) in
          let written = subst (λ ps. HasWords (known_words (known_of q)) own FIRST_LINK (rows_with (staying v ps))) all so_far.0 in
          let len : c.loop-k.place ≡ length (rows_with stay) = so_far.1 ∙ ap (λ ps. length (staying v ps)) all ∙ sym (length_rows stay) in
          let few : length (rows_with stay) ≤ 20 = (let fewer = staying_few v placed (length placed) in let same = ap (λ ps. length (staying v ps)) (take_all placed (length placed) (omega arith)) in let most = is.few in let rows = length_rows stay in omega (arith, fewer, same, most, rows)) in
          record {
            links = ends.links (rows_with stay) written len few;
            boxed = λ nonempty. ends.boxed b (record { boxed = still_boxed r own row p q links b is.boxed; corners = is.corners });
          };
      only = only_then r [] [] (own ∷ []) (row ∷ []) p q s links c.loop-k.invariant.3 ends.only;
    }
