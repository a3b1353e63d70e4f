use Rattle.std.proofs.Common.{◌<◌, [], ◌∷◌, length, refl, sym, ap, subst, ◌∙◌, arith}
use Rattle.std.specs.Prelude.{is_some}
use Rattle.era_core.specs.Lists.{In}
use Rattle.era_core.proofs.ListFacts.{in_head, in_tail}
use Rattle.era_rows.specs.Known.{pinned_copy}
use Rattle.era_rows.specs.Passes.{known_of}
use Rattle.nd_rows.specs.declared.layout.TheConstants.{VALUE}
use Rattle.nd_rows.specs.Layout.{HasValue}
use Rattle.nd_rows.specs.Nodes.{rows_with}
use Rattle.nd_update.proofs.Building.{does_none, looks_do, read_does}
use Rattle.nd_update.proofs.Reading.{only_none, only_then, only_row}
use Rattle.nd_update.proofs.Opening.{only_at}
use Rattle.nd_update.proofs.Listing.{is_some-sided}
use Rattle.nd_update.proofs.LeafSteps.{hits_more, point, point_drop, point_in, word_is, word_low, word_there, value_there}
use Rattle.nd_update.proofs.removes.dominated.Goals as goal

pub loop-k-init : goal.loop-k-init
loop-k-init c = (does_none c.args.rows.now c.args.pass.now c.requires.building, refl, λ placed has n. refl, λ placed has n. only_none (c.args.row ∷ rows_with placed) (known_of c.args.pass.now))

pub overflow_cast-point : goal.overflow_cast-point
overflow_cast-point c =
    let points = c.requires.points in
    let small = word_low c.args.rows.now c.args.pass.now c.loop-k.pass c.args.row points.0 points.1 [] [] [] c.loop-k.invariant.0 c.loop-k.k (let l = c.loop-k-test.true in let n = points.2 in omega (arith, l, n)) c.word-point.result c.word-point.ensures.word in omega (arith, small)

pub sided-side-requires-clause-row : goal.sided-side-requires-clause-row
sided-side-requires-clause-row c =
    let points = c.requires.points in
    word_there c.args.rows.now c.args.pass.now c.loop-k.pass c.args.row points.0 points.1 [] [] [] c.loop-k.invariant.0 c.loop-k.k (let l = c.loop-k-test.true in let n = points.2 in omega (arith, l, n)) c.word-point.result c.word-point.ensures.word
    c.word-point.new.pass c.word-point.ensures.looks

pub loop-k-preserved : goal.loop-k-preserved
loop-k-preserved c =
    let r = c.args.rows.now in
    let p = c.args.pass.now in
    let q = c.loop-k.pass in
    let s = c.word-point.new.pass in
    let t = c.sided-side.new.pass in
    let v = c.args.value.now in
    let so_far = c.loop-k.invariant.0 in
    let one = looks_do r (c.args.row ∷ []) q s so_far.building c.word-point.ensures.looks in
    let two = looks_do r (c.word-point.result ∷ []) s t one.building c.sided-side.ensures.looks in (
      read_does r [] [] [] p q t so_far (read_does r [] [] [] q s t one two),
      c.sided-side.ensures.work ∙ c.word-point.ensures.work ∙ c.loop-k.invariant.1,
      λ placed has n.
          let low : c.loop-k.k < length placed = (let l = c.loop-k-test.true in omega (arith, l, n)) in
          let room : c.loop-k.k < 20 = (let l = c.loop-k-test.true in let few = c.requires.few in omega (arith, l, few)) in
          let pt = point r p q c.args.row placed has [] [] [] so_far c.loop-k.k low in
          let value = value_there r p q c.args.row placed has [] [] [] so_far c.loop-k.k low c.word-point.result c.word-point.ensures.word s c.word-point.ensures.looks in
          let side = c.sided-side.ensures.answer pt.point.value (subst (λ m. HasValue m (pinned_copy (known_of s)).cells c.word-point.result VALUE pt.point.value) (sym c.requires.parts) value) in
          hits_more v placed c.loop-k.k pt (point_drop r p q c.args.row placed has [] [] [] so_far c.loop-k.k low) low room c.loop-k.hits (c.loop-k.invariant.2 placed has n) c.is_some.result
          (c.is_some.ensures ∙ ap is_some side ∙ is_some-sided v pt.point.value),
      λ placed has n.
          let low : c.loop-k.k < length placed = (let l = c.loop-k-test.true in omega (arith, l, n)) in
          let row = c.args.row in
          let link = c.word-point.result in
          let rows = row ∷ rows_with placed in
          let is = word_is r p q row placed has [] [] [] so_far c.loop-k.k low link c.word-point.ensures.word in
          let in_rows = subst (λ x. In x (rows_with placed)) (sym is) (point_in r p q row placed has [] [] [] so_far c.loop-k.k low) in
          only_then r [] [] [] rows p q t so_far (c.loop-k.invariant.3 placed has n)
          (only_then r [] [] [] rows q s t one (only_row row rows (known_of q) (known_of s) (in_head row (rows_with placed)) (only_at r (row ∷ []) q s so_far.building c.word-point.ensures.looks))
          (only_row link rows (known_of s) (known_of t) (in_tail link row (rows_with placed) in_rows) (only_at r (link ∷ []) s t one.building c.sided-side.ensures.looks))),
    )

pub returns-clause-only : goal.returns-clause-only
returns-clause-only c placed has n = c.loop-k.invariant.3 placed has n
