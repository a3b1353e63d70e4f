use Rattle.std.proofs.Common.{◌<◌, ◌∷◌, length, refl, ◌∙◌, arith}
use Rattle.era_rows.specs.Known.{pinned_copy}
use Rattle.era_rows.specs.Passes.{known_of}
use Rattle.nd_rows.specs.Nodes.{rows_with}
use Rattle.nd_rows.proofs.Looks.{looks_none}
use Rattle.nd_rows.proofs.PointRows.{word_small, word_among, row_of_point, value_found, looks_point}
use Rattle.nd_rows.proofs.Links.{placed_at, point_found, point_passed}
use Rattle.nd_rows.proofs.walk.ask_points.Goals as goal

pub loop-k-init : goal.loop-k-init
loop-k-init c = (c.requires.pass, refl, λ placed has all. (looks_none c.args.rows.now (c.args.row ∷ rows_with placed) c.args.pass.now c.requires.pass, refl))

pub overflow_cast-point : goal.overflow_cast-point
overflow_cast-point c =
    let points = c.requires.points in
    let small = word_small c.args.rows.now (length c.args.value.now) c.args.pass.now c.loop-k.pass c.args.row points.0 points.1 (c.loop-k.invariant.2 points.0 points.1 points.2).0 c.loop-k.k
    (omega (arith, c.loop-k-test.true, points.2)) c.word-point.result c.word-point.ensures.word in
    omega arith

pub sided-side-requires-clause-row : goal.sided-side-requires-clause-row
sided-side-requires-clause-row c =
    let points = c.requires.points in
    word_among c.args.rows.now (length c.args.value.now) c.args.pass.now c.loop-k.pass c.args.row points.0 points.1 (c.loop-k.invariant.2 points.0 points.1 points.2).0 c.loop-k.k
    (omega (arith, c.loop-k-test.true, points.2)) c.word-point.result c.word-point.ensures.word c.word-point.new.pass c.word-point.ensures.looks

pub overflow_cast-result : goal.overflow_cast-result
overflow_cast-result c =
    let points = c.requires.points in
    let small = word_small c.args.rows.now (length c.args.value.now) c.args.pass.now c.loop-k.pass c.args.row points.0 points.1 (c.loop-k.invariant.2 points.0 points.1 points.2).0 c.loop-k.k
    (omega (arith, c.loop-k-test.true, points.2)) c.word-point.result c.word-point.ensures.word in
    omega arith

pub returns-then-answer_of-clause-looks : goal.returns-then-answer_of-clause-looks
returns-then-answer_of-clause-looks c placed has count =
    looks_point c.args.rows.now (length c.args.value.now) c.args.pass.now c.loop-k.pass c.args.row placed has (c.loop-k.invariant.2 placed has count).0 c.loop-k.k
    (omega (arith, c.loop-k-test.true, count)) c.word-point.result c.word-point.ensures.word c.word-point.new.pass c.word-point.ensures.looks c.sided-side.new.pass c.sided-side.ensures.looks

pub returns-then-answer_of-clause-answer : goal.returns-then-answer_of-clause-answer
returns-then-answer_of-clause-answer c placed has count =
    let v = c.args.value.now in
    let so_far = c.loop-k.invariant.2 placed has count in
    let low : c.loop-k.k < length placed = omega (arith, c.loop-k-test.true, count) in
    let at = placed_at (length v) (pinned_copy (known_of c.args.pass.now)).cells placed has.points c.loop-k.k low in
    let value = value_found c.args.rows.now (length v) c.args.pass.now c.loop-k.pass c.args.row placed has so_far.0 c.loop-k.k low c.word-point.result c.word-point.ensures.word
    c.word-point.new.pass c.word-point.ensures.looks at.0 at.2 at.3 in
    point_found c.args.question placed c.loop-k.k at.0 at.1 v c.answer_of.result c.sided-side.result c.answer_of.ensures (c.sided-side.ensures.answer at.0.point.value value) c.if-answer_of.true so_far.1

pub returns-then-answer_of-clause-row : goal.returns-then-answer_of-clause-row
returns-then-answer_of-clause-row c placed has count =
    let v = c.args.value.now in
    let so_far = c.loop-k.invariant.2 placed has count in
    let low : c.loop-k.k < length placed = omega (arith, c.loop-k-test.true, count) in
    let at = placed_at (length v) (pinned_copy (known_of c.args.pass.now)).cells placed has.points c.loop-k.k low in
    row_of_point c.args.rows.now (length v) c.args.pass.now c.loop-k.pass c.args.row placed has so_far.0 c.loop-k.k low c.word-point.result c.word-point.ensures.word at.0 at.2 at.3 at.4

pub loop-k-preserved : goal.loop-k-preserved
loop-k-preserved c = (
  c.sided-side.ensures.looks.is_pass,
  c.sided-side.ensures.work ∙ c.word-point.ensures.work ∙ c.loop-k.invariant.1,
  λ placed has count.
      let v = c.args.value.now in
      let so_far = c.loop-k.invariant.2 placed has count in
      let low : c.loop-k.k < length placed = omega (arith, c.loop-k-test.true, count) in
      let at = placed_at (length v) (pinned_copy (known_of c.args.pass.now)).cells placed has.points c.loop-k.k low in
      let value = value_found c.args.rows.now (length v) c.args.pass.now c.loop-k.pass c.args.row placed has so_far.0 c.loop-k.k low c.word-point.result c.word-point.ensures.word
      c.word-point.new.pass c.word-point.ensures.looks at.0 at.2 at.3 in (
        looks_point c.args.rows.now (length v) c.args.pass.now c.loop-k.pass c.args.row placed has so_far.0 c.loop-k.k low c.word-point.result c.word-point.ensures.word
            c.word-point.new.pass c.word-point.ensures.looks c.sided-side.new.pass c.sided-side.ensures.looks,
        point_passed c.args.question placed c.loop-k.k at.0 at.1 v c.answer_of.result c.sided-side.result c.answer_of.ensures (c.sided-side.ensures.answer at.0.point.value value) c.if-answer_of.false so_far.1,
      ),
)
