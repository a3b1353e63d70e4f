use Rattle.std.proofs.Common.{◌<◌, [], ◌∷◌, ◌++◌, length, refl, ap, ◌∙◌, arith}
use Rattle.era_rows.specs.Known.{pinned_copy}
use Rattle.era_rows.specs.Passes.{known_of}
use Rattle.nd_rows.specs.Nodes.{rows_with, points_with}
use Rattle.nd_rows.proofs.Looks.{looks_none}
use Rattle.nd_rows.proofs.PointRows.{word_small, word_among, point_there, looks_point}
use Rattle.nd_rows.proofs.Links.{placed_at, gathered_more}
use Rattle.nd_rows.proofs.points.gather_points.Goals as goal

pub loop-k-init : goal.loop-k-init
loop-k-init c = (c.requires.pass, refl, λ placed has all. (looks_none c.args.rows.now (c.args.row ∷ rows_with placed) c.args.pass.now c.requires.pass, refl))

pub overflow_cast-link : goal.overflow_cast-link
overflow_cast-link c =
    let points = c.requires.points in
    let small = word_small c.args.rows.now c.args.rows.now.shape c.args.pass.now c.loop-k.pass c.args.row points.0 points.1 (c.loop-k.invariant.2 points.0 points.1 points.2).0 c.loop-k.k
    (omega (arith, c.loop-k-test.true, points.2)) c.word-link.result c.word-link.ensures.word in
    omega arith

pub read_point-point-requires-clause-row : goal.read_point-point-requires-clause-row
read_point-point-requires-clause-row c =
    let points = c.requires.points in
    word_among c.args.rows.now c.args.rows.now.shape c.args.pass.now c.loop-k.pass c.args.row points.0 points.1 (c.loop-k.invariant.2 points.0 points.1 points.2).0 c.loop-k.k
    (omega (arith, c.loop-k-test.true, points.2)) c.word-link.result c.word-link.ensures.word c.word-link.new.pass c.word-link.ensures.looks

pub read_point-point-requires-clause-point : goal.read_point-point-requires-clause-point
read_point-point-requires-clause-point c =
    let points = c.requires.points in
    let low : c.loop-k.k < length points.0 = omega (arith, c.loop-k-test.true, points.2) in
    let at = placed_at c.args.rows.now.shape (pinned_copy (known_of c.args.pass.now)).cells points.0 points.1.points c.loop-k.k low in (
      at.0.point,
      point_there c.args.rows.now c.args.rows.now.shape c.args.pass.now c.loop-k.pass c.args.row points.0 points.1 (c.loop-k.invariant.2 points.0 points.1 points.2).0 c.loop-k.k low
          c.word-link.result c.word-link.ensures.word c.word-link.new.pass c.word-link.ensures.looks at.0 at.2 at.3,
    )

pub loop-k-preserved : goal.loop-k-preserved
loop-k-preserved c = (
  c.read_point-point.ensures.looks.is_pass,
  c.read_point-point.ensures.work ∙ c.word-link.ensures.work ∙ c.loop-k.invariant.1,
  λ placed has count.
      let so_far = c.loop-k.invariant.2 placed has count in
      let low : c.loop-k.k < length placed = omega (arith, c.loop-k-test.true, count) in
      let at = placed_at c.args.rows.now.shape (pinned_copy (known_of c.args.pass.now)).cells placed has.points c.loop-k.k low in
      let there = point_there c.args.rows.now c.args.rows.now.shape c.args.pass.now c.loop-k.pass c.args.row placed has so_far.0 c.loop-k.k low
      c.word-link.result c.word-link.ensures.word c.word-link.new.pass c.word-link.ensures.looks at.0 at.2 at.3 in (
        looks_point c.args.rows.now c.args.rows.now.shape c.args.pass.now c.loop-k.pass c.args.row placed has so_far.0 c.loop-k.k low c.word-link.result c.word-link.ensures.word
            c.word-link.new.pass c.word-link.ensures.looks c.read_point-point.new.pass c.read_point-point.ensures.looks,
        gathered_more placed c.loop-k.k at.0 at.1 (c.args.points.now.items ++ points_with placed) c.loop-k.points.items c.push_reserved.new.self.items c.read_point-point.result
            (c.read_point-point.ensures.point at.0.point there) (c.push_reserved.ensures.items ∙ ap (λ ps. ps ++ c.read_point-point.result ∷ []) c.try_reserve.ensures.items) so_far.1,
      ),
)
