use Rattle.std.proofs.Common.{[], ◌∷◌, ap₂, ℤ, List}
use Rattle.pls_vectors.specs.Solution.{Solution}
use Rattle.pls_archive.specs.declared.point.Point.{Point}
use Rattle.nd_rows.specs.Layout.{HasPoint}
use Rattle.nd_rows.proofs.Looks.{looks_more, stays, row_there}
use Rattle.nd_rows.proofs.points.read_point.Goals as goal

point_of : List ℤ → Solution → Point
point_of value sol = record { value = value; sol = sol }

pub read_sol-sol-requires-clause-point : goal.read_sol-sol-requires-clause-point
read_sol-sol-requires-clause-point c =
    let p = c.requires.point.0 in
    (p, stays c.args.rows.now (λ copy. HasPoint c.args.rows.now.shape copy c.args.row p) (c.args.row ∷ []) c.args.pass.now c.read_value-value.new.pass c.read_value-value.ensures.looks c.requires.point.1)

pub read_sol-sol-requires-clause-row : goal.read_sol-sol-requires-clause-row
read_sol-sol-requires-clause-row c = row_there c.args.rows.now (c.args.row ∷ []) c.args.pass.now c.read_value-value.new.pass c.read_value-value.ensures.looks c.args.row c.requires.row

pub returns-clause-looks : goal.returns-clause-looks
returns-clause-looks c = looks_more c.args.rows.now (c.args.row ∷ []) c.args.pass.now c.read_value-value.new.pass c.read_sol-sol.new.pass c.read_value-value.ensures.looks c.read_sol-sol.ensures.looks

pub returns-clause-point : goal.returns-clause-point
unfolding point_of
returns-clause-point c p has =
    ap₂ point_of (c.read_value-value.ensures.value p has)
    (c.read_sol-sol.ensures.sol p (stays c.args.rows.now (λ copy. HasPoint c.args.rows.now.shape copy c.args.row p) (c.args.row ∷ []) c.args.pass.now c.read_value-value.new.pass c.read_value-value.ensures.looks has))
