use Rattle.std.proofs.Common.{ℤ, List, ap, sym, ◌∙◌}
use Rattle.pls_vectors.specs.Dominance.{weakly_dominates}
use Rattle.nd_tree.proofs.Corners.{told-covered, told-not_covered}
use Rattle.nd_tree.proofs.boxes.ask.Goals as goal

pub returns-then-covers : goal.returns-then-covers
returns-then-covers c points inside some =
    told-covered c.args.range.now c.args.value.now c.nadir-nadir.result c.nadir-nadir.ensures (sym c.covers.ensures ∙ c.if-covers.true) points inside some

pub returns : goal.returns
returns c points inside some =
    told-not_covered c.args.range.now c.args.value.now
    (ap (λ (x : List ℤ). weakly_dominates x c.args.value.now) (sym c.ideal-ideal.ensures) ∙ (sym c.covers-2.ensures ∙ c.if-covers-2.false)) points inside
