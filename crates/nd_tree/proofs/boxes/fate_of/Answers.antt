use Rattle.std.proofs.Common.{ℤ, List, ap, sym, ◌∙◌}
use Rattle.pls_vectors.specs.Archive.{dominates}
use Rattle.pls_vectors.specs.Dominance.{weakly_dominates}
use Rattle.nd_tree.proofs.Corners.{fate-stays, fate-falls}
use Rattle.nd_tree.proofs.boxes.fate_of.Goals as goal

pub returns-then-not-covers : goal.returns-then-not-covers
returns-then-not-covers c points inside =
    fate-stays c.args.range.now c.args.value.now
    (ap (λ (x : List ℤ). weakly_dominates c.args.value.now x) (sym c.nadir-nadir.ensures) ∙ (sym c.covers.ensures ∙ c.if-not-covers.true)) points inside

pub returns-then-dominates : goal.returns-then-dominates
returns-then-dominates c points inside =
    fate-falls c.args.range.now c.args.value.now
    (ap (λ (x : List ℤ). dominates weakly_dominates c.args.value.now x) (sym c.ideal-ideal.ensures) ∙ (sym c.dominates.ensures ∙ c.if-dominates.true)) points inside
