use Rattle.std.proofs.Common.{◌≡◌, Bool, true, not, ◌&&◌, ap, sym, ◌∙◌}
use Rattle.pls_vectors.specs.Dominance.{weakly_dominates}
use Rattle.pls_vectors.proofs.Dominance.{dominates_is_strict}
use Rattle.pls_vectors.proofs.vector.Vector.dominates.Goals as goal

pub returns-then-covers-clause-strict : goal.returns-then-covers-clause-strict
returns-then-covers-clause-strict c =
    let this = c.args.self.now in
    let other = c.args.other.now in
    let covers : true ≡ weakly_dominates this other = sym c.if-covers.true ∙ c.covers.ensures in
    let both = ap (λ (b : Bool). b && not (weakly_dominates other this)) covers in
    dominates_is_strict this other _ (ap not c.covers-then-covers.ensures ∙ both)
