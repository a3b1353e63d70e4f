use Rattle.std.proofs.Common.{List, ℤ, refl, sym, ap, subst, take, ◌∙◌}
use Rattle.pls_vectors.specs.Box.{smaller}
use Rattle.pls_vectors.specs.Vector.{IsStored}
use Rattle.pls_vectors.proofs.Stored.{places_in_range}
use Rattle.pls_vectors.proofs.Boxes.{at_each-stored, smaller-keeps}
use Rattle.pls_vectors.proofs.vector.Vector.lower.Goals as goal

pub smaller_at_each-requires-clause-a_in_range : goal.smaller_at_each-requires-clause-a_in_range
smaller_at_each-requires-clause-a_in_range c = places_in_range c.self.invariant

pub smaller_at_each-requires-clause-b_in_range : goal.smaller_at_each-requires-clause-b_in_range
smaller_at_each-requires-clause-b_in_range c = places_in_range c.other.invariant

pub invariant_of-result : goal.invariant_of-result
invariant_of-result c =
    subst (λ (xs : List ℤ). IsStored c.self.inside.len xs) (sym c.smaller_at_each.ensures)
    (at_each-stored smaller smaller-keeps refl c.self.invariant c.other.invariant c.self.view_is c.other.view_is c.requires).0

pub returns : goal.returns
returns c =
    ap (λ (xs : List ℤ). take c.self.inside.len xs) c.smaller_at_each.ensures
    ∙ (at_each-stored smaller smaller-keeps refl c.self.invariant c.other.invariant c.self.view_is c.other.view_is c.requires).1
