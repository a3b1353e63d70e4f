use Rattle.std.proofs.Common.{◌∙◌}
use Rattle.pls_vectors.proofs.Stored.{weakly_dominates-stored, places_in_range}
use Rattle.pls_vectors.proofs.vector.Vector.covers.Goals as goal

pub at_least-requires-clause-a_in_range : goal.at_least-requires-clause-a_in_range
at_least-requires-clause-a_in_range c = places_in_range c.self.invariant

pub at_least-requires-clause-b_in_range : goal.at_least-requires-clause-b_in_range
at_least-requires-clause-b_in_range c = places_in_range c.other.invariant

pub returns : goal.returns
returns c =
    c.at_least.ensures ∙ weakly_dominates-stored c.self.invariant c.other.invariant c.self.view_is c.other.view_is c.requires
