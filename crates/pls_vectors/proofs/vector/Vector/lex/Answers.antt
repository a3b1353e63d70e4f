use Rattle.std.proofs.Common.{◌∙◌}
use Rattle.pls_vectors.proofs.Stored.{slice_cmp-stored}
use Rattle.pls_vectors.proofs.vector.Vector.lex.Goals as goal

pub returns : goal.returns
returns c =
    c.cmp.ensures ∙ slice_cmp-stored c.self.invariant c.other.invariant c.self.view_is c.other.view_is c.requires
