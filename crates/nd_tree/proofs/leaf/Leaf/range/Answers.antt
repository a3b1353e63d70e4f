use Rattle.std.proofs.Common.{List, ℤ, ap, sym, subst}
use Rattle.std.specs.Prelude.{IsTrue}
use Rattle.pls_vectors.specs.Box.{encloses}
use Rattle.pls_archive.specs.declared.point.Point.{Point}
use Rattle.pls_archive.specs.Lists.{Every}
use Rattle.nd_tree.specs.Seen.{Encloses}
use Rattle.nd_tree.specs.Split.{AreUniform}
use Rattle.nd_tree.specs.Insertion.{HaveEqualParts}
use Rattle.nd_tree.proofs.Paired.{uniform-paired, every-paired}
use Rattle.nd_tree.proofs.leaf.Leaf.range.Goals as goal

pub range_of-requires-clause-parts : goal.range_of-requires-clause-parts
range_of-requires-clause-parts c =
    subst (λ (vs : List (List ℤ)). AreUniform vs) (sym c.deref.ensures.value)
    (uniform-paired c.self.inside.values.items c.self.inside.sols.items c.self.invariant.0
    (subst (λ (ps : List Point). HaveEqualParts ps) (ap (λ l. l.points) (sym c.self.view_is)) c.requires.parts))

pub returns : goal.returns
returns c =
    let box = c.range_of.result in
    subst (λ (ps : List Point). Encloses box ps) (ap (λ l. l.points) c.self.view_is)
    (every-paired (λ w. IsTrue (encloses box w)) c.self.inside.values.items c.self.inside.sols.items c.self.invariant.0
    (subst (λ (vs : List (List ℤ)). Every (λ w. IsTrue (encloses box w)) vs) c.deref.ensures.value c.range_of.ensures))
