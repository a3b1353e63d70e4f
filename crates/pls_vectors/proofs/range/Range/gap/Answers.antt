use Rattle.std.proofs.Common.{◌∙◌, sym, ap, List, ℤ, length}
use Rattle.pls_vectors.specs.Box.{Box, gap, gap_between}
use Rattle.pls_vectors.specs.Vector.{places_of}
use Rattle.pls_vectors.proofs.Boxes.{nadir-length, gap_between-places}
use Rattle.pls_vectors.proofs.range.Range.gap.Goals as goal

pub returns-clause-value : goal.returns-clause-value
returns-clause-value c =
    let ideal = c.self.inside.ideal in
    let nadir = c.self.inside.nadir in
    let y = c.args.y.now in
    c.gap_between.ensures.value
    ∙ (ap (λ (zs : List ℤ). gap_between zs c.places-2.result.now c.places-3.result.now) c.places.ensures.value
    ∙ (ap (λ (zs : List ℤ). gap_between (places_of ideal) zs c.places-3.result.now) c.places-2.ensures.value
    ∙ (ap (λ (zs : List ℤ). gap_between (places_of ideal) (places_of nadir) zs) c.places-3.ensures.value
    ∙ (gap_between-places ideal nadir y (nadir-length (record { ideal = ideal; nadir = nadir }) c.self.invariant)
    (c.requires ∙ ap (λ (box : Box). length box.ideal) (sym c.self.view_is))
    ∙ ap (λ (box : Box). gap box y) c.self.view_is))))
