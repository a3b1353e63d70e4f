use Rattle.std.proofs.Common.{◌∙◌, sym, ap, length, slice_index_or}
use Rattle.pls_vectors.specs.Box.{Box}
use Rattle.pls_vectors.specs.Dominance.{weakly_dominates}
use Rattle.pls_vectors.proofs.Boxes.{nadir-length, told-all_cover, told-covers_all, told-apart}
use Rattle.pls_vectors.proofs.range.Range.decide.Goals as goal

pub covers-requires : goal.covers-requires
covers-requires c =
    nadir-length (record { ideal = c.self.inside.ideal; nadir = c.self.inside.nadir }) c.self.invariant
    ∙ (ap (λ (box : Box). length box.ideal) c.self.view_is ∙ sym c.requires)

pub covers-requires-then-not-covers : goal.covers-requires-then-not-covers
covers-requires-then-not-covers c =
    sym (nadir-length (record { ideal = c.self.inside.ideal; nadir = c.self.inside.nadir }) c.self.invariant
    ∙ (ap (λ (box : Box). length box.ideal) c.self.view_is ∙ sym c.requires))

pub returns-then-covers-clause-promise : goal.returns-then-covers-clause-promise
returns-then-covers-clause-promise c values all k d below =
    let y = c.args.y.now in
    let box = c.args.self.now in
    told-all_cover box y (slice_index_or values k d) (all k d below)
    (ap (λ (b : Box). weakly_dominates b.nadir y) (sym c.self.view_is) ∙ (sym c.covers.ensures ∙ c.if-covers.true))

pub returns-then-covers-2-clause-promise : goal.returns-then-covers-2-clause-promise
returns-then-covers-2-clause-promise c values all k d below =
    let y = c.args.y.now in
    let box = c.args.self.now in
    told-covers_all box y (slice_index_or values k d) (all k d below)
    (ap (λ (b : Box). weakly_dominates y b.ideal) (sym c.self.view_is) ∙ (sym c.covers-else-covers.ensures ∙ c.if-covers-2.true))

pub returns-then-not-covers-2-clause-promise : goal.returns-then-not-covers-2-clause-promise
returns-then-not-covers-2-clause-promise c values all k d below =
    let y = c.args.y.now in
    let box = c.args.self.now in
    told-apart box y (slice_index_or values k d) (all k d below)
    (ap (λ (b : Box). weakly_dominates b.ideal y) (sym c.self.view_is) ∙ (sym c.covers-else-covers-2.ensures ∙ c.if-not-covers.true))
    (ap (λ (b : Box). weakly_dominates y b.nadir) (sym c.self.view_is) ∙ (sym c.covers-then-not-covers.ensures ∙ c.if-not-covers-2.true))
