use Rattle.std.proofs.Common.{◌≡◌, ◌∙◌, sym, ap, subst, length, IsTrue}
use Rattle.pls_vectors.specs.Box.{Box, encloses, greater}
use Rattle.pls_vectors.proofs.Boxes.{nadir-length, length-at_each, grown-is, grown-new, grown-others}
use Rattle.pls_vectors.proofs.range.Range.grow.Goals as goal

pub lower-self-inside-requires : goal.lower-self-inside-requires
lower-self-inside-requires c =
    nadir-length (record { ideal = c.self.inside.ideal; nadir = c.self.inside.nadir }) c.self.invariant
    ∙ (ap (λ (box : Box). length box.ideal) c.self.view_is ∙ sym c.requires)

pub invariant_of-self : goal.invariant_of-self
invariant_of-self c =
    let box : Box = record { ideal = c.self.inside.ideal; nadir = c.self.inside.nadir } in
    let e : length c.args.v ≡ length box.ideal = c.requires ∙ ap (λ (b : Box). length b.ideal) (sym c.self.view_is) in
    rw (c.upper-self-inside.ensures, c.lower-self-inside.ensures) (grown-is box c.self.invariant c.args.v e)

pub returns-clause-len : goal.returns-clause-len
returns-clause-len c =
    let ideal = c.self.inside.ideal in
    let e : length c.args.v ≡ length ideal = c.requires ∙ ap (λ (b : Box). length b.ideal) (sym c.self.view_is) in
    ap length c.upper-self-inside.ensures
    ∙ (length-at_each greater ideal c.args.v (sym e) ∙ ap (λ (b : Box). length b.ideal) c.self.view_is)

pub returns-clause-new : goal.returns-clause-new
returns-clause-new c =
    let box : Box = record { ideal = c.self.inside.ideal; nadir = c.self.inside.nadir } in
    let e : length c.args.v ≡ length box.ideal = c.requires ∙ ap (λ (b : Box). length b.ideal) (sym c.self.view_is) in
    rw (c.upper-self-inside.ensures, c.lower-self-inside.ensures) (grown-new box c.self.invariant c.args.v e)

pub returns-clause-others : goal.returns-clause-others
returns-clause-others c =
    let box : Box = record { ideal = c.self.inside.ideal; nadir = c.self.inside.nadir } in
    let e : length c.args.v ≡ length box.ideal = c.requires ∙ ap (λ (b : Box). length b.ideal) (sym c.self.view_is) in
    λ w enclosed. rw (c.upper-self-inside.ensures, c.lower-self-inside.ensures)
    (grown-others box c.self.invariant c.args.v e w (subst (λ (b : Box). IsTrue (encloses b w)) (sym c.self.view_is) enclosed))
