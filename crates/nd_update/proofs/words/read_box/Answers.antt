use Rattle.std.proofs.Common.{[], ◌∷◌, length, refl, sym, ap, ap₂, ◌∙◌}
use Rattle.pls_vectors.specs.Box.{box_of, grown}
use Rattle.nd_update.proofs.Building.{does_both}
use Rattle.nd_update.proofs.Writing.{value_still, box_of_corners}
use Rattle.nd_update.proofs.Reading.{only_then}
use Rattle.nd_update.proofs.words.read_box.Goals as goal

pub read_value-nadir-requires-clause-value : goal.read_value-nadir-requires-clause-value
read_value-nadir-requires-clause-value c =
    let b = c.requires.boxed.0 in
    let has = c.requires.boxed.1 in
    let r = c.args.rows.now in (b.nadir, value_still r c.args.pass.now c.read_value-ideal.new.pass [] c.read_value-ideal.ensures.does r.shape c.args.row 25 b.nadir refl has.nadir)

pub grow-requires : goal.grow-requires
grow-requires c =
    let b = c.requires.boxed.0 in
    let has = c.requires.boxed.1 in
    let r = c.args.rows.now in
    let nadir = c.read_value-nadir.ensures.value b.nadir (value_still r c.args.pass.now c.read_value-ideal.new.pass [] c.read_value-ideal.ensures.does r.shape c.args.row 25 b.nadir refl has.nadir) in
    ap length nadir ∙ has.nadir.parts ∙ sym (ap (λ x. length x.ideal) c.of-range.ensures ∙ ap length (c.read_value-ideal.ensures.value b.ideal has.ideal) ∙ has.ideal.parts)

pub returns-clause-does : goal.returns-clause-does
returns-clause-does c = does_both c.args.rows.now [] [] [] [] [] [] c.args.pass.now c.read_value-ideal.new.pass c.read_value-nadir.new.pass c.read_value-ideal.ensures.does c.read_value-nadir.ensures.does

pub returns-clause-boxed : goal.returns-clause-boxed
returns-clause-boxed c b has le =
    let r = c.args.rows.now in
    let nadir = c.read_value-nadir.ensures.value b.nadir (value_still r c.args.pass.now c.read_value-ideal.new.pass [] c.read_value-ideal.ensures.does r.shape c.args.row 25 b.nadir refl has.nadir) in
    c.grow.ensures.value ∙ ap₂ grown (c.of-range.ensures ∙ ap box_of (c.read_value-ideal.ensures.value b.ideal has.ideal)) nadir ∙ box_of_corners b le

pub returns-clause-only : goal.returns-clause-only
returns-clause-only c =
    only_then c.args.rows.now [] [] [] (c.args.row ∷ []) c.args.pass.now c.read_value-ideal.new.pass c.read_value-nadir.new.pass c.read_value-ideal.ensures.does c.read_value-ideal.ensures.only c.read_value-nadir.ensures.only
