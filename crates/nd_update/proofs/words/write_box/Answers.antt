use Rattle.std.proofs.Common.{[], ◌∷◌, length, inl, inr, ap, ◌∙◌, arith}
use Rattle.era_rows.specs.Known.{known_words}
use Rattle.era_rows.specs.Passes.{known_of}
use Rattle.nd_update.proofs.Building.{value_outside, writes_both}
use Rattle.nd_update.proofs.Writing.{value_as}
use Rattle.nd_update.proofs.Reading.{only_then}
use Rattle.nd_update.proofs.words.write_box.Goals as goal

pub returns-clause-boxed : goal.returns-clause-boxed
returns-clause-boxed c =
    let shape = c.args.rows.now.shape in
    let b = c.args.range.now in
    let first = known_words (known_of c.write_value.new.pass) in
    let both = known_words (known_of c.write_value-2.new.pass) in
    let ideal = value_as _ shape first c.args.row 21 _ b.ideal c.ideal.ensures (ap length c.ideal.ensures ∙ c.requires.parts.0) c.write_value.ensures.value in
    let few = ideal.is_value.at_most_four in record {
      ideal = value_outside shape c.args.row 25 29 first both c.write_value-2.ensures.outside c.args.row 21 b.ideal (inr (inl (omega (arith, few)))) ideal;
      nadir = value_as _ shape both c.args.row 25 _ b.nadir c.nadir.ensures (ap length c.nadir.ensures ∙ c.requires.parts.1) c.write_value-2.ensures.value;
    }

pub returns-clause-does : goal.returns-clause-does
returns-clause-does c = writes_both c.args.rows.now c.args.row c.args.pass.now c.write_value.new.pass c.write_value-2.new.pass c.write_value.ensures.does c.write_value-2.ensures.does

pub returns-clause-only : goal.returns-clause-only
returns-clause-only c = only_then c.args.rows.now [] [] (c.args.row ∷ []) [] c.args.pass.now c.write_value.new.pass c.write_value-2.new.pass c.write_value.ensures.does c.write_value.ensures.only c.write_value-2.ensures.only
