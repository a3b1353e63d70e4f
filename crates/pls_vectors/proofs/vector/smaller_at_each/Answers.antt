use Rattle.std.proofs.Common.{rules, w64, ◌∙◌}
use Rattle.std.proofs.lemmas.Int.{to_z-of_z}
use Rattle.pls_vectors.specs.Box.{smaller}
use Rattle.pls_vectors.proofs.Boxes.{at_each-four}
use Rattle.pls_vectors.proofs.vector.smaller_at_each.Goals as goal

pub returns : goal.returns
returns c =
    at_each-four smaller c.args.a.now c.args.b.now c.told-a c.told-b c.requires.a_in_range c.requires.b_in_range
    (to_z-of_z w64 c.smaller.result (search rules) ∙ c.smaller.ensures)
    (to_z-of_z w64 c.smaller-2.result (search rules) ∙ c.smaller-2.ensures)
    (to_z-of_z w64 c.smaller-3.result (search rules) ∙ c.smaller-3.ensures)
    (to_z-of_z w64 c.smaller-4.result (search rules) ∙ c.smaller-4.ensures)
