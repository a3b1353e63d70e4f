use Rattle.std.proofs.Common.{[], ◌∷◌, sym, subst, IsTrue}
use Rattle.std.specs.List.{list_all}
use Rattle.pls_vectors.specs.Dominance.{is_part}
use Rattle.nd_rows.specs.Layout.{HasPoint}
use Rattle.nd_rows.proofs.Looks.{looks_more, stays}
use Rattle.nd_rows.proofs.PointWords.{places_in_range}
use Rattle.nd_rows.proofs.points.read_value.Goals as goal

pub from_places-requires-clause-in_range : goal.from_places-requires-clause-in_range
from_places-requires-clause-in_range c =
    let p = c.requires.point.0 in
    let has = c.requires.point.1 in
    let there = stays c.args.rows.now (λ copy. HasPoint c.args.rows.now.shape copy c.args.row p) (c.args.row ∷ []) c.args.pass.now c.word-len.new.pass c.word-len.ensures.looks has in
    subst (λ parts. IsTrue (list_all is_part parts)) (sym (c.read_parts-parts.ensures.parts p there (sym (c.word-len.ensures.word _ has.parts)))) (places_in_range p.value has.value.is_value.in_range)

pub returns-clause-looks : goal.returns-clause-looks
returns-clause-looks c = looks_more c.args.rows.now (c.args.row ∷ []) c.args.pass.now c.word-len.new.pass c.read_parts-parts.new.pass c.word-len.ensures.looks c.read_parts-parts.ensures.looks
