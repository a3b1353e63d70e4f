use Rattle.std.proofs.Common.{◌^◌, ◌<◌, ◌≤◌, [], ◌∷◌, length, get_or, pos, refl, sym, ap, subst, ◌∙◌, arith, to_z-of_z, w64, SFits, rules}
use Rattle.pls_vectors.specs.Word.{from_word}
use Rattle.nd_rows.proofs.Looks.{looks_none, looks_more, part_there}
use Rattle.nd_rows.proofs.Sides.{part_in_range}
use Rattle.nd_rows.proofs.PointWords.{next_part, word_low, word_back}
use Rattle.nd_rows.proofs.points.read_parts.Goals as goal

pub loop-k-init : goal.loop-k-init
loop-k-init c = (looks_none c.args.rows.now (c.args.row ∷ []) c.args.pass.now c.requires.pass, refl, λ p has count. refl)

pub from_word-requires : goal.from_word-requires
from_word-requires c =
    let p = c.requires.point.0 in
    let has = c.requires.point.1 in
    let low : c.loop-k.k < length p.value = omega (arith, c.requires.point.2, c.loop-k-test.true) in
    subst (λ w. w ≤ 2 ^ 41)
    (sym (c.word-found.ensures.word _ (part_there c.args.rows.now c.args.rows.now.shape (c.args.row ∷ []) c.args.pass.now c.loop-k.pass c.loop-k.invariant.0 c.args.row 1 p.value has.value c.loop-k.k low)))
    (word_low (get_or p.value c.loop-k.k (pos 0)) (part_in_range _ _ _ _ p.value has.value c.loop-k.k low))

pub loop-k-preserved : goal.loop-k-preserved
loop-k-preserved c = (
  looks_more c.args.rows.now (c.args.row ∷ []) c.args.pass.now c.loop-k.pass c.word-found.new.pass c.loop-k.invariant.0 c.word-found.ensures.looks,
  c.word-found.ensures.work ∙ c.loop-k.invariant.1,
  λ p has count.
      let low : c.loop-k.k < length p.value = omega (arith, count, c.loop-k-test.true) in
      let few : length p.value ≤ 4 = has.value.is_value.at_most_four in
      let fits : SFits w64 c.from_word.result = search rules in
      let is = c.word-found.ensures.word _ (part_there c.args.rows.now c.args.rows.now.shape (c.args.row ∷ []) c.args.pass.now c.loop-k.pass c.loop-k.invariant.0 c.args.row 1 p.value has.value c.loop-k.k low) in
      next_part c.loop-k.parts p.value c.loop-k.k _ low few
      (to_z-of_z fits ∙ c.from_word.ensures.value ∙ ap from_word is ∙ word_back (get_or p.value c.loop-k.k (pos 0)) (part_in_range _ _ _ _ p.value has.value c.loop-k.k low))
      (c.loop-k.invariant.2 p has count),
)
