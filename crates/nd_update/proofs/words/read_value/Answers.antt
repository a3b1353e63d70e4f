use Rattle.std.proofs.Common.{◌≡◌, ◌^◌, ◌<◌, ◌≤◌, [], ◌∷◌, length, get_or, pos, refl, sym, ap, subst, ◌∙◌, arith, to_z-of_z, w64, SFits, rules, IsTrue}
use Rattle.std.specs.List.{list_all}
use Rattle.pls_vectors.specs.Dominance.{is_part}
use Rattle.pls_vectors.specs.Word.{from_word}
use Rattle.nd_rows.proofs.Sides.{part_in_range}
use Rattle.nd_rows.proofs.PointWords.{next_part, word_low, word_back, places_in_range}
use Rattle.nd_update.proofs.Building.{does_both}
use Rattle.nd_update.proofs.Writing.{part_still, read_all}
use Rattle.nd_update.proofs.Reading.{only_then}
use Rattle.nd_update.proofs.words.read_value.Goals as goal

pub from_word-requires : goal.from_word-requires
from_word-requires c =
    let v = c.requires.value.0 in
    let has = c.requires.value.1 in
    let low : c.loop-k.k < length v = omega (arith, has.parts, c.shape-len.ensures, c.loop-k-test.true) in
    subst (λ w. w ≤ 2 ^ 41)
    (sym (c.read_word-found.ensures.word _ (part_still c.args.rows.now c.args.pass.now c.loop-k.pass [] c.loop-k.invariant.0 c.args.rows.now.shape c.args.row c.args.place v refl has c.loop-k.k low)))
    (word_low (get_or v c.loop-k.k (pos 0)) (part_in_range _ _ _ _ v has c.loop-k.k low))

pub loop-k-preserved : goal.loop-k-preserved
loop-k-preserved c = (
  does_both c.args.rows.now [] [] [] [] [] [] c.args.pass.now c.loop-k.pass c.read_word-found.new.pass c.loop-k.invariant.0 c.read_word-found.ensures.does,
  c.read_word-found.ensures.work ∙ c.loop-k.invariant.1,
  λ v has.
      let low : c.loop-k.k < length v = omega (arith, has.parts, c.shape-len.ensures, c.loop-k-test.true) in
      let few : length v ≤ 4 = has.is_value.at_most_four in
      let fits : SFits w64 c.from_word.result = search rules in
      let is = c.read_word-found.ensures.word _ (part_still c.args.rows.now c.args.pass.now c.loop-k.pass [] c.loop-k.invariant.0 c.args.rows.now.shape c.args.row c.args.place v refl has c.loop-k.k low) in
      next_part c.loop-k.parts v c.loop-k.k _ low few (to_z-of_z fits ∙ c.from_word.ensures.value ∙ ap from_word is ∙ word_back (get_or v c.loop-k.k (pos 0)) (part_in_range _ _ _ _ v has c.loop-k.k low)) (c.loop-k.invariant.2 v has),
  λ some. c.read_word-found.ensures.read,
  only_then c.args.rows.now [] [] [] (c.args.row ∷ []) c.args.pass.now c.loop-k.pass c.read_word-found.new.pass c.loop-k.invariant.0 c.loop-k.invariant.4 c.read_word-found.ensures.only,
)

pub from_places-requires-clause-in_range : goal.from_places-requires-clause-in_range
from_places-requires-clause-in_range c =
    let v = c.requires.value.0 in
    let has = c.requires.value.1 in
    let done : c.loop-k.k ≡ length v = omega (arith, has.parts, c.shape-len.ensures, c.loop-k-test.false, c.loop-k.auto.k-end) in
    subst (λ parts. IsTrue (list_all is_part parts)) (sym (read_all v c.loop-k.parts c.loop-k.k done (c.loop-k.invariant.2 v has))) (places_in_range v has.is_value.in_range)

pub returns-clause-read : goal.returns-clause-read
returns-clause-read c some = c.loop-k.invariant.3 (omega (arith, some, c.shape-len.ensures, c.loop-k-test.false))

pub returns-clause-only : goal.returns-clause-only
returns-clause-only c = c.loop-k.invariant.4
