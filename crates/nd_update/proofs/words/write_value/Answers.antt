use Rattle.std.proofs.Common.{◌+◌, map, [], ◌∷◌, refl, sym, ◌∙◌, arith}
use Rattle.std.proofs.lemmas.List.{length-map}
use Rattle.era_rows.specs.Known.{known_words}
use Rattle.era_rows.specs.Passes.{known_of}
use Rattle.pls_vectors.specs.Word.{to_word}
use Rattle.nd_update.proofs.Writing.{writes_none, writes_take, word_of_part, part_more, value_all}
use Rattle.nd_update.proofs.Reading.{only_none, only_then}
use Rattle.nd_update.proofs.words.write_value.Goals as goal

pub loop-k-init : goal.loop-k-init
loop-k-init c = (writes_none c.args.rows.now c.args.row c.args.place (c.args.place + 4) c.args.pass.now c.requires.building, λ i low. absurd (omega (arith, low)), only_none [] (known_of c.args.pass.now))

pub loop-k-preserved : goal.loop-k-preserved
loop-k-preserved c =
    let k = c.loop-k.k in
    let v = c.args.value.now in
    let long = length-map v to_word in
    let few = c.len-k-end.ensures.few in (
      writes_take c.args.rows.now c.args.row c.args.place (c.args.place + 4) c.args.pass.now c.loop-k.pass c.write_word.new.pass c.write_word.ensures.does c.write_word.ensures.work (c.args.place + k) c.write_word.ensures.outside c.part_word.result
          c.write_word.ensures.word (map to_word v) k (omega (arith, long, c.len-k-end.ensures.value, c.loop-k-test.true))
          (c.part_word.ensures.value ∙ sym (word_of_part v k (omega (arith, c.len-k-end.ensures.value, c.loop-k-test.true)))) refl (omega (arith, few, c.loop-k-test.true)) c.loop-k.invariant.0,
      part_more v k c.part_word.ensures.in_range c.loop-k.invariant.1,
      only_then c.args.rows.now [] [] (c.args.row ∷ []) [] c.args.pass.now c.loop-k.pass c.write_word.new.pass c.loop-k.invariant.0.does c.loop-k.invariant.2 c.write_word.ensures.only,
    )

pub returns-clause-value : goal.returns-clause-value
returns-clause-value c =
    value_all (known_words (known_of c.loop-k.pass)) c.args.row c.args.place c.args.value.now c.loop-k.k (omega (arith, c.len-k-end.ensures.value, c.len-k-end.ensures.some)) (omega (arith, c.len-k-end.ensures.value, c.len-k-end.ensures.few))
    (omega (arith, c.len-k-end.ensures.value, c.loop-k-test.false)) c.loop-k.invariant.1 c.loop-k.invariant.0.words

pub returns-clause-only : goal.returns-clause-only
returns-clause-only c = c.loop-k.invariant.2
