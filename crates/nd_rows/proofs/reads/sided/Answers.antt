use Rattle.std.proofs.Common.{◌<◌, [], ◌∷◌, length, refl, ◌∙◌, arith}
use Rattle.nd_rows.specs.Walk.{side_of}
use Rattle.nd_rows.proofs.Looks.{looks_none, looks_more, part_there}
use Rattle.nd_rows.proofs.Sides.{with_words-none, side_goes_on, part_in_range}
use Rattle.nd_rows.proofs.reads.sided.Goals as goal

pub loop-k-init : goal.loop-k-init
loop-k-init c = (
  looks_none c.args.rows.now (c.args.row ∷ []) c.args.pass.now c.requires.pass,
  refl,
  λ x has. with_words-none (side_of c.args.turned x c.args.value.now),
)

pub loop-k-preserved : goal.loop-k-preserved
loop-k-preserved c = (
  looks_more c.args.rows.now (c.args.row ∷ []) c.args.pass.now c.loop-k.pass c.word-found.new.pass c.loop-k.invariant.0 c.word-found.ensures.looks,
  c.word-found.ensures.work ∙ c.loop-k.invariant.1,
  λ x has.
      let v = c.args.value.now in
      let k = c.loop-k.k in
      let low : k < length v = omega (arith, c.loop-k-test.true, c.len-k-end.ensures.value) in
      let inside : k < length x = omega (arith, has.parts) in
      side_goes_on c.args.turned x v has.parts k c.loop-k.short c.loop-k.other (c.loop-k.invariant.2 x has) low (part_in_range _ _ _ _ x has k inside) c.part_word-wanted.ensures.in_range
      c.word-found.result c.part_word-wanted.result c.difference-short.result
      (c.word-found.ensures.word _ (part_there c.args.rows.now (length v) (c.args.row ∷ []) c.args.pass.now c.loop-k.pass c.loop-k.invariant.0 c.args.row c.args.place x has k inside))
      c.part_word-wanted.ensures.value c.difference-short.ensures,
)
