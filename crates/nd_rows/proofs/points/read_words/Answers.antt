use Rattle.std.proofs.Common.{[], ◌∷◌, length-set, refl, sym, ◌∙◌, arith}
use Rattle.std.proofs.lemmas.List.{ext_get_or}
use Rattle.nd_rows.proofs.Looks.{looks_none, looks_more, link_there}
use Rattle.nd_rows.proofs.PointWords.{next_word}
use Rattle.nd_rows.proofs.points.read_words.Goals as goal

pub loop-k-init : goal.loop-k-init
loop-k-init c = (looks_none c.args.rows.now (c.args.row ∷ []) c.args.pass.now c.requires.pass, refl, refl, λ p has i low. absurd (omega arith))

pub loop-k-preserved : goal.loop-k-preserved
loop-k-preserved c =
    let so_far = c.loop-k.invariant in (
      looks_more c.args.rows.now (c.args.row ∷ []) c.args.pass.now c.loop-k.pass c.word.new.pass so_far.0 c.word.ensures.looks,
      c.word.ensures.work ∙ so_far.1,
      length-set c.loop-k.words c.loop-k.k c.word.result ∙ so_far.2,
      λ p has. next_word c.loop-k.words p.sol.words c.loop-k.k c.word.result (omega (arith, so_far.2, c.loop-k-test.true))
          (c.word.ensures.word _ (link_there c.args.rows.now (c.args.row ∷ []) c.args.pass.now c.loop-k.pass so_far.0 c.args.row 6 p.sol.words has.sol_words c.loop-k.k (omega (arith, has.all_words, c.loop-k-test.true))))
          (so_far.3 p has),
    )

pub returns-clause-words : goal.returns-clause-words
returns-clause-words c p has =
    ext_get_or 0 c.loop-k.words p.sol.words (c.loop-k.invariant.2 ∙ sym has.all_words) (λ i low. c.loop-k.invariant.3 p has i (omega (arith, c.loop-k.invariant.2, c.loop-k-test.false)))
