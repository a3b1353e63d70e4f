use Rattle.std.proofs.Common.{◌+◌, [], ◌∷◌, refl, arith}
use Rattle.era_rows.specs.Known.{known_words}
use Rattle.era_rows.specs.Passes.{known_of}
use Rattle.nd_update.proofs.Writing.{writes_none, writes_take, written_all}
use Rattle.nd_update.proofs.Reading.{only_none, only_then}
use Rattle.nd_update.proofs.words.write_sol.Goals as goal

pub loop-k-init : goal.loop-k-init
loop-k-init c = (writes_none c.args.rows.now c.args.row 6 38 c.args.pass.now c.requires.building, only_none [] (known_of c.args.pass.now))

pub loop-k-preserved : goal.loop-k-preserved
loop-k-preserved c =
    let k = c.loop-k.k in (
      writes_take c.args.rows.now c.args.row 6 38 c.args.pass.now c.loop-k.pass c.write_word.new.pass c.write_word.ensures.does c.write_word.ensures.work (6 + k) c.write_word.ensures.outside c.word.result c.write_word.ensures.word c.args.sol.now.words k
          (omega (arith, c.requires.words, c.loop-k-test.true)) c.word.ensures refl (omega (arith, c.loop-k-test.true)) c.loop-k.invariant.0,
      only_then c.args.rows.now [] [] (c.args.row ∷ []) [] c.args.pass.now c.loop-k.pass c.write_word.new.pass c.loop-k.invariant.0.does c.loop-k.invariant.1 c.write_word.ensures.only,
    )

pub returns-clause-words : goal.returns-clause-words
returns-clause-words c = written_all (known_words (known_of c.loop-k.pass)) c.args.row 6 c.args.sol.now.words c.loop-k.k (omega (arith, c.requires.words, c.loop-k-test.false)) c.loop-k.invariant.0.words

pub returns-clause-only : goal.returns-clause-only
returns-clause-only c = c.loop-k.invariant.1
