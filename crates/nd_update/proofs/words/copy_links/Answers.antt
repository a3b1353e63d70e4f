use Rattle.std.proofs.Common.{◌+◌, ◌<◌, [], ◌∷◌, length, refl, arith}
use Rattle.era_core.proofs.ListFacts.{times-tail}
use Rattle.era_rows.specs.Passes.{known_of}
use Rattle.nd_update.proofs.Writing.{writes_none, writes_read, writes_take, word_still}
use Rattle.nd_update.proofs.Reading.{only_none, only_then, only_still}
use Rattle.nd_update.proofs.words.copy_links.Goals as goal

pub loop-k-init : goal.loop-k-init
loop-k-init c = (λ links has count. writes_none c.args.rows.now c.args.to 1 (1 + c.args.count) c.args.pass.now c.requires.building, only_none (c.args.from ∷ []) (known_of c.args.pass.now))

pub loop-k-preserved : goal.loop-k-preserved
loop-k-preserved c =
    let r = c.args.rows.now in
    let k = c.loop-k.k in
    let p = c.args.pass.now in
    let q = c.loop-k.pass in
    let s = c.read_word-link.new.pass in
    let given = c.requires.links in
    let from = c.args.from ∷ [] in (
      λ links has count.
          let so_far = c.loop-k.invariant.0 links has count in
          let low : k < length links = omega (arith, count, c.loop-k-test.true) in
          let is = c.read_word-link.ensures.word _ (word_still r p q (c.args.to ∷ []) so_far.does c.args.from 1 links (times-tail c.args.from c.args.to [] c.requires.apart) has k low) in
          writes_take r c.args.to 1 (1 + c.args.count) p s c.write_word.new.pass c.write_word.ensures.does c.write_word.ensures.work (1 + k) c.write_word.ensures.outside c.read_word-link.result c.write_word.ensures.word links k low is refl
          (omega (arith, c.loop-k-test.true))
          (writes_read r c.args.to 1 (1 + c.args.count) _ p q s so_far c.read_word-link.ensures.does c.read_word-link.ensures.work),
      only_then r [] [] (c.args.to ∷ []) from p q c.write_word.new.pass (c.loop-k.invariant.0 given.0 given.1 given.2).does c.loop-k.invariant.1
          (only_still r [] [] [] from q s c.write_word.new.pass c.read_word-link.ensures.does c.read_word-link.ensures.only c.write_word.ensures.only),
    )

pub returns-clause-does : goal.returns-clause-does
returns-clause-does c = let given = c.requires.links in (c.loop-k.invariant.0 given.0 given.1 given.2).does

pub returns-clause-work : goal.returns-clause-work
returns-clause-work c = let given = c.requires.links in (c.loop-k.invariant.0 given.0 given.1 given.2).work

pub returns-clause-outside : goal.returns-clause-outside
returns-clause-outside c = let given = c.requires.links in (c.loop-k.invariant.0 given.0 given.1 given.2).outside

pub returns-clause-only : goal.returns-clause-only
returns-clause-only c = c.loop-k.invariant.1
