use Rattle.std.proofs.Common.{sym, ◌∙◌, arith}
use Rattle.era_rows.specs.Passes.{memory_of}
use Rattle.nd_rows.specs.Entries.{held_meets}
use Rattle.nd_rows.proofs.Remembered.{recalls_found, recalls_passed, recalls_none}
use Rattle.nd_rows.proofs.remembers.recalls_some.Goals as goal

pub returns-then-recalls_at : goal.returns-then-recalls_at
returns-then-recalls_at c =
    let at = c.recalls_at.ensures c.words_of-wanted.ensures.value c.words_of-wanted.ensures.words in
    recalls_found (held_meets c.args.other c.args.value.now) (memory_of c.args.pass.now) c.loop-place.place at.0 at.1 c.loop-place.invariant (sym at.2 ∙ c.if-recalls_at.true)

pub loop-place-preserved : goal.loop-place-preserved
loop-place-preserved c =
    let at = c.recalls_at.ensures c.words_of-wanted.ensures.value c.words_of-wanted.ensures.words in
    recalls_passed (held_meets c.args.other c.args.value.now) (memory_of c.args.pass.now) c.loop-place.place at.0 at.1 c.loop-place.invariant (sym at.2 ∙ c.if-recalls_at.false)

pub returns : goal.returns
returns c =
    recalls_none (held_meets c.args.other c.args.value.now) (memory_of c.args.pass.now) c.loop-place.place c.args.pass.now.recalls.places (omega (arith, c.loop-place.auto.place-end, c.loop-place-test.false))
    c.loop-place.invariant
