use Rattle.std.proofs.Common.{arith}
use Rattle.nd_rows.proofs.Remembered.{none_falls_short}
use Rattle.nd_rows.proofs.remembers.are_at_least.Goals as goal

pub returns : goal.returns
returns c v is wanted_is =
    none_falls_short v c.args.words.now c.args.wanted.now (omega (arith, c.told-words)) is wanted_is
    c.shortfall-short.result c.shortfall-short-2.result c.shortfall-short-3.result c.shortfall-short-4.result
    c.shortfall-short.ensures c.shortfall-short-2.ensures c.shortfall-short-3.ensures c.shortfall-short-4.ensures
