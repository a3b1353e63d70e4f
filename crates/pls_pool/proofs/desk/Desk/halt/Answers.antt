use Rattle.std.proofs.Common.{ℕ, set, slice_index, bit_or, sym, subst, ap, ◌∙◌, arith}
use Rattle.atomic_table.specs.Table.{keeps}
use Rattle.pls_pool.specs.Tallies.{cause_of, halting}
use Rattle.pls_pool.specs.DeskRule.{Kept}
use Rattle.pls_pool.proofs.DeskMoves.{halts, cause_of-bit}
use Rattle.pls_pool.proofs.desk.Desk.halt.Goals as goal

pub fetch_or-requires : goal.fetch_or-requires
fetch_or-requires c =
    let desk = c.args.self.now in
    let seat = c.args.seat.now.seat in
    let cause = c.args.cause in
    let long = desk.long in
    let bit = c.bit.ensures in (
      c.requires.at_table,
      omega arith,
      λ s kept homes at bound. (
        halting cause seat.me.0,
        keeps,
        tt,
        subst (λ (b : ℕ). Kept desk.table.shared.key (set s.words 16 (bit_or (slice_index s.words 16) b)) (set s.views seat.id (halting cause seat.me.0))) (sym bit)
            (halts desk.table.shared.key s.words s.views kept seat.id seat.me.0 at cause c.requires.holds),
        ap (λ d. (halting d seat.me.0, seat.me.1)) (sym (ap cause_of bit ∙ cause_of-bit cause)),
      ),
    )
