use Rattle.std.proofs.Common.{rules, ◌∙◌}
use Rattle.pls_pool.specs.StealSeats.{hands_of}
use Rattle.pls_pool.proofs.SeatMoves.{bare_on}
use Rattle.pls_pool.proofs.stealing.Stealing.take_among.Goals as goal

pub loop-number-preserved : goal.loop-number-preserved
loop-number-preserved g c =
    let was = c.loop-number.invariant in
    let same = c.in-None.ensures.taken.0 in (
      c.take_at.ensures.seat,
      (same.0 ∙ was.1.0, same.1 ∙ was.1.1, same.2 ∙ was.1.2),
      λ j low high. bare_on c.loop-number.number (hands_of c.loop-number.seat) (hands_of c.take_at.new.seat) same.1 c.in-None.ensures.taken.1 j (λ less. was.2 j low less) high,
    )

pub returns-clause-taken : goal.returns-clause-taken
returns-clause-taken g c =
    let was = c.loop-number.invariant in (was.1, λ j low high. was.2 j low (search rules))
