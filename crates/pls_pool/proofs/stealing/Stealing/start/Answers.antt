use Rattle.std.proofs.Common.{rules, ◌≡◌, ◌++◌, [], ◌∷◌, sym, subst}
use Rattle.std.specs.Prelude.{vec_len}
use Rattle.pls_pool.specs.Deals.{IsBegun}
use Rattle.pls_pool.proofs.DealMoves.{begun_none, begun_all, new_seats}
use Rattle.pls_pool.proofs.stealing.Stealing.start.Goals as goal
use mathlib.Core.Option.{some}
use lib.ListN.{get_elem?}

pub loop-number-init : goal.loop-number-init
loop-number-init g c =
    (search rules, search rules, λ i s there. begun_none c.args.seats c.args.room c.in_ok-stealers.stealers.items i s (search rules) (c.in_ok-all.ensures.each i s there))

pub loop-number-preserved : goal.loop-number-preserved
loop-number-preserved g c =
    let was = c.loop-number.invariant in
    let stealers = c.loop-number.stealers in
    let stealer = c.in_ok-stealer.stealer in (
      search rules,
      search rules,
      subst (λ l. (i : _) (s : _) → get_elem? c.«open».new.all.items i ≡ some s → IsBegun c.args.seats c.args.room l i s) (let more : c.push.new.self.items ≡ stealers.items ++ stealer ∷ [] = search rules in sym more)
          (begun_all c.args.seats c.args.room (vec_len c.loop-number.all) c.loop-number.number stealers.items stealer c.loop-number.all.items c.«open».new.all.items (search rules) (search rules) was.2 c.in_ok-stealer.ensures),
    )

pub returns-clause-seats : goal.returns-clause-seats
returns-clause-seats g c = new_seats _ c.loop-number.all.items c.args.seats (search rules) (search rules) c.loop-number.invariant.2
