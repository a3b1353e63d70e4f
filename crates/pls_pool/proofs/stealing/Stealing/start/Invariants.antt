use Rattle.std.proofs.Common.{◌≡◌, ℕ}
use Rattle.std.specs.Prelude.{vec_len}
use Rattle.pls_pool.specs.Deals.{IsBegun}
use Rattle.pls_pool.proofs.stealing.Stealing.start.Given as goal
use mathlib.Core.Option.{some}
use lib.ListN.{get_elem?}

-- each seat reaches the deques so far
abbrev pub invariant-loop-number : goal.invariant-loop-number
invariant-loop-number g l =
    (vec_len l.stealers ≡ l.number) × (vec_len l.all ≡ l.fn.seats) × ((i : ℕ) (s : _) → get_elem? l.all.items i ≡ some s → IsBegun l.fn.seats l.fn.room l.stealers.items i s)
