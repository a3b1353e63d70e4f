use Rattle.std.proofs.Common.{◌≡◌, ℕ, []}
use Rattle.std.specs.Prelude.{vec_len}
use Rattle.pls_pool.specs.Deals.{IsBegun}
use Rattle.pls_pool.proofs.stealing_starts.bare_seats.Given as goal
use mathlib.Core.Option.{some}
use lib.ListN.{get_elem?}

abbrev pub invariant-loop-number : goal.invariant-loop-number
invariant-loop-number g l = (vec_len l.all ≡ l.number) × ((i : ℕ) (s : _) → get_elem? l.all.items i ≡ some s → IsBegun 0 0 [] i s)
