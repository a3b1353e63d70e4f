use Rattle.std.proofs.Common.{◌≡◌, ℕ, ◌+◌, ◌<◌, ◌≤◌, length}
use Rattle.pls_pool.specs.StealSeats.{AreJoined}
use Rattle.pls_pool.proofs.stealing_calls.put_all_together.Given as goal
use mathlib.Core.Option.{some}
use lib.ListN.{get_elem?}

-- the deques before a place are as they were, and those from there on are put together
abbrev pub invariant-loop : goal.invariant-loop
invariant-loop g l =
    (length l.theirs.items + l.counter ≡ length l.fn.mine.items)
    × (length l.mine.items ≡ length l.fn.mine.items)
    × ((j : ℕ) (u : _) → get_elem? l.theirs.items j ≡ some u → get_elem? l.fn.theirs.items j ≡ some u)
    × ((j : ℕ) (u : _) → get_elem? l.mine.items j ≡ some u → j < length l.theirs.items → get_elem? l.fn.mine.items j ≡ some u)
    × ((j : ℕ) (u : _) → get_elem? l.mine.items j ≡ some u → length l.theirs.items ≤ j → (a : _) × (b : _) × (get_elem? l.fn.mine.items j ≡ some a) × (get_elem? l.fn.theirs.items j ≡ some b) × AreJoined a b u)
