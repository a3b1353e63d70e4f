use Rattle.std.proofs.Common.{◌≡◌, ℕ, ◌-◌, List, ◌++◌, length}
use Rattle.std.specs.List.{range_with_len}
use Rattle.crossbeam_deque.specs.Handles.{worker_view, worker_index, SameWorker}
use Rattle.pls_pool.specs.Hands.{started}
use Rattle.pls_pool.specs.Deals.{IsDealtTo}
use Rattle.pls_pool.proofs.stealing_starts.deal.Given as goal

-- the seats before this number have their passes
abbrev pub invariant-loop-number : goal.invariant-loop-number
invariant-loop-number g l =
    SameWorker l.fn.worker l.worker
    × (worker_index l.worker ≡ worker_index l.fn.worker)
    × (length l.all.items ≡ length l.fn.all.items)
    × ((seats : ℕ) (kept : List ℕ) → worker_view l.fn.worker ≡ started seats (range_with_len l.from (l.to - l.from) ++ kept)
    → (worker_view l.worker ≡ started seats (range_with_len l.number (l.to - l.number) ++ kept)) × IsDealtTo seats l.fn.worker l.from l.number l.fn.all.items l.all.items)
