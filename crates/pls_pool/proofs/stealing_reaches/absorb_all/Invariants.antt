use Rattle.std.proofs.Common.{◌≡◌, ◌+◌, ◌<◌, length}
use Rattle.crossbeam_deque.specs.Handles.{worker_view, worker_index, SameWorker}
use Rattle.pls_pool.specs.Hands.{joining}
use Rattle.pls_pool.specs.Reaches.{guests_hand, ArePassesOf}
use Rattle.pls_pool.proofs.stealing_reaches.absorb_all.Given as goal

-- what the worker did and what is left to take over is the whole
abbrev pub invariant-loop : goal.invariant-loop
invariant-loop g l =
    SameWorker l.fn.worker l.worker
    × (worker_index l.worker ≡ worker_index l.fn.worker)
    × (joining (worker_view l.worker) (guests_hand l.passes) ≡ joining (worker_view l.fn.worker) (guests_hand l.fn.passes))
    × ArePassesOf l.worker l.passes
    × (length l.passes + l.counter ≡ length l.fn.passes)
    × (0 < length (worker_view l.worker).numbers)
