-- The first worker takes over what another had, or leaves alone.
use Rattle.std.proofs.Common.{◌≡◌, ◌⊎◌, ℕ, ◌+◌, List, [], ◌∷◌, Result, Ok, Err, OnOk, ap, ◌∙◌, arith, inl, inr}
use Rattle.pls_archive.specs.declared.point.Point.{Point}
use Rattle.pls_archive.specs.declared.call.Call.{Call}
use Rattle.pls_archive.specs.declared.call.Reply.{Reply}
use Rattle.pls_archive.specs.declared.rule.Rule as rule
use Rattle.pls_archive.specs.declared.shared.Shared as shared
use Rattle.pls_pool.specs.DeskSeats.{tally_of}
use Rattle.pls_pool.specs.Tallies.{joining}
use Rattle.pls_pool.specs.declared.cause.Cause.{Cause}
use Rattle.pls_pool.specs.declared.cause.Cause.TheVariants.{Spent, Full, Memory}
use Rattle.pls_pool.specs.declared.pool.Pool as pool
use Rattle.pls_pool.specs.declared.tally.Tally.{Tally}
use Rattle.pls_problem.specs.declared.instance.Instance.{Instance}
use Rattle.pls_search.specs.declared.departs.Left.{Left}
use Rattle.pls_search.specs.declared.task.Task.{Task as Waiting}
use Rattle.pls_search.specs.declared.worker.Search.{Search}
use Rattle.pls_search.specs.declared.worker.Worker.{Worker}
use Rattle.pls_search.specs.Crews.{Holds, HasDeparted}
use Rattle.pls_search.specs.Leaving.{Departs, graver}
use Rattle.pls_search.specs.Seats.{hands_of, HasLists, IsSeated, IsShown}
use Rattle.pls_search.specs.Teams.{JoinsHands}
use Rattle.pls_search.specs.Workers.{Hands}
use Rattle.pls_search.proofs.Numbers.{numbers-joined}

-- a worker that left for no cause drew no move in vain
pub fresh-departed :
    (reply : List Point → Call → Reply) (i : Instance) (started : ℕ) (end : Result (Unit {0}) Cause) (before after : Hands)
    → Departs reply i started end before after → before.tally.draws ≡ before.tally.goes → OnOk end (after.tally.draws ≡ after.tally.goes)
fresh-departed reply i started (Ok u) before after departs fresh =
    let did = departs.explores.did in omega (arith, did.draws_are, did.goes_are, fresh)
fresh-departed reply i started (Err cause) before after departs fresh = tt

-- so it is of two workers that are joined
pub fresh-joined :
    (a b end : Result (Unit {0}) Cause) (s t u : Tally) → end ≡ graver a b → u ≡ joining s t → OnOk a (s.draws ≡ s.goes) → OnOk b (t.draws ≡ t.goes)
    → OnOk end (u.draws ≡ u.goes)
fresh-joined a b (Err cause) s t u is joins first other = tt
fresh-joined (Ok x) (Ok y) (Ok z) s t u is joins first other =
    omega (arith, ap (λ (v : Tally). v.draws) joins, ap (λ (v : Tally). v.goes) joins, first, other)
fresh-joined (Ok x) (Err cause) (Ok z) s t u is joins first other = cc
fresh-joined (Err Memory) b (Ok z) s t u is joins first other = cc
fresh-joined (Err Full) (Ok y) (Ok z) s t u is joins first other = cc
fresh-joined (Err Full) (Err Spent) (Ok z) s t u is joins first other = cc
fresh-joined (Err Full) (Err Full) (Ok z) s t u is joins first other = cc
fresh-joined (Err Full) (Err Memory) (Ok z) s t u is joins first other = cc
fresh-joined (Err Spent) (Ok y) (Ok z) s t u is joins first other = cc
fresh-joined (Err Spent) (Err cause) (Ok z) s t u is joins first other = cc

module _ {A P G Law Pass Seat : Type 0} (a : shared.Ghosts A Law Pass) (r : rule.Ghosts Law) (p : pool.Ghosts P Waiting Seat) (s : Search A P G Law Pass Seat) where
  -- it shows want of room just where it left for that
  pub IsShown-departed :
      (before : Worker A P Law Pass Seat) (left : Left A P Law Pass Seat) → HasDeparted a r p s before left → ¬ a.shows_full before.pass
      → IsShown a p s left.end left.worker.pass
  IsShown-departed before left departed unfull = record {
    full = λ some. (λ shows. by_case (departed.full.0 shows), λ is. departed.full.1 (inr is));
    room = departed.room;
  }
    where
      by_case : a.shows_full before.pass ⊎ (left.end ≡ Err Full) → left.end ≡ Err Full
      by_case (inl shows) = absurd (unfull shows)
      by_case (inr is) = is

  -- it holds what it held
  pub Holds-departed :
      (n : ℕ) (before : Worker A P Law Pass Seat) (left : Left A P Law Pass Seat) → HasDeparted a r p s before left → Holds a r p s n before
      → Holds a r p s n left.worker
  Holds-departed n before left departed holds =
      let goes = departed.departs.goes_on in
      record { seated = departed.seated; numbers = goes.numbers ∙ holds.numbers; share = goes.share ∙ holds.share; lists = goes.consistent holds.lists }

  -- it holds the passes and the seats of one worker more
  pub Holds-joined :
      (m n : ℕ) (first other after : Worker A P Law Pass Seat) → m ≡ n → Holds a r p s m first → (p.account other.pool_seat).numbers ≡ n ∷ []
      → (tally_of other.desk_seat).share ≡ 1 → JoinsHands (hands_of a p first) (hands_of a p other) (hands_of a p after) → IsSeated a p s after
      → HasLists a r p s after.pass → Holds a r p s (n + 1) after
  Holds-joined m n first other after count holds numbers share joins seated lists = record {
    seated = seated;
    numbers = joins.accounts.numbers ∙ numbers-joined m n (p.account first.pool_seat).numbers (p.account other.pool_seat).numbers count holds.numbers numbers;
    share = omega (arith, ap (λ (t : Tally). t.share) joins.tallies, holds.share, share, count);
    lists = lists;
  }
