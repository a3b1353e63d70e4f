-- What a worker keeps through several steps.
use Rattle.std.proofs.Common.{◌≡◌, ◌⊎◌, inl, inr, List, [], Result, Ok, Err, refl, sym, subst}
use Rattle.pls_archive.specs.declared.rule.Rule as rule
use Rattle.pls_archive.specs.declared.shared.Shared as shared
use Rattle.pls_pool.specs.declared.cause.Cause.{Cause}
use Rattle.pls_pool.specs.declared.cause.Cause.TheVariants.{Full, Memory}
use Rattle.pls_pool.specs.declared.pool.Pool as pool
use Rattle.pls_search.specs.declared.task.Task.{Task as Waiting}
use Rattle.pls_search.specs.declared.worker.Search.{Search}
use Rattle.pls_search.specs.declared.worker.Worker.{Worker}
use Rattle.pls_search.specs.Workers.{GoesOn}
use Rattle.pls_search.specs.Seats.{hands_of, IsSeated, StaysInOrder, Keeps}
use Rattle.pls_search.proofs.Moments.{GoesOn-self, GoesOn-then}

-- nothing was halted
abbrev pub fine : Result (Unit {0}) Cause
fine = Ok tt

not_full : fine ≡ Err Full → ⊥
not_full e = cc

not_memory : fine ≡ Err Memory → ⊥
not_memory e = cc

module _ {A P G Law Pass Seat : Type 0} (a : shared.Ghosts A Law Pass) (p : pool.Ghosts P Waiting Seat) (s : Search A P G Law Pass Seat) where
  pub StaysInOrder-self : (x : Worker A P Law Pass Seat) → StaysInOrder a p s fine x x
  StaysInOrder-self x = λ some one explored lines. lines

  pub StaysInOrder-then :
      {end : Result (Unit {0}) Cause} (x y z : Worker A P Law Pass Seat) → StaysInOrder a p s fine x y → StaysInOrder a p s end y z → StaysInOrder a p s end x z
  StaysInOrder-then x y z first then = λ some one explored lines. then some one explored (first not_memory one explored lines)

module _ {A P G Law Pass Seat : Type 0} (a : shared.Ghosts A Law Pass) (r : rule.Ghosts Law) (p : pool.Ghosts P Waiting Seat) (s : Search A P G Law Pass Seat) where
  -- the pass did nothing
  pub Keeps-seats :
      (x y : Worker A P Law Pass Seat) → y.pass ≡ x.pass → IsSeated a p s y
      → GoesOn (r.reply (a.number s.archive.now)) (a.passes s.archive.now) [] (hands_of a p x) (hands_of a p y) → Keeps a r p s [] fine x y
  Keeps-seats x y same seated goes = record {
    seated = seated;
    goes_on = goes;
    full = (λ shows. inl (subst (λ q. a.shows_full q) same shows), λ either. by_case either);
    room = λ is. absurd (not_full is);
  }
    where
      by_case : a.shows_full x.pass ⊎ (fine ≡ Err Full) → a.shows_full y.pass
      by_case (inl shows) = subst (λ q. a.shows_full q) (sym same) shows
      by_case (inr is) = absurd (not_full is)

  pub Keeps-self : (x : Worker A P Law Pass Seat) → IsSeated a p s x → Keeps a r p s [] fine x x
  Keeps-self x seated = Keeps-seats x x refl seated (GoesOn-self _ _ (hands_of a p x))

  pub Keeps-then :
      {causes : List Cause} {end : Result (Unit {0}) Cause} (x y z : Worker A P Law Pass Seat) → Keeps a r p s [] fine x y → Keeps a r p s causes end y z
      → Keeps a r p s causes end x z
  Keeps-then {end = end} x y z first then = record {
    seated = then.seated;
    goes_on = GoesOn-then _ _ {first = hands_of a p x} {between = hands_of a p y} {last = hands_of a p z} refl first.goes_on then.goes_on;
    full = (λ shows. earlier (then.full.0 shows), λ either. then.full.1 (later either));
    room = then.room;
  }
    where
      earlier : a.shows_full y.pass ⊎ (end ≡ Err Full) → a.shows_full x.pass ⊎ (end ≡ Err Full)
      earlier (inr is) = inr is
      earlier (inl shows) = by_case (first.full.0 shows)
        where
          by_case : a.shows_full x.pass ⊎ (fine ≡ Err Full) → a.shows_full x.pass ⊎ (end ≡ Err Full)
          by_case (inl before) = inl before
          by_case (inr is) = absurd (not_full is)

      later : a.shows_full x.pass ⊎ (end ≡ Err Full) → a.shows_full y.pass ⊎ (end ≡ Err Full)
      later (inr is) = inr is
      later (inl shows) = inl (first.full.1 (inl shows))
