-- What a worker did between two moments: by one call, and by steps one after the other.
use Rattle.std.proofs.Common.{◌≡◌, ℕ, ◌+◌, ◌%◌, ◌^◌, List, [], ◌∷◌, ◌++◌, length, Result, Ok, Err, refl, ap, sym, ◌∙◌, append_assoc, arith, length-append}
use Rattle.std.proofs.lemmas.List.{append-nil}
use Rattle.pls_archive.specs.declared.point.Point.{Point}
use Rattle.pls_archive.specs.declared.call.Call.{Call}
use Rattle.pls_archive.specs.declared.call.Reply.{Reply}
use Rattle.pls_archive.specs.declared.call.Entry.{Entry}
use Rattle.pls_archive.specs.Lists.{how_many, one_if}
use Rattle.pls_archive.specs.View.{View}
use Rattle.pls_archive.specs.Explorations.{Task, tasks}
use Rattle.pls_archive.proofs.Every.{total-append}
use Rattle.pls_archive.proofs.SequentialCalls.{tasks-append}
use Rattle.pls_pool.specs.Accounts.{Account, Takes}
use Rattle.pls_pool.specs.Tallies.{finding}
use Rattle.pls_pool.specs.declared.cause.Cause.{Cause}
use Rattle.pls_pool.specs.declared.tally.Tally.{Tally}
use Rattle.pls_search.specs.declared.task.Task.{Task as Waiting}
use Rattle.pls_search.specs.Workers.{task_of, Hands, RisesBy, Did, GoesOn}
use Rattle.pls_search.specs.Steps.{Halts, causes_of}

-- the counts at the desk stay
pub record SameCounts (s t : Tally) : Type 0 where
  pub opened : t.opened ≡ s.opened
  pub draws : t.draws ≡ s.draws
  pub goes : t.goes ≡ s.goes
  pub done : t.done ≡ s.done

pub SameCounts-self : (t : Tally) → SameCounts t t
SameCounts-self t = record { opened = refl; draws = refl; goes = refl; done = refl }

-- a count that stays, and one that rises twice
RisesBy-none : (before after : ℕ) → after ≡ before → RisesBy 0 before after
RisesBy-none before after same = omega (arith, same)

RisesBy-then : (n m sum first between last : ℕ) → sum ≡ n + m → RisesBy n first between → RisesBy m between last → RisesBy sum first last
RisesBy-then n m sum first between last is one two = omega (arith, is, one, two)

-- entries that make no task, with nothing put or taken and no count changed
pub Did-entries :
    (es : List Entry) (before after : Hands) → tasks es ≡ [] → after.view.own ≡ before.view.own ++ es → after.account ≡ before.account
    → SameCounts before.tally after.tally → after.explored ≡ before.explored → after.evaluated ≡ before.evaluated
    → Did es [] 0 0 0 0 0 before after
Did-entries es before after none own same counts explored evaluated =
    let no_task = ap length none in
    record {
      own = own;
      put = λ test.
          let as_many = ap (λ (a : Account Waiting). a.put (λ t. test (task_of t))) same in
          let nothing = ap (how_many test) none in
          omega arith;
      taken = λ test. let as_many = ap (λ (a : Account Waiting). a.taken (λ t. test (task_of t))) same in omega arith;
      opened = omega (arith, counts.opened, no_task);
      draws_are = omega (arith, counts.draws);
      goes_are = omega (arith, counts.goes);
      done_are = omega (arith, counts.done);
      explored_are = RisesBy-none before.explored after.explored explored;
      evaluated_are = RisesBy-none before.evaluated after.evaluated evaluated;
    }

pub Did-nothing :
    (before after : Hands) → after.view.own ≡ before.view.own → after.account ≡ before.account → SameCounts before.tally after.tally
    → after.explored ≡ before.explored → after.evaluated ≡ before.evaluated → Did [] [] 0 0 0 0 0 before after
Did-nothing before after own same counts explored evaluated =
    Did-entries [] before after refl (own ∙ sym (append-nil before.view.own)) same counts explored evaluated

-- the same hands
pub Did-none : (h : Hands) → Did [] [] 0 0 0 0 0 h h
Did-none h = Did-nothing h h refl refl (SameCounts-self h.tally) refl refl

-- one step after another
pub Did-then :
    {es fs all : List Entry} {ts us both : List Task} {d d2 ds g g2 gs k k2 ks x x2 xs n n2 ns : ℕ} {first between last : Hands}
    → all ≡ es ++ fs → both ≡ ts ++ us → ds ≡ d + d2 → gs ≡ g + g2 → ks ≡ k + k2 → xs ≡ x + x2 → ns ≡ n + n2
    → Did es ts d g k x n first between → Did fs us d2 g2 k2 x2 n2 between last → Did all both ds gs ks xs ns first last
Did-then {es = es} {fs = fs} {ts = ts} {us = us} {x = x} {x2 = x2} {xs = xs} {n = n} {n2 = n2} {ns = ns} {first = first} {between = between} {last = last} entries both draws goes done explored evaluated one two =
    let made = ap tasks entries ∙ tasks-append es fs in
    record {
      own = two.own ∙ (ap (λ (h : List Entry). h ++ fs) one.own ∙ (append_assoc first.view.own es fs ∙ ap (λ (h : List Entry). first.view.own ++ h) (sym entries)));
      put = λ test.
          let sums = ap (how_many test) made ∙ total-append (λ t. one_if (test t)) (tasks es) (tasks fs) in
          omega (arith, one.put test, two.put test, sums);
      taken = λ test.
          let sums = ap (how_many test) both ∙ total-append (λ t. one_if (test t)) ts us in
          omega (arith, one.taken test, two.taken test, sums);
      opened = let count = ap length made ∙ length-append (tasks es) (tasks fs) in omega (arith, one.opened, two.opened, count);
      draws_are = omega (arith, one.draws_are, two.draws_are, draws);
      goes_are = omega (arith, one.goes_are, two.goes_are, goes);
      done_are = omega (arith, one.done_are, two.done_are, done);
      explored_are = RisesBy-then x x2 xs first.explored between.explored last.explored explored one.explored_are two.explored_are;
      evaluated_are = RisesBy-then n n2 ns first.evaluated between.evaluated last.evaluated evaluated one.evaluated_are two.evaluated_are;
    }

-- and one that did nothing
pub Did-after :
    {es : List Entry} {ts : List Task} {d g k x n : ℕ} {first between last : Hands}
    → Did es ts d g k x n first between → Did [] [] 0 0 0 0 0 between last → Did es ts d g k x n first last
Did-after {es = es} {ts = ts} one two = Did-then (sym (append-nil es)) (sym (append-nil ts)) (omega arith) (omega arith) (omega arith) (omega arith) (omega arith) one two

-- a task was taken
pub Did-took :
    (seats : ℕ) (task : Waiting) (before after : Hands) → after.view.own ≡ before.view.own → Takes seats task before.account after.account
    → SameCounts before.tally after.tally → after.explored ≡ before.explored → after.evaluated ≡ before.evaluated
    → Did [] (task_of task ∷ []) 0 0 0 0 0 before after
Did-took seats task before after own takes counts explored evaluated = record {
  own = own ∙ sym (append-nil before.view.own);
  put = λ test. omega (arith, takes.put (λ t. test (task_of t)));
  taken = λ test. omega (arith, takes.taken (λ t. test (task_of t)));
  opened = omega (arith, counts.opened);
  draws_are = omega (arith, counts.draws);
  goes_are = omega (arith, counts.goes);
  done_are = omega (arith, counts.done);
  explored_are = RisesBy-none before.explored after.explored explored;
  evaluated_are = RisesBy-none before.evaluated after.evaluated evaluated;
}

-- an exploration was counted
pub Did-counted : (h : Hands) (n : ℕ) → n ≡ (h.explored + 1) % 2 ^ 64 → Did [] [] 0 0 0 1 0 h (record h { explored = n })
Did-counted h n is = record {
  own = sym (append-nil h.view.own);
  put = λ test. omega arith;
  taken = λ test. omega arith;
  opened = omega arith;
  draws_are = omega arith;
  goes_are = omega arith;
  done_are = omega arith;
  explored_are = omega (arith, is);
  evaluated_are = omega arith;
}

-- a look at the desk
pub SameCounts-found : (found : ℕ) (s t : Tally) → t ≡ finding found s → SameCounts s t
SameCounts-found found s t looked = record {
  opened = ap (λ (v : Tally). v.opened) looked;
  draws = ap (λ (v : Tally). v.draws) looked;
  goes = ap (λ (v : Tally). v.goes) looked;
  done = ap (λ (v : Tally). v.done) looked;
}

-- the run is halted, where it has to be
pub SameCounts-halts : (end : Result Unit Cause) (s t : Tally) → Halts end s t → SameCounts s t
SameCounts-halts (Ok u) s t same = rw same (SameCounts-self s)
SameCounts-halts (Err cause) s t halts = record {
  opened = ap (λ (v : Tally). v.opened) halts;
  draws = ap (λ (v : Tally). v.draws) halts;
  goes = ap (λ (v : Tally). v.goes) halts;
  done = ap (λ (v : Tally). v.done) halts;
}

module _ (reply : List Point → Call → Reply) (started : ℕ) where
  pub GoesOn-then :
      {cs ds all : List Cause} {first between last : Hands} → all ≡ cs ++ ds
      → GoesOn reply started cs first between → GoesOn reply started ds between last → GoesOn reply started all first last
  GoesOn-then {cs = cs} {ds = ds} {first = first} causes one two = record {
    number = two.number ∙ one.number;
    others = two.others ∙ one.others;
    consistent = λ before. two.consistent (one.consistent before);
    numbers = two.numbers ∙ one.numbers;
    share = two.share ∙ one.share;
    halts =
        two.halts ∙ (ap (λ (h : List Cause). h ++ ds) one.halts ∙ (append_assoc first.tally.halts cs ds ∙ ap (λ (h : List Cause). first.tally.halts ++ h) (sym causes)));
  }

  -- a step at the seats alone
  pub GoesOn-seats :
      (causes : List Cause) (before after : Hands) → after.view ≡ before.view → after.account.numbers ≡ before.account.numbers
      → after.tally.share ≡ before.tally.share → after.tally.halts ≡ before.tally.halts ++ causes → GoesOn reply started causes before after
  GoesOn-seats causes before after view numbers share halts = record {
    number = ap (λ (v : View). v.number) view;
    others = ap (λ (v : View). v.others) view;
    consistent = λ is. rw view is;
    numbers = numbers;
    share = share;
    halts = halts;
  }

  pub GoesOn-self : (h : Hands) → GoesOn reply started [] h h
  GoesOn-self h = GoesOn-seats [] h h refl refl refl (sym (append-nil h.tally.halts))

  -- the run is halted, where it has to be
  pub GoesOn-halts :
      (end : Result (Unit {0}) Cause) (before after : Hands) → after.view ≡ before.view → after.account ≡ before.account → Halts end before.tally after.tally
      → GoesOn reply started (causes_of end) before after
  GoesOn-halts (Ok u) before after view account same =
      GoesOn-seats [] before after view (ap (λ (a : Account Waiting). a.numbers) account) (ap (λ (t : Tally). t.share) same)
      (ap (λ (t : Tally). t.halts) same ∙ sym (append-nil before.tally.halts))
  GoesOn-halts (Err cause) before after view account halts =
      GoesOn-seats (cause ∷ []) before after view (ap (λ (a : Account Waiting). a.numbers) account) (ap (λ (t : Tally). t.share) halts)
      (ap (λ (t : Tally). t.halts) halts)
