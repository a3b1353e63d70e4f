-- The work of a worker that goes on exploring, and of one that has done nothing.
use Rattle.std.proofs.Common.{◌≡◌, Bool, false, ◌||◌, List, [], ◌∷◌, ◌++◌, length, map, refl, ap, ap₂, sym, subst, ◌∙◌, append_assoc, arith}
use Rattle.std.specs.List.{flat_map}
use Rattle.std.proofs.lemmas.List.{append-nil, map-append, length-append}
use Rattle.std.proofs.lemmas.List.Concat.{flat_map-append}
use Rattle.pls_archive.specs.declared.call.Entry.{Entry}
use Rattle.pls_archive.specs.Lists.{Every, total, how_many, one_if}
use Rattle.pls_archive.specs.History.{submissions}
use Rattle.pls_archive.specs.Explorations.{Exploration, IsExploration, tasks, entries_of, entries_of_run, evaluated_in, is_whole, is_cut}
use Rattle.pls_archive.proofs.Every.{Every-append, total-append}
use Rattle.pls_archive.proofs.Histories.{submissions-append}
use Rattle.pls_archive.proofs.SequentialCalls.{tasks-append}
use Rattle.pls_problem.specs.declared.instance.Instance.{Instance}
use Rattle.pls_search.specs.Neighbours.{neighbours_of, IsPointOf}
use Rattle.pls_search.specs.Workers.{Hands, Work, IsWork, IsNewWorker, task_of}
use Rattle.pls_search.specs.Teams.{AddsUp, HasDone}
use Rattle.pls_search.specs.Onwards.{ExploresOn, grown}
use Rattle.pls_search.proofs.Counting.{HasCounted-grown}
use Rattle.pls_search.proofs.Turns.{uncut, OnlyLastIsCut-append}

-- ---- the work of a worker that went on

module _ (i : Instance) (spent full : Bool) (before after : Hands) (on : ExploresOn i spent full before after) where
  entries-grown : (w : Work) → w.run.last ≡ [] → entries_of_run (grown w on).run ≡ entries_of_run w.run ++ flat_map entries_of on.explorations
  entries-grown w none =
      let xs = flat_map entries_of w.run.explorations in
      let ys = flat_map entries_of on.explorations in
      ap₂ (λ (es last : List Entry). w.run.starts ++ (es ++ last)) (flat_map-append entries_of w.run.explorations on.explorations) none
      ∙ (ap (λ (es : List Entry). w.run.starts ++ es) (append-nil (xs ++ ys))
      ∙ (sym (append_assoc w.run.starts xs ys)
      ∙ ap (λ (es : List Entry). (w.run.starts ++ es) ++ ys) (sym (append-nil xs) ∙ ap (λ (last : List Entry). xs ++ last) (sym none))))

  pub IsWork-grown : (w : Work) → IsWork i w → w.spent ≡ false → w.full ≡ false → w.run.last ≡ [] → IsWork i (grown w on)
  IsWork-grown w is unspent unfull none =
      let xs = w.run.explorations in
      let ys = on.explorations in
      let entries = entries-grown w none in
      let more = flat_map entries_of ys in
      let none_cut : one_if (w.spent || w.full) ≡ 0 = ap₂ (λ (a b : Bool). one_if (a || b)) unspent unfull in
      let none_full : one_if w.full ≡ 0 = ap one_if unfull in
      let none_spent : one_if w.spent ≡ 0 = ap one_if unspent in
      let whole = uncut (neighbours_of i) xs (omega (arith, is.cut)) in
      let before_is = ap (total evaluated_in) (append-nil xs) in
      let after_is = ap (total evaluated_in) (append-nil (xs ++ ys)) ∙ total-append evaluated_in xs ys in
      let made : tasks (entries_of_run (grown w on).run) ≡ tasks (entries_of_run w.run) ++ tasks more = ap tasks entries ∙ tasks-append (entries_of_run w.run) more in
      record {
        explores = record {
          each = Every-append (IsExploration (neighbours_of i)) xs ys is.explores.each on.each;
          cut = OnlyLastIsCut-append (neighbours_of i) xs ys whole on.last;
        };
        points =
            subst (Every (IsPointOf i)) (sym (ap submissions entries ∙ submissions-append (entries_of_run w.run) more))
            (Every-append (IsPointOf i) (submissions (entries_of_run w.run)) (submissions more) is.points on.points);
        put_are = λ test.
            let sums = ap (how_many test) made ∙ total-append (λ t. one_if (test t)) (tasks (entries_of_run w.run)) (tasks more) in
            omega (arith, is.put_are test, sums);
        opened_are =
            let sums = ap length made ∙ length-append (tasks (entries_of_run w.run)) (tasks more) in
            omega (arith, is.opened_are, sums);
        taken_are = λ test.
            let sums = ap (how_many test) (map-append (λ (x : Exploration). x.task) xs ys)
            ∙ total-append (λ t. one_if (test t)) (map (λ x. x.task) xs) (map (λ x. x.task) ys) in
            omega (arith, is.taken_are test, on.taken test, sums);
        done_are =
            let sums = total-append (λ x. one_if (is_whole (neighbours_of i) x)) xs ys in
            omega (arith, is.done_are, sums);
        cut =
            let sums = total-append (λ x. one_if (is_cut (neighbours_of i) x)) xs ys in
            omega (arith, is.cut, on.cut, sums);
        went = omega (arith, is.went, before_is, after_is);
        drawn = omega (arith, is.drawn);
      }

  pub AddsUp-grown : (w : Work) (others : List Work) → AddsUp (w ∷ others) before → AddsUp (grown w on ∷ others) after
  AddsUp-grown w others adds = record {
    put_are = λ test. omega (arith, adds.put_are test, on.did.put test);
    taken_are = λ test. omega (arith, adds.taken_are test, on.did.taken test);
    opened_are = omega (arith, adds.opened_are, on.did.opened);
    done_are = omega (arith, adds.done_are, on.did.done_are);
    draws_are = omega (arith, adds.draws_are, on.did.draws_are);
    goes_are = omega (arith, adds.goes_are, on.did.goes_are);
  }

  pub own-grown : (w : Work) → w.run.last ≡ [] → before.view.own ≡ entries_of_run w.run → after.view.own ≡ entries_of_run (grown w on).run
  own-grown w none own =
      on.did.own ∙ (ap (λ (es : List Entry). es ++ flat_map entries_of on.explorations) own ∙ sym (entries-grown w none))

  pub HasDone-grown : (w : Work) → HasDone i w before → w.spent ≡ false → w.full ≡ false → HasDone i (grown w on) after
  HasDone-grown w done unspent unfull = record {
    work = IsWork-grown w done.work unspent unfull done.goes_on;
    goes_on = done.goes_on;
    own = own-grown w done.goes_on done.own;
    adds_up = AddsUp-grown w [] done.adds_up;
    counts = HasCounted-grown i spent full before after on w.run [] done.counts;
  }

-- ---- a worker that has done nothing

abbrev pub no_work : Work
no_work = record {
  run = record { starts = []; explorations = []; last = [] };
  spent = false;
  full = false;
  put = λ test. 0;
  taken = λ test. 0;
  opened = 0;
  done = 0;
  draws = 0;
  goes = 0;
}

pub HasDone-none : (i : Instance) (h : Hands) → IsNewWorker h → HasDone i no_work h
HasDone-none i h new = record {
  work = record {
    explores = record { each = tt; cut = tt };
    points = tt;
    put_are = λ test. refl;
    opened_are = refl;
    taken_are = λ test. omega arith;
    done_are = refl;
    cut = refl;
    went = refl;
    drawn = refl;
  };
  goes_on = refl;
  own = new.own;
  adds_up = record {
    put_are = λ test. new.put (λ t. test (task_of t));
    taken_are = λ test. new.taken (λ t. test (task_of t));
    opened_are = new.opened;
    done_are = new.done;
    draws_are = new.draws;
    goes_are = new.goes;
  };
  counts = record {
    explored_are = omega (arith, new.explored);
    evaluated_are = omega (arith, new.evaluated);
  };
}
