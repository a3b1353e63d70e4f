-- How a team comes to be: the first worker submits the starts, goes on, and takes over what another did.
use Rattle.std.proofs.Common.{◌≡◌, ℕ, suc, ◌+◌, ◌<◌, ◌==◌, Bool, true, false, List, [], ◌∷◌, ◌++◌, length, map, ap, ap₂, sym, subst, ◌∙◌, arith}
use Rattle.std.specs.List.{range_with_len, flat_map}
use Rattle.std.proofs.lemmas.Bool.{eqb-true}
use Rattle.std.proofs.lemmas.List.{append-nil, drop_all, length-append, length-map, map-append}
use Rattle.pls_vectors.proofs.Ranges.{range_with_len-suc}
use Rattle.pls_archive.specs.declared.point.Point.{Point}
use Rattle.pls_archive.specs.declared.call.Entry.{Entry}
use Rattle.pls_archive.specs.Lists.{Every}
use Rattle.pls_archive.specs.History.{submissions}
use Rattle.pls_archive.specs.Explorations.{Task, Exploration, CallerRun, entries_of, entries_of_run}
use Rattle.pls_archive.specs.SearchRun.{SubmitsFirst, OnlyExplores, missing}
use Rattle.pls_archive.specs.Sequential.{InOrder}
use Rattle.pls_archive.proofs.Every.{Every-append}
use Rattle.pls_pool.specs.declared.tally.Tally.{Tally}
use Rattle.pls_problem.specs.declared.instance.Instance.{Instance}
use Rattle.pls_search.specs.Neighbours.{IsPointOf}
use Rattle.pls_search.specs.Workers.{task_of, Hands, Work, IsWork, LinesUp, HasCounted, work_of, StandsFor}
use Rattle.pls_search.specs.Onwards.{ExploresOn, grown}
use Rattle.pls_search.specs.Teams.{runs_of, HasDone, IsTeam, JoinsHands}
use Rattle.pls_search.proofs.Counting.{HasCounted-grown, HasCounted-joined}
use Rattle.pls_search.proofs.Onwards.{IsWork-grown, AddsUp-grown, own-grown}
use Rattle.pls_search.proofs.Lining.{InOrder-append}
use Rattle.pls_search.proofs.Totals.{total-one_more}

-- what hands stand for is what was done
pub HasDone-stands : (i : Instance) (spent full : Bool) (h : Hands) (r : CallerRun) → StandsFor i spent full h r → HasDone i (work_of r spent full h) h
HasDone-stands i spent full h r stands = record {
  work = stands.work;
  goes_on = stands.last;
  own = stands.own;
  adds_up = record {
    put_are = λ test. omega arith;
    taken_are = λ test. omega arith;
    opened_are = omega arith;
    done_are = omega arith;
    draws_are = omega arith;
    goes_are = omega arith;
  };
  counts = stands.counts;
}

-- no start is missing where as many were submitted
pub none_missing : (starts : List Point) (r : CallerRun) → (length r.starts == length starts) ≡ true → missing starts r ≡ []
none_missing starts r same = drop_all (length r.starts) starts (omega (arith, eqb-true (length r.starts) (length starts) same))

module _ (i : Instance) (starts : List Point) where
  -- the first worker submitted the starts, or the first of them
  pub team_begins :
      (w : Work) (h : Hands) → HasDone i w h → SubmitsFirst starts w.run.starts → w.run.explorations ≡ [] → h.view.number ≡ 0 → h.view.others ≡ []
      → (h.tally.seats ≡ 1 → LinesUp [] h) → IsTeam i starts w [] h
  team_begins w h done begins none number others line = record {
    works = (done.work, tt);
    begins = begins;
    goes_on = done.goes_on;
    explore = tt;
    waits = λ missed. (none, tt);
    number = number;
    own = done.own;
    callers = ap (map (λ (list : ℕ × List Entry). list.0)) others;
    lists = ap (map (λ (list : ℕ × List Entry). list.1)) others;
    adds_up = done.adds_up;
    counts = done.counts;
    in_turn = λ one alone.
        subst (λ (xs : List Exploration). InOrder w.run.starts 0 xs × LinesUp (map (λ x. x.task) xs) h) (sym none) (tt, line one);
  }

  -- it goes on exploring, where no start is missing
  pub team_goes_on :
      (first : Work) (others : List Work) (spent full : Bool) (before after : Hands) (on : ExploresOn i spent full before after)
      → IsTeam i starts first others before → first.spent ≡ false → first.full ≡ false → missing starts first.run ≡ []
      → after.view.number ≡ before.view.number → after.view.others ≡ before.view.others → after.tally.seats ≡ before.tally.seats
      → (before.tally.seats ≡ 1 → (explored : List Task) → LinesUp explored before → Every (IsPointOf i) (submissions before.view.own)
      → InOrder before.view.own (length explored) on.explorations × LinesUp (explored ++ map (λ x. x.task) on.explorations) after)
      → IsTeam i starts (grown first on) others after
  team_goes_on first others spent full before after on team unspent unfull started number same seats line = record {
    works = (IsWork-grown i spent full before after on first team.works.0 unspent unfull team.goes_on, team.works.1);
    begins = team.begins;
    goes_on = team.goes_on;
    explore = team.explore;
    waits = λ missed. let none = ap length started in absurd (omega arith);
    number = number ∙ team.number;
    own = own-grown i spent full before after on first team.goes_on team.own;
    callers = ap (map (λ (list : ℕ × List Entry). list.0)) same ∙ team.callers;
    lists = ap (map (λ (list : ℕ × List Entry). list.1)) same ∙ team.lists;
    adds_up = AddsUp-grown i spent full before after on first others team.adds_up;
    counts = HasCounted-grown i spent full before after on first.run (runs_of others) team.counts;
    in_turn = λ one alone.
        let before_one = sym seats ∙ one in
        let xs = first.run.explorations in
        let ys = on.explorations in
        let explored = map (λ (x : Exploration). x.task) xs in
        let so_far = team.in_turn before_one alone in
        let made : before.view.own ≡ first.run.starts ++ flat_map entries_of xs =
        team.own
        ∙ (ap (λ (last : List Entry). first.run.starts ++ (flat_map entries_of xs ++ last)) team.goes_on
        ∙ ap (λ (es : List Entry). first.run.starts ++ es) (append-nil (flat_map entries_of xs))) in
        let points = subst (Every (IsPointOf i)) (ap submissions (sym team.own)) team.works.0.points in
        let more = line before_one explored so_far.1 points in
        let many = length-map xs (λ (x : Exploration). x.task) in
        let count : length explored ≡ 0 + length xs = omega (arith, many) in (
          InOrder-append first.run.starts 0 (length explored) xs ys count so_far.0
              (subst (λ (h : List Entry). InOrder h (length explored) ys) made more.0),
          more.1 ∙ ap (λ (ts : List Task). ts ++ map task_of after.account.waiting) (sym (map-append (λ (x : Exploration). x.task) xs ys)),
        );
  }

  -- it takes over what the next worker did
  pub team_joins :
      (first : Work) (others : List Work) (w : Work) (before other after : Hands) → IsTeam i starts first others before → HasDone i w other
      → w.run.starts ≡ [] → (0 < length (missing starts first.run) → w.run.explorations ≡ [])
      → other.view.number ≡ length others + 1 → other.view.others ≡ [] → JoinsHands before other after
      → IsTeam i starts first (others ++ w ∷ []) after
  team_joins first others w before other after team done none waits number alone joins = record {
    works = Every-append (IsWork i) (first ∷ others) (w ∷ []) team.works (done.work, tt);
    begins = team.begins;
    goes_on = team.goes_on;
    explore = Every-append (λ w. OnlyExplores w.run) others (w ∷ []) team.explore (record { starts = none; last = done.goes_on }, tt);
    waits = λ missed. Every-append (λ w. w.run.explorations ≡ []) (first ∷ others) (w ∷ []) (team.waits missed) (waits missed, tt);
    number = joins.views.number ∙ team.number;
    own = joins.views.own ∙ team.own;
    callers =
        ap (map (λ (list : ℕ × List Entry). list.0)) (joins.views.others ∙ ap (λ (lists : List (ℕ × List Entry)). before.view.others ++ (other.view.number, other.view.own) ∷ lists) alone)
        ∙ (map-append (λ (list : ℕ × List Entry). list.0) before.view.others ((other.view.number, other.view.own) ∷ [])
        ∙ (ap₂ (λ (cs : List ℕ) (c : ℕ). cs ++ c ∷ []) team.callers number
        ∙ (sym (range_with_len-suc 1 (length others) (length others + 1) (omega arith)) ∙ ap (range_with_len 1) (sym long))));
    lists =
        ap (map (λ (list : ℕ × List Entry). list.1)) (joins.views.others ∙ ap (λ (lists : List (ℕ × List Entry)). before.view.others ++ (other.view.number, other.view.own) ∷ lists) alone)
        ∙ (map-append (λ (list : ℕ × List Entry). list.1) before.view.others ((other.view.number, other.view.own) ∷ [])
        ∙ (ap₂ (λ (ls : List (List Entry)) (l : List Entry). ls ++ l ∷ []) team.lists done.own
        ∙ (sym (map-append entries_of_run (runs_of others) (w.run ∷ [])) ∙ ap (map entries_of_run) (sym (map-append (λ (w : Work). w.run) others (w ∷ []))))));
    adds_up = record {
      put_are = λ test.
          let sums = total-one_more (λ (w : Work). w.put test) (first ∷ others) w in
          omega (arith, joins.accounts.put (λ t. test (task_of t)), team.adds_up.put_are test, done.adds_up.put_are test, sums);
      taken_are = λ test.
          let sums = total-one_more (λ (w : Work). w.taken test) (first ∷ others) w in
          omega (arith, joins.accounts.taken (λ t. test (task_of t)), team.adds_up.taken_are test, done.adds_up.taken_are test, sums);
      opened_are =
          let sums = total-one_more (λ (w : Work). w.opened) (first ∷ others) w in
          let both = ap (λ (t : Tally). t.opened) joins.tallies in
          omega (arith, both, team.adds_up.opened_are, done.adds_up.opened_are, sums);
      done_are =
          let sums = total-one_more (λ (w : Work). w.done) (first ∷ others) w in
          let both = ap (λ (t : Tally). t.done) joins.tallies in
          omega (arith, both, team.adds_up.done_are, done.adds_up.done_are, sums);
      draws_are =
          let sums = total-one_more (λ (w : Work). w.draws) (first ∷ others) w in
          let both = ap (λ (t : Tally). t.draws) joins.tallies in
          omega (arith, both, team.adds_up.draws_are, done.adds_up.draws_are, sums);
      goes_are =
          let sums = total-one_more (λ (w : Work). w.goes) (first ∷ others) w in
          let both = ap (λ (t : Tally). t.goes) joins.tallies in
          omega (arith, both, team.adds_up.goes_are, done.adds_up.goes_are, sums);
    };
    counts =
        subst (λ runs. HasCounted i runs after) (sym (map-append (λ (w : Work). w.run) (first ∷ others) (w ∷ [])))
        (HasCounted-joined i (runs_of (first ∷ others)) (w.run ∷ []) before other after joins.explored joins.evaluated team.counts done.counts);
    -- it is not the only one
    in_turn = λ one alone. let none = ap length alone in absurd (omega (arith, long, none));
  }
    where
      long : length (others ++ w ∷ []) ≡ suc (length others)
      long = omega (arith, length-append others (w ∷ []))
