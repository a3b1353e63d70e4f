-- How workers leave: one goes on, and one takes over what another did.
use Rattle.std.proofs.Common.{◌≡◌, ℕ, ◌+◌, ◌==◌, Bool, true, false, List, [], ◌∷◌, ◌++◌, length, map, Result, Ok, Err, OnOk, refl, ap, ap₂, subst, ◌∙◌, arith}
use Rattle.std.proofs.lemmas.Bool.{eqb-true, eqb-false}
use Rattle.std.proofs.lemmas.List.{append-nil, length-append}
use Rattle.pls_archive.specs.declared.point.Point.{Point}
use Rattle.pls_archive.specs.declared.call.Call.{Call}
use Rattle.pls_archive.specs.declared.call.Reply.{Reply}
use Rattle.pls_archive.specs.Lists.{Every, one_if, how_many}
use Rattle.pls_archive.specs.History.{submissions}
use Rattle.pls_archive.specs.Explorations.{Task}
use Rattle.pls_archive.specs.SearchRun.{missing}
use Rattle.pls_archive.specs.Sequential.{InOrder}
use Rattle.pls_archive.specs.View.{View, new_view}
use Rattle.pls_pool.specs.DeskRule.{HoldsAll}
use Rattle.pls_pool.specs.declared.cause.Cause.{Cause}
use Rattle.pls_pool.specs.declared.cause.Cause.TheVariants.{Spent, Full, Memory}
use Rattle.pls_pool.specs.declared.tally.Tally.{Tally}
use Rattle.pls_problem.specs.declared.instance.Instance.{Instance}
use Rattle.pls_search.specs.Neighbours.{IsPointOf}
use Rattle.pls_search.specs.Workers.{Hands, Work, LinesUp, GoesOn, HasLeft, IsNewWorker}
use Rattle.pls_search.specs.Steps.{UnlessMemory, causes_of}
use Rattle.pls_search.specs.Onwards.{ExploresOn, grown}
use Rattle.pls_search.specs.InLine.{ExploresInLine}
use Rattle.pls_search.specs.Teams.{fulls, spents, JoinsHands}
use Rattle.pls_search.specs.Leaving.{OfTeam, IsUnhalted, IsIdle, Leaves, graver, Departs}
use Rattle.pls_search.proofs.TeamEnds.{no_task_open}
use Rattle.pls_search.proofs.TeamJoins.{team_goes_on, team_joins}
use Rattle.pls_search.proofs.Onwards.{no_work, HasDone-none, HasDone-grown}
use Rattle.pls_search.proofs.Totals.{total-one_more}

-- none of some workers, so not the first of them
none_first : (b : Bool) (n : ℕ) → one_if b + n ≡ 0 → (b ≡ false) × (n ≡ 0)
none_first true n none = absurd (omega arith)
none_first false n none = (refl, omega arith)

-- what a worker explored, in order where the desk has one seat
record Explored (i : Instance) (before after : Hands) (spent full : Bool) : Type 0 where
  pub on : ExploresOn i spent full before after
  pub line :
      before.tally.seats ≡ 1 → (explored : List Task) → LinesUp explored before → Every (IsPointOf i) (submissions before.view.own)
      → InOrder before.view.own (length explored) on.explorations × LinesUp (explored ++ map (λ x. x.task) on.explorations) after

explored_so :
    (i : Instance) (before after : Hands) (spent full : Bool) → ExploresOn i spent full before after
    → (before.tally.seats ≡ 1 → ExploresInLine i before after spent full) → Explored i before after spent full
explored_so i before after spent full on line = by_seats (before.tally.seats == 1) refl
  where
    by_seats : (b : Bool) → (before.tally.seats == 1) ≡ b → Explored i before after spent full
    by_seats true one = let l = line (eqb-true before.tally.seats 1 one) in record { on = l.on; line = λ e. l.in_order }
    by_seats false more = record { on = on; line = λ one. absurd (eqb-false before.tally.seats 1 more one) }

module _ (i : Instance) (starts : List Point) (workers : ℕ) (before after : Hands)
    (number : after.view.number ≡ before.view.number) (same : after.view.others ≡ before.view.others)
    (seats : after.tally.seats ≡ before.tally.seats) where
  -- the first worker of a team goes on, where none has halted the run
  goes_on :
      {spent full : Bool} {P : Work → List Work → Type 0} → OfTeam i starts workers (λ first others. (missing starts first.run ≡ []) × (fulls (first ∷ others) ≡ 0) × (spents (first ∷ others) ≡ 0) × IsUnhalted before) before
      → (did : Explored i before after spent full)
      → ((first : Work) (others : List Work) → missing starts first.run ≡ [] → fulls others ≡ 0 → spents others ≡ 0 → P (grown first did.on) others)
      → OfTeam i starts workers P after
  goes_on {spent = spent} {full = full} of did then_is =
      let (started, unfull, unspent, unhalted) = of.why in
      let full_none = none_first of.first.full (fulls of.others) unfull in
      let spent_none = none_first of.first.spent (spents of.others) unspent in
      record {
        first = grown of.first did.on;
        others = of.others;
        team = team_goes_on i starts of.first of.others spent full before after did.on of.team spent_none.0 full_none.0 started number same seats did.line;
        all = of.all;
        why = then_is of.first of.others started full_none.1 spent_none.1;
      }

  pub Leaves-on :
      (otherwise : Hands → Type 0) (u : Unit {0}) (end : Result (Unit {0}) Cause) → Leaves IsUnhalted i starts workers (Ok u) before
      → UnlessMemory end (λ spent full. ExploresOn i spent full before after)
      → (before.tally.seats ≡ 1 → UnlessMemory end (ExploresInLine i before after)) → ((v : Unit {0}) → end ≡ Ok v → otherwise after)
      → Leaves otherwise i starts workers end after
  Leaves-on otherwise u (Ok v) of on line then_so =
      goes_on of (explored_so i before after false false on line) (λ first others started unfull unspent. (started, omega (arith, unfull), omega (arith, unspent), then_so v refl))
  Leaves-on otherwise u (Err Spent) of on line then_so =
      goes_on of (explored_so i before after true false on line) (λ first others started unfull unspent. (started, omega (arith, unfull), omega arith))
  Leaves-on otherwise u (Err Full) of on line then_so =
      goes_on of (explored_so i before after false true on line) (λ first others started unfull unspent. (started, omega arith))
  Leaves-on otherwise u (Err Memory) of on line then_so = tt

-- the one worker of a team departs
pub Leaves-departed :
    (reply : List Point → Call → Reply) (i : Instance) (starts : List Point) (started workers : ℕ) (before after : Hands) (u : Unit {0})
    (end : Result (Unit {0}) Cause) → Departs reply i started end before after → Leaves IsUnhalted i starts workers (Ok u) before
    → Leaves IsUnhalted i starts workers end after
Leaves-departed reply i starts started workers before after u end departs of =
    Leaves-on i starts workers before after departs.goes_on.number departs.goes_on.others departs.seats IsUnhalted u end of departs.explores departs.in_line
    (λ v is. departs.goes_on.halts ∙ (ap₂ (λ (xs ys : List Cause). xs ++ ys) of.why.3 (ap causes_of is)))

-- a worker that left for no cause saw that no task is open, where no seat keeps a cause
pub idle-left : (before after : Hands) → after.tally.halts ≡ before.tally.halts ++ [] → IsUnhalted before → HoldsAll after.tally → HasLeft after.tally → IsIdle after
idle-left before after halts unhalted holds left =
    no_task_open after.tally left holds (halts ∙ (append-nil before.tally.halts ∙ unhalted))

-- so the joined worker goes on
pub Leaves-went_on :
    (reply : List Point → Call → Reply) (i : Instance) (starts : List Point) (workers : ℕ) (before after : Hands) (u : Unit {0})
    (left end : Result (Unit {0}) Cause) → left ≡ Ok u → UnlessMemory end (λ spent full. ExploresOn i spent full before after)
    → GoesOn reply workers (causes_of end) before after → OnOk end (HasLeft after.tally) → HoldsAll after.tally
    → after.tally.seats ≡ before.tally.seats → (before.tally.seats ≡ 1 → UnlessMemory end (ExploresInLine i before after))
    → Leaves IsUnhalted i starts workers left before → Leaves IsIdle i starts workers end after
Leaves-went_on reply i starts workers before after u left end is on goes why holds seats line leaves =
    went end on line goes why (subst (λ l. Leaves IsUnhalted i starts workers l before) is leaves)
  where
    went :
        (end : Result (Unit {0}) Cause) → UnlessMemory end (λ spent full. ExploresOn i spent full before after)
        → (before.tally.seats ≡ 1 → UnlessMemory end (ExploresInLine i before after)) → GoesOn reply workers (causes_of end) before after
        → OnOk end (HasLeft after.tally) → Leaves IsUnhalted i starts workers (Ok u) before → Leaves IsIdle i starts workers end after
    went (Ok v) on line goes why of =
        Leaves-on i starts workers before after goes.number goes.others seats IsIdle u (Ok v) of on line (λ w e. idle-left before after goes.halts of.why.3 holds why)
    went (Err cause) on line goes why of =
        Leaves-on i starts workers before after goes.number goes.others seats IsIdle u (Err cause) of on line (λ w e. cc)

-- ---- the first worker takes over what the next one did

module _ (reply : List Point → Call → Reply) (i : Instance) (starts : List Point) (started workers : ℕ) (before new other after : Hands)
    (fresh : IsNewWorker new) (seen : new.view ≡ new_view workers) (unhalted : IsUnhalted new) (joins : JoinsHands before other after) where
  -- by how many cut explorations there are then
  one_more : (test : Work → Bool) (first : Work) (others : List Work) (w : Work) → how_many test (first ∷ (others ++ w ∷ [])) ≡ how_many test (first ∷ others) + one_if (test w)
  one_more test first others w = total-one_more (λ (v : Work). one_if (test v)) (first ∷ others) w

  joined :
      {spent full : Bool} {P Q : Work → List Work → Type 0} (end : Result (Unit {0}) Cause) → GoesOn reply started (causes_of end) new other
      → ExploresOn i spent full new other → OfTeam i starts workers P before
      → ((first : Work) (others : List Work) → P first others → missing starts first.run ≡ [])
      → ((first : Work) (others : List Work) (w : Work) → w.spent ≡ spent → w.full ≡ full → P first others → Q first (others ++ w ∷ []))
      → OfTeam i starts (workers + 1) Q after
  joined {spent = spent} {full = full} end goes on of all_started then_is =
      let w = grown no_work on in
      let done = HasDone-grown i spent full new other on no_work (HasDone-none i new fresh) refl refl in
      let number = goes.number ∙ ap (λ (v : View). v.number) seen in
      let alone = goes.others ∙ ap (λ (v : View). v.others) seen in
      let none = ap length (all_started of.first of.others of.why) in
      let all = of.all in
      let long = length-append of.others (w ∷ []) in
      record {
        first = of.first;
        others = of.others ++ w ∷ [];
        team = team_joins i starts of.first of.others w before other after of.team done refl (λ missed. absurd (omega arith)) (omega (arith, number, all)) alone joins;
        all = omega arith;
        why = then_is of.first of.others w refl refl of.why;
      }

  pub Leaves-joined :
      (left end : Result (Unit {0}) Cause) → Departs reply i started end new other → Leaves IsUnhalted i starts workers left before
      → Leaves IsUnhalted i starts (workers + 1) (graver left end) after
  Leaves-joined left end departs leaves = by_cause left end departs leaves
    where
      none_kept : (u : Unit {0}) → GoesOn reply started (causes_of {A = Unit {0}} (Ok u)) new other → IsUnhalted before → IsUnhalted after
      none_kept u goes here =
          ap (λ (t : Tally). t.halts) joins.tallies
          ∙ ap₂ (λ (xs ys : List Cause). xs ++ ys) here (goes.halts ∙ (append-nil new.tally.halts ∙ unhalted))

      more : (test : Work → Bool) (first : Work) (others : List Work) (w : Work) (b : Bool) → test w ≡ b
          → how_many test (first ∷ (others ++ w ∷ [])) ≡ how_many test (first ∷ others) + one_if b
      more test first others w b is = one_more test first others w ∙ ap (λ (c : Bool). how_many test (first ∷ others) + one_if c) is

      by_cause :
          (left end : Result (Unit {0}) Cause) → Departs reply i started end new other → Leaves IsUnhalted i starts workers left before
          → Leaves IsUnhalted i starts (workers + 1) (graver left end) after
      by_cause (Ok u) (Ok v) departs of =
          joined (Ok v) departs.goes_on departs.explores of (λ first others why. why.0)
          (λ first others w spent full why.
          (why.0, more (λ w. w.full) first others w false full ∙ omega (arith, why.1), more (λ w. w.spent) first others w false spent ∙ omega (arith, why.2), none_kept v departs.goes_on why.3))
      by_cause (Ok u) (Err Spent) departs of =
          joined (Err Spent) departs.goes_on departs.explores of (λ first others why. why.0)
          (λ first others w spent full why.
          (why.0, more (λ w. w.full) first others w false full ∙ omega (arith, why.1), omega (arith, more (λ w. w.spent) first others w true spent)))
      by_cause (Ok u) (Err Full) departs of =
          joined (Err Full) departs.goes_on departs.explores of (λ first others why. why.0)
          (λ first others w spent full why. (why.0, omega (arith, more (λ w. w.full) first others w true full)))
      by_cause (Ok u) (Err Memory) departs of = tt
      by_cause (Err Spent) (Ok v) departs of =
          joined (Ok v) departs.goes_on departs.explores of (λ first others why. why.0)
          (λ first others w spent full why.
          (why.0, more (λ w. w.full) first others w false full ∙ omega (arith, why.1), omega (arith, why.2, more (λ w. w.spent) first others w false spent)))
      by_cause (Err Spent) (Err Spent) departs of =
          joined (Err Spent) departs.goes_on departs.explores of (λ first others why. why.0)
          (λ first others w spent full why.
          (why.0, more (λ w. w.full) first others w false full ∙ omega (arith, why.1), omega (arith, why.2, more (λ w. w.spent) first others w true spent)))
      by_cause (Err Spent) (Err Full) departs of =
          joined (Err Full) departs.goes_on departs.explores of (λ first others why. why.0)
          (λ first others w spent full why. (why.0, omega (arith, more (λ w. w.full) first others w true full)))
      by_cause (Err Spent) (Err Memory) departs of = tt
      by_cause (Err Full) (Ok v) departs of =
          joined (Ok v) departs.goes_on departs.explores of (λ first others why. why.0)
          (λ first others w spent full why. (why.0, omega (arith, why.1, more (λ w. w.full) first others w false full)))
      by_cause (Err Full) (Err Spent) departs of =
          joined (Err Spent) departs.goes_on departs.explores of (λ first others why. why.0)
          (λ first others w spent full why. (why.0, omega (arith, why.1, more (λ w. w.full) first others w false full)))
      by_cause (Err Full) (Err Full) departs of =
          joined (Err Full) departs.goes_on departs.explores of (λ first others why. why.0)
          (λ first others w spent full why. (why.0, omega (arith, why.1, more (λ w. w.full) first others w true full)))
      by_cause (Err Full) (Err Memory) departs of = tt
      by_cause (Err Memory) end departs of = tt

  -- a joined worker that may go on has drawn in vain nowhere
  pub fresh-joined :
      (left end : Result (Unit {0}) Cause) → Departs reply i started end new other → OnOk left (before.tally.draws ≡ before.tally.goes)
      → OnOk (graver left end) (after.tally.draws ≡ after.tally.goes)
  fresh-joined (Ok u) (Ok v) departs here =
      let did = departs.explores.did in
      let draws = ap (λ (t : Tally). t.draws) joins.tallies in
      let goes = ap (λ (t : Tally). t.goes) joins.tallies in
      let none = fresh.draws in
      let neither = fresh.goes in
      omega (arith, did.draws_are, did.goes_are)
  fresh-joined (Ok u) (Err cause) departs here = tt
  fresh-joined (Err Memory) end departs here = tt
  fresh-joined (Err Full) (Ok v) departs here = tt
  fresh-joined (Err Full) (Err Spent) departs here = tt
  fresh-joined (Err Full) (Err Full) departs here = tt
  fresh-joined (Err Full) (Err Memory) departs here = tt
  fresh-joined (Err Spent) (Ok v) departs here = tt
  fresh-joined (Err Spent) (Err cause) departs here = tt
