-- What the first worker stands for once it has submitted the starts.
use Rattle.std.proofs.Common.{◌≡◌, ◌≢◌, ◌↔◌, ◌⊎◌, inl, inr, ℕ, zero, suc, ◌<◌, ◌≤◌, ◌==◌, true, false, List, [], ◌++◌, length, map, take, Result, Ok, Err, OnOk, IfErr, refl, ap, sym, subst, ◌∙◌, arith}
use Rattle.std.proofs.lemmas.Bool.{eqb-false, false≢true}
use Rattle.std.proofs.lemmas.List.{length-map, length-drop, length-take}
use Rattle.pls_archive.specs.declared.point.Point.{Point}
use Rattle.pls_archive.specs.declared.call.Call.{Call}
use Rattle.pls_archive.specs.declared.call.Call.TheVariants.{Update}
use Rattle.pls_archive.specs.declared.call.Reply.{Reply}
use Rattle.pls_archive.specs.declared.call.Entry.{Entry}
use Rattle.pls_archive.specs.SearchRun.{SubmitsFirst, missing}
use Rattle.pls_archive.specs.Explorations.{CallerRun, tasks}
use Rattle.pls_archive.specs.View.{View, new_view, IsConsistent}
use Rattle.pls_pool.specs.declared.cause.Cause.{Cause}
use Rattle.pls_pool.specs.declared.cause.Cause.TheVariants.{Spent, Full, Memory}
use Rattle.pls_problem.specs.declared.instance.Instance.{Instance}
use Rattle.pls_search.specs.declared.task.Task.{Task as Waiting}
use Rattle.pls_search.specs.Workers.{task_of, Hands, Work, LinesUp, StaysInLine, GoesOn, IsNewWorker, StandsFor, work_of}
use Rattle.pls_search.specs.Steps.{UnlessMemory}
use Rattle.pls_search.proofs.Beginning.{SubmitsStarts}
use Rattle.pls_search.specs.Leaving.{OfTeam, Lacks, IsUnhalted, AreReady}
use Rattle.pls_search.proofs.TeamJoins.{HasDone-stands, none_missing, team_begins}

-- a pass that has made no call
pub new_view-consistent : (reply : List Point → Call → Reply) (started number : ℕ) → IsConsistent reply started (new_view number)
new_view-consistent reply started number = record {
  observed = record { legal = tt; accepted = tt; begun = tt };
  lists = (record { named = tt; told = refl; known = tt; judged = tt; rising = tt }, tt);
}

-- fewer starts were submitted than there are
submitted-few : (starts : List Point) (es : List Entry) → SubmitsFirst starts es → length es ≤ length starts
submitted-few starts es first =
    let calls = sym (length-map es (λ (e : Entry). e.call)) ∙ (ap length first ∙ (length-map (take (length es) starts) Update ∙ length-take (length es) starts)) in
    omega (arith, calls)

positive : (n : ℕ) → (n ≡ 0 → ⊥) → 0 < n
positive zero other = absurd (other refl)
positive (suc n) other = omega arith

some_missing : (starts : List Point) (r : CallerRun) → SubmitsFirst starts r.starts → (length r.starts == length starts) ≡ false → 0 < length (missing starts r)
some_missing starts r first fewer =
    let few = submitted-few starts r.starts first in
    let long = length-drop (length r.starts) starts in
    positive (length (missing starts r)) (λ none. eqb-false (length r.starts) (length starts) fewer (omega (arith, none, few, long)))

abbrev failed : Cause → Result (Unit {0}) Cause
failed cause = Err cause

abbrev fine : Unit {0} → Result (Unit {0}) Cause
fine u = Ok u

not_full : (u : Unit {0}) → (fine u) ≡ Err Full → ⊥
not_full u e = cc

not_memory : (u : Unit {0}) → (fine u) ≡ Err Memory → ⊥
not_memory u e = cc

full_not_memory : failed Full ≡ Err Memory → ⊥
full_not_memory e = cc

-- a claim about how something ended, by what it ended with
pub on_ok : {X : Type 0} (end : Result (Unit {0}) Cause) → ((u : Unit {0}) → end ≡ Ok u → X) → OnOk end X
on_ok (Ok u) claim = claim u refl
on_ok (Err cause) claim = tt

pub on_err : {P : Cause → Type 0} (end : Result (Unit {0}) Cause) → ((cause : Cause) → end ≡ Err cause → P cause) → IfErr end P
on_err (Ok u) claim = tt
on_err (Err cause) claim = claim cause refl

pub unfull-begun : {A B : Type 0} (u : Unit {0}) (end : Result (Unit {0}) Cause) → end ≡ Ok u → A ↔ (B ⊎ (end ≡ Err Full)) → (B → ⊥) → A → ⊥
unfull-begun {B = B} u end is full none a = by_case (full.0 a)
  where
    by_case : B ⊎ (end ≡ Err Full) → ⊥
    by_case (inl b) = none b
    by_case (inr e) = not_full u (sym is ∙ e)

-- what was cut while the starts were submitted was cut since the archive had no room for one
module _ (i : Instance) (starts : List Point) (before after : Hands) (end : Result (Unit {0}) Cause) where
  pub is_full : (cause : Cause) → end ≡ Err cause → UnlessMemory end (SubmitsStarts i starts before after) → cause ≢ Memory → end ≡ Err Full
  is_full cause is submits other = is ∙ by_cause cause (subst (λ e. UnlessMemory e (SubmitsStarts i starts before after)) is submits) other
    where
      by_cause : (cause : Cause) → UnlessMemory (failed cause) (SubmitsStarts i starts before after) → cause ≢ Memory → failed cause ≡ Err Full
      by_cause Spent submits other = absurd (false≢true (sym submits.unspent))
      by_cause Full submits other = refl
      by_cause Memory submits other = absurd (other refl)

module _ (reply : List Point → Call → Reply) (i : Instance) (starts : List Point) (started : ℕ) (before after : Hands) (new : IsNewWorker before)
    (seen : before.view ≡ new_view 0) where
  -- the tasks that its starts made wait in order
  lined_up : before.account.waiting ≡ [] → StaysInLine before after → LinesUp [] after
  lined_up empty stays = stays [] (ap tasks new.own ∙ ap (λ (ts : List Waiting). map task_of ts) (sym empty))

  -- the worker alone is a team
  team_of_one :
      {P : Work → List Work → Type 0} (r : CallerRun) → SubmitsFirst starts r.starts → r.explorations ≡ [] → StandsFor i false false after r → (causes : List Cause)
      → GoesOn reply started causes before after → P (work_of r false false after) []
      → (after.tally.seats ≡ 1 → LinesUp [] after) → OfTeam i starts 1 P after
  team_of_one r first none stands causes goes why line =
      let w = work_of r false false after in
      record {
        first = w;
        others = [];
        team =
            team_begins i starts w after (HasDone-stands i false false after r stands) first none
            (goes.number ∙ ap (λ (v : View). v.number) seen) (goes.others ∙ ap (λ (v : View). v.others) seen) line;
        all = refl;
        why = why;
      }

  -- all starts were submitted
  pub ready : (u : Unit {0}) (end : Result (Unit {0}) Cause) → end ≡ Ok u → UnlessMemory end (SubmitsStarts i starts before after)
      → GoesOn reply started [] before after → IsUnhalted before → before.account.waiting ≡ []
      → (end ≢ Err Memory → after.tally.seats ≡ 1 → StaysInLine before after) → AreReady i starts 1 after
  ready u end is submits goes unhalted empty stays =
      let submitted : SubmitsStarts i starts before after false false = subst (λ e. UnlessMemory e (SubmitsStarts i starts before after)) is submits in
      let (r, first, none, all, stands) = submitted.begins new in
      team_of_one r first none stands [] goes
      (none_missing starts r all, refl, refl, goes.halts ∙ ap (λ (causes : List Cause). causes ++ []) unhalted)
      (λ one. lined_up empty (stays (λ e. not_memory u (sym is ∙ e)) one))

  -- no draw was made, and no want of room was shown
  pub fresh-begun : (u : Unit {0}) (end : Result (Unit {0}) Cause) → end ≡ Ok u → UnlessMemory end (SubmitsStarts i starts before after) → after.tally.draws ≡ after.tally.goes
  fresh-begun u end is submits =
      let submitted : SubmitsStarts i starts before after false false = subst (λ e. UnlessMemory e (SubmitsStarts i starts before after)) is submits in
      let (r, first, none, all, stands) = submitted.begins new in
      omega (arith, stands.work.drawn)

  -- the archive had no room for one
  module _ (end : Result (Unit {0}) Cause) where
    pub lacking : (causes : List Cause) → end ≡ Err Full → UnlessMemory end (SubmitsStarts i starts before after) → GoesOn reply started causes before after
        → before.account.waiting ≡ [] → (end ≢ Err Memory → after.tally.seats ≡ 1 → StaysInLine before after)
        → OfTeam i starts 1 (Lacks starts) after
    lacking causes is submits goes empty stays =
        let submitted : SubmitsStarts i starts before after false true = subst (λ e. UnlessMemory e (SubmitsStarts i starts before after)) is submits in
        let (r, first, none, fewer, stands) = submitted.begins new in
        team_of_one r first none stands causes goes (some_missing starts r first fewer)
        (λ one. lined_up empty (stays (λ e. full_not_memory (sym is ∙ e)) one))
