-- How the explorations of the sequential run go on from a history, task by task.
use Rattle.std.proofs.Common.{◌≡◌, ℕ, zero, suc, ◌+◌, ◌-◌, ◌<◌, ◌≤◌, Bool, true, false, List, [], ◌∷◌, ◌++◌, length, take, drop, map, Option, Some, None, slice_get, refl, ap, sym, ◌∙◌, take-append-drop, arith, length-append, eq-eqb}
use Rattle.std.specs.Bool.{⊤}
use Rattle.std.proofs.lemmas.Bool.{cond-true}
use Rattle.std.proofs.lemmas.Option.{slice_get_past}
use Rattle.std.proofs.lemmas.List.{length-take, take_all}
use Rattle.pls_archive.specs.declared.point.Point.{Point}
use Rattle.pls_archive.specs.declared.call.Call.{Call}
use Rattle.pls_archive.specs.declared.call.Call.TheVariants.{Update, Member}
use Rattle.pls_archive.specs.declared.call.Reply.{Reply}
use Rattle.pls_archive.specs.declared.call.Entry.{Entry}
use Rattle.pls_archive.specs.History.{submissions, next_entry, submitting, ContinuesLegally}
use Rattle.pls_archive.specs.Explorations.{Task, Exploration, IsExploration, tasks, entries_of, evaluated_in, is_skipped, due, is_whole}
use Rattle.pls_archive.specs.Sequential.{for_task, after_whole, exploration_of, explorations_from, explorations_left}
use Rattle.pls_archive.proofs.Histories.{submissions-append}
use Rattle.pls_archive.proofs.SequentialCalls.{calls-calling, submissions-submitting, ContinuesLegally-calling, tasks-append, length-tasks}

for_task-none : (next : Option Task) (f : Task → List Exploration) → next ≡ None → for_task next f ≡ []
for_task-none None f e = refl
for_task-none (Some t) f e = cc

for_task-some : (next : Option Task) (f : Task → List Exploration) (t : Task) → next ≡ Some t → for_task next f ≡ f t
for_task-some next f t e = ap (λ (o : Option Task). for_task o f) e

for_task-same : (next : Option Task) (f g : Task → List Exploration) → ((t : Task) → f t ≡ g t) → for_task next f ≡ for_task next g
for_task-same None f g same = refl
for_task-same (Some t) f g same = same t

after_whole-same : (whole : Bool) (f g : ⊤ → List Exploration) → f tt ≡ g tt → after_whole whole f ≡ after_whole whole g
after_whole-same true f g same = same
after_whole-same false f g same = refl

after_whole-true : (whole : Bool) (f : ⊤ → List Exploration) → whole ≡ true → after_whole whole f ≡ f tt
after_whole-true whole f e = ap (λ (b : Bool). after_whole b f) e

after_whole-false : (whole : Bool) (f : ⊤ → List Exploration) → whole ≡ false → after_whole whole f ≡ []
after_whole-false whole f e = ap (λ (b : Bool). after_whole b f) e

module _ (reply : List Point → Call → Reply) (neighbours : Point → List Point) where
  -- ---- one exploration

  -- the points that are due in the exploration of a task after a history
  abbrev pub points_due : List Entry → Task → List Point
  points_due history t =
      due neighbours t (next_entry reply 0 history (Member t.point.value))

  pub submissions-exploration_of :
      (history : List Entry) (moves : ℕ) (t : Task)
      → submissions (exploration_of reply neighbours history moves t).updates ≡ take moves (points_due history t)
  submissions-exploration_of history moves t =
      submissions-submitting reply 0 (take moves (points_due history t)) (history ++ next_entry reply 0 history (Member t.point.value) ∷ [])

  -- so many neighbours are evaluated
  pub evaluated_in-exploration_of :
      (history : List Entry) (moves : ℕ) (t : Task)
      → evaluated_in (exploration_of reply neighbours history moves t) ≡ length (take moves (points_due history t))
  evaluated_in-exploration_of history moves t = ap length (submissions-exploration_of history moves t)

  -- at most the moves
  pub evaluated_in-within :
      (history : List Entry) (moves : ℕ) (t : Task) → evaluated_in (exploration_of reply neighbours history moves t) ≤ moves
  evaluated_in-within history moves t =
      let all = evaluated_in-exploration_of history moves t in
      let least = length-take moves (points_due history t) in omega arith

  -- with moves for all that is due it is whole
  pub is_whole-enough :
      (history : List Entry) (moves : ℕ) (t : Task) → length (points_due history t) ≤ moves
      → is_whole neighbours (exploration_of reply neighbours history moves t) ≡ true
  is_whole-enough history moves t enough =
      let all = evaluated_in-exploration_of history moves t in
      let least = length-take moves (points_due history t) in
      eq-eqb (evaluated_in (exploration_of reply neighbours history moves t)) (length (points_due history t)) (omega arith)

  -- nothing is due in one that is skipped
  pub points_due-skipped :
      (history : List Entry) (moves : ℕ) (t : Task) → is_skipped (exploration_of reply neighbours history moves t) ≡ true
      → points_due history t ≡ []
  points_due-skipped history moves t skipped = cond-true _ [] (neighbours t.point) skipped

  pub IsExploration-exploration_of :
      (history : List Entry) (moves : ℕ) (t : Task) → IsExploration neighbours (exploration_of reply neighbours history moves t)
  IsExploration-exploration_of history moves t =
      let submitted = submissions-exploration_of history moves t in
      let points = points_due history t in
      let asked = next_entry reply 0 history (Member t.point.value) in
      record {
        asks = refl;
        updates = calls-calling reply 0 (map Update (take moves points)) (history ++ asked ∷ []) ∙ ap (map Update) (sym submitted);
        submits = (drop moves points, ap (λ (ps : List Point). ps ++ drop moves points) submitted ∙ take-append-drop moves points);
      }

  -- its entries go on legally from the history
  pub ContinuesLegally-exploration_of :
      (history : List Entry) (moves : ℕ) (t : Task)
      → ContinuesLegally reply history (entries_of (exploration_of reply neighbours history moves t))
  ContinuesLegally-exploration_of history moves t = (
    refl,
    ContinuesLegally-calling reply 0 (map Update (take moves (points_due history t)))
        (history ++ next_entry reply 0 history (Member t.point.value) ∷ []),
  )

  -- it adds as many submissions as it spends moves
  pub length-explored :
      (history : List Entry) (moves : ℕ) (t : Task)
      → length (submissions (history ++ entries_of (exploration_of reply neighbours history moves t)))
      ≡ length (submissions history) + evaluated_in (exploration_of reply neighbours history moves t)
  length-explored history moves t =
      let x = exploration_of reply neighbours history moves t in
      ap length (submissions-append history (entries_of x)) ∙ length-append (submissions history) (submissions x.updates)

  -- and at most as many tasks
  pub length-tasks_explored :
      (history : List Entry) (moves : ℕ) (t : Task)
      → length (tasks (history ++ entries_of (exploration_of reply neighbours history moves t)))
      ≤ length (tasks history) + evaluated_in (exploration_of reply neighbours history moves t)
  length-tasks_explored history moves t =
      let x = exploration_of reply neighbours history moves t in
      let parts = ap length (tasks-append history (entries_of x)) ∙ length-append (tasks history) (tasks (entries_of x)) in
      let few = length-tasks (entries_of x) in omega arith

  -- ---- with some fuel: no task is left, one whose exploration is whole, or one whose exploration is cut
  pub from-none :
      (fuel : ℕ) (history : List Entry) (moves k : ℕ) → slice_get (tasks history) k ≡ None
      → explorations_from reply neighbours fuel history moves k ≡ []
  from-none zero history moves k none = refl
  from-none (suc fuel) history moves k none = for_task-none (slice_get (tasks history) k) _ none

  pub from-some :
      (fuel : ℕ) (history : List Entry) (moves k : ℕ) (t : Task) → slice_get (tasks history) k ≡ Some t
      → explorations_from reply neighbours (suc fuel) history moves k
      ≡ exploration_of reply neighbours history moves t
      ∷ after_whole (is_whole neighbours (exploration_of reply neighbours history moves t)) (λ _.
      explorations_from reply neighbours fuel (history ++ entries_of (exploration_of reply neighbours history moves t))
      (moves - evaluated_in (exploration_of reply neighbours history moves t)) (suc k))
  from-some fuel history moves k t at = for_task-some (slice_get (tasks history) k) _ t at

  -- more fuel changes nothing where no more tasks can come than it allows
  pub from-fuel :
      (fuel total more : ℕ) (history : List Entry) (moves k : ℕ)
      → total ≡ fuel + more → length (tasks history) + moves < k + fuel
      → explorations_from reply neighbours total history moves k ≡ explorations_from reply neighbours fuel history moves k
  from-fuel zero total more history moves k e few =
      from-none total history moves k (slice_get_past (tasks history) k (omega arith))
  from-fuel (suc fuel) zero more history moves k e few = absurd (omega arith)
  from-fuel (suc fuel) (suc total) more history moves k e few =
      for_task-same (slice_get (tasks history) k) _ _
      (λ t.
      let x = exploration_of reply neighbours history moves t in
      let grown = length-tasks_explored history moves t in
      let within = evaluated_in-within history moves t in
      ap (λ (xs : List Exploration). x ∷ xs)
      (after_whole-same (is_whole neighbours x) _ _
      (from-fuel fuel total more (history ++ entries_of x) (moves - evaluated_in x) (suc k) (omega arith) (omega arith))))

  -- ---- with fuel enough

  pub left-none : (history : List Entry) (moves k : ℕ) → slice_get (tasks history) k ≡ None → explorations_left reply neighbours history moves k ≡ []
  left-none history moves k none = from-none (length (submissions history) + moves + 1) history moves k none

  pub left-some :
      (history : List Entry) (moves k : ℕ) (t : Task) → slice_get (tasks history) k ≡ Some t
      → explorations_left reply neighbours history moves k
      ≡ exploration_of reply neighbours history moves t
      ∷ after_whole (is_whole neighbours (exploration_of reply neighbours history moves t)) (λ _.
      explorations_left reply neighbours (history ++ entries_of (exploration_of reply neighbours history moves t))
      (moves - evaluated_in (exploration_of reply neighbours history moves t)) (suc k))
  left-some history moves k t at =
      let x = exploration_of reply neighbours history moves t in
      let spent = length-explored history moves t in
      let within = evaluated_in-within history moves t in
      let work = length (submissions history) + moves in
      let few = length-tasks (history ++ entries_of x) in
      let same : work + 1 ≡ suc work = omega arith in
      let fuel : work ≡ length (submissions (history ++ entries_of x)) + (moves - evaluated_in x) = omega arith in
      ap (λ (n : ℕ). explorations_from reply neighbours n history moves k) same
      ∙ (from-some work history moves k t at
      ∙ ap (λ (xs : List Exploration). x ∷ xs)
      (after_whole-same (is_whole neighbours x) _ _
      (sym (from-fuel work (length (submissions (history ++ entries_of x)) + (moves - evaluated_in x) + 1) 1
      (history ++ entries_of x) (moves - evaluated_in x) (suc k) (omega arith) (omega arith)))))

  pub left-whole :
      (history : List Entry) (moves k : ℕ) (t : Task) → slice_get (tasks history) k ≡ Some t
      → is_whole neighbours (exploration_of reply neighbours history moves t) ≡ true
      → explorations_left reply neighbours history moves k
      ≡ exploration_of reply neighbours history moves t
      ∷ explorations_left reply neighbours (history ++ entries_of (exploration_of reply neighbours history moves t))
      (moves - evaluated_in (exploration_of reply neighbours history moves t)) (suc k)
  left-whole history moves k t at whole =
      left-some history moves k t at
      ∙ ap (λ (xs : List Exploration). exploration_of reply neighbours history moves t ∷ xs)
      (after_whole-true (is_whole neighbours (exploration_of reply neighbours history moves t)) _ whole)

  pub left-cut :
      (history : List Entry) (moves k : ℕ) (t : Task) → slice_get (tasks history) k ≡ Some t
      → is_whole neighbours (exploration_of reply neighbours history moves t) ≡ false
      → explorations_left reply neighbours history moves k ≡ exploration_of reply neighbours history moves t ∷ []
  left-cut history moves k t at cut =
      left-some history moves k t at
      ∙ ap (λ (xs : List Exploration). exploration_of reply neighbours history moves t ∷ xs)
      (after_whole-false (is_whole neighbours (exploration_of reply neighbours history moves t)) _ cut)

  -- one that is skipped has the question alone, and spends no move
  pub exploration_of-skipped :
      (history : List Entry) (moves : ℕ) (t : Task) → is_skipped (exploration_of reply neighbours history moves t) ≡ true
      → exploration_of reply neighbours history moves t
      ≡ record { task = t; asked = next_entry reply 0 history (Member t.point.value); updates = [] }
  exploration_of-skipped history moves t skipped =
      let asked = next_entry reply 0 history (Member t.point.value) in
      let none : take moves (points_due history t) ≡ [] = ap (take moves) (points_due-skipped history moves t skipped) ∙ take_all moves [] (omega arith) in
      exploration_with t asked (λ (ps : List Point). submitting reply 0 (history ++ asked ∷ []) ps) none
    where
      exploration_with :
          (task : Task) (asked : Entry) (f : List Point → List Entry) {ps qs : List Point} → ps ≡ qs
          → ◌≡◌ {A = Exploration} (record { task = task; asked = asked; updates = f ps }) (record { task = task; asked = asked; updates = f qs })
      exploration_with task asked f e = ap (λ points. record { task = task; asked = asked; updates = f points }) e
