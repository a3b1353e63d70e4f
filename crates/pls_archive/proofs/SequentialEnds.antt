-- Explorations in order are of the first tasks of a run; and how the sequential run ends.
use Rattle.std.proofs.Common.{◌≡◌, ◌⊎◌, ℕ, zero, suc, ◌+◌, ◌-◌, ◌<◌, ◌≤◌, min, true, false, not, List, [], ◌∷◌, ◌++◌, length, map, Some, None, slice_get, ap, sym, ◌∙◌, append_assoc, arith, length-append, inl, inr}
use Rattle.std.specs.List.{flat_map}
use Rattle.std.proofs.lemmas.Bool.{eqb-false, cases_lt}
use Rattle.std.proofs.lemmas.Option.{none-some, same_Some, slice_get_within}
use Rattle.std.proofs.lemmas.List.{append-nil, length-take}
use Rattle.pls_archive.specs.declared.point.Point.{Point}
use Rattle.pls_archive.specs.declared.call.Call.{Call}
use Rattle.pls_archive.specs.declared.call.Reply.{Reply}
use Rattle.pls_archive.specs.declared.call.Entry.{Entry}
use Rattle.pls_archive.specs.Lists.{Every, total, how_many, one_if}
use Rattle.pls_archive.specs.Explorations.{Task, Exploration, tasks, entries_of, evaluated_in, is_whole, is_cut}
use Rattle.pls_archive.specs.Sequential.{InOrder, exploration_of, explorations_from}
use Rattle.pls_archive.proofs.SequentialCalls.{tasks-append}
use Rattle.pls_archive.proofs.SequentialSteps.{points_due, evaluated_in-exploration_of, evaluated_in-within, length-tasks_explored}
use Rattle.pls_archive.proofs.SequentialRuns.{from-by_cases}

-- the element after those that were done
next_waiting :
    {A : Type 0} (done waiting : List A) (x : A) → slice_get (done ++ waiting) (length done) ≡ Some x
    → (rest : List A) × (waiting ≡ x ∷ rest)
next_waiting [] [] x at = absurd (none-some x at)
next_waiting [] (y ∷ rest) x at = (rest, ap (λ z. z ∷ rest) (same_Some y x at))
next_waiting (y ∷ done) waiting x at = next_waiting done waiting x at

past_from_none : {A : Type 0} (xs : List A) (k : ℕ) → slice_get xs k ≡ None → length xs ≤ k
past_from_none [] k none = omega arith
past_from_none (x ∷ xs) zero none = cc
past_from_none (x ∷ xs) (suc k) none = let rest = past_from_none xs k none in omega arith

-- explorations in order are of the tasks that come first, after those that were done
pub tasks-in_order :
    (xs : List Exploration) (history : List Entry) (done waiting : List Task) (k : ℕ)
    → tasks history ≡ done ++ waiting → length done ≡ k → InOrder history k xs
    → (left : List Task) × (tasks (history ++ flat_map entries_of xs) ≡ done ++ (map (λ x. x.task) xs ++ left))
tasks-in_order [] history done waiting k e len order = (waiting, ap tasks (append-nil history) ∙ e)
tasks-in_order (x ∷ xs) history done waiting k e len order =
    let moved : slice_get (done ++ waiting) (length done) ≡ Some x.task =
    ap (slice_get (done ++ waiting)) len ∙ (ap (λ (ts : List Task). slice_get ts k) (sym e) ∙ order.0) in
    let next = next_waiting done waiting x.task moved in
    let grown = tasks (entries_of x) in
    let more : tasks (history ++ entries_of x) ≡ (done ++ x.task ∷ []) ++ (next.0 ++ grown) =
    tasks-append history (entries_of x)
    ∙ (ap (λ (ts : List Task). ts ++ grown) (e ∙ ap (λ (ts : List Task). done ++ ts) next.1)
    ∙ (append_assoc done (x.task ∷ next.0) grown ∙ sym (append_assoc done (x.task ∷ []) (next.0 ++ grown)))) in
    let count : length (done ++ x.task ∷ []) ≡ suc k = length-append done (x.task ∷ []) ∙ omega arith in
    let rest = tasks-in_order xs (history ++ entries_of x) (done ++ x.task ∷ []) (next.0 ++ grown) (suc k) more count order.1 in (
      rest.0,
      ap tasks (sym (append_assoc history (entries_of x) (flat_map entries_of xs)))
          ∙ (rest.1 ∙ append_assoc done (x.task ∷ []) (map (λ (y : Exploration). y.task) xs ++ rest.0)),
    )

module _ (reply : List Point → Call → Reply) (neighbours : Point → List Point) where
  -- all tasks were explored, and every exploration was whole; or all moves were spent, and an exploration was cut
  abbrev pub HaveEnded : List Entry → ℕ → ℕ → List Exploration → Type 0
  HaveEnded history moves k xs =
      (Every (λ x. is_whole neighbours x ≡ true) xs × (k + length xs ≡ length (tasks (history ++ flat_map entries_of xs))))
      ⊎ ((total evaluated_in xs ≡ moves) × (0 < how_many (is_cut neighbours) xs))

  ended-cut :
      (history : List Entry) (moves k : ℕ) (t : Task) → is_whole neighbours (exploration_of reply neighbours history moves t) ≡ false
      → HaveEnded history moves k (exploration_of reply neighbours history moves t ∷ [])
  ended-cut history moves k t cut =
      let x = exploration_of reply neighbours history moves t in
      let all = evaluated_in-exploration_of reply neighbours history moves t in
      let least = length-take moves (points_due reply neighbours history t) in
      let apart = eqb-false (evaluated_in x) (length (points_due reply neighbours history t)) cut in
      let one : one_if (is_cut neighbours x) ≡ one_if true = ap (λ b. one_if (not b)) cut in
      inr (spent (evaluated_in x) (length (points_due reply neighbours history t)) apart (omega arith), omega arith)
    where
      spent : (n least : ℕ) → (n ≡ least → ⊥) → n ≡ min moves least → n + 0 ≡ moves
      spent n least apart e =
          elim (cases_lt least moves) [
            | inl less ↦ absurd (apart (omega arith))
            | inr more ↦ omega arith
          ]

  ended-whole :
      (history : List Entry) (moves k : ℕ) (x : Exploration) (xs : List Exploration)
      → is_whole neighbours x ≡ true → evaluated_in x ≤ moves → HaveEnded (history ++ entries_of x) (moves - evaluated_in x) (suc k) xs
      → HaveEnded history moves k (x ∷ xs)
  ended-whole history moves k x xs whole within (inl closed) =
      let same = ap (λ (es : List Entry). length (tasks es)) (append_assoc history (entries_of x) (flat_map entries_of xs)) in
      let count = closed.1 in
      inl ((whole, closed.0), omega arith)
  ended-whole history moves k x xs whole within (inr stopped) =
      let spent = stopped.0 in
      let some_cut = stopped.1 in
      inr (omega arith, omega arith)

  pub from-HaveEnded :
      (fuel : ℕ) (history : List Entry) (moves k : ℕ) → k ≤ length (tasks history) → length (tasks history) + moves < k + fuel
      → HaveEnded history moves k (explorations_from reply neighbours fuel history moves k)
  from-HaveEnded zero history moves k low few = absurd (omega arith)
  from-HaveEnded (suc fuel) history moves k low few =
      from-by_cases reply neighbours (HaveEnded history moves k) fuel history moves k
      (λ none.
      let past = past_from_none (tasks history) k none in
      let same = ap (λ (es : List Entry). length (tasks es)) (append-nil history) in
      inl (tt, omega arith))
      (λ t at cut. ended-cut history moves k t cut)
      (λ t at whole.
      let x = exploration_of reply neighbours history moves t in
      let within = evaluated_in-within reply neighbours history moves t in
      let grown = length-tasks_explored reply neighbours history moves t in
      let inside = slice_get_within (tasks history) k t at in
      let parts = ap length (tasks-append history (entries_of x)) ∙ length-append (tasks history) (tasks (entries_of x)) in
      ended-whole history moves k x _ whole within
      (from-HaveEnded fuel (history ++ entries_of x) (moves - evaluated_in x) (suc k) (omega arith) (omega arith)))
