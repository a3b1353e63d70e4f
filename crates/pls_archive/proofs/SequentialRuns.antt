-- What holds of the explorations of the sequential run: each is one, they are in order, and their entries go on legally.
use Rattle.std.proofs.Common.{◌≡◌, ℕ, zero, suc, ◌-◌, ◌≤◌, Bool, true, false, List, [], ◌∷◌, ◌++◌, map, take, Option, Some, None, slice_get, refl, sym, subst, arith}
use Rattle.std.specs.Bool.{⊤}
use Rattle.std.specs.List.{flat_map}
use Rattle.std.proofs.lemmas.List.{append-nil}
use Rattle.pls_archive.specs.declared.point.Point.{Point}
use Rattle.pls_archive.specs.declared.call.Call.{Call}
use Rattle.pls_archive.specs.declared.call.Call.TheVariants.{Update, Member}
use Rattle.pls_archive.specs.declared.call.Reply.{Reply}
use Rattle.pls_archive.specs.declared.call.Entry.{Entry}
use Rattle.pls_archive.specs.Lists.{Every, total}
use Rattle.pls_archive.specs.History.{next_entry, ContinuesLegally}
use Rattle.pls_archive.specs.Explorations.{Task, Exploration, IsExploration, OnlyLastIsCut, tasks, entries_of, evaluated_in, is_whole}
use Rattle.pls_archive.specs.Sequential.{InOrder, for_task, after_whole, exploration_of, explorations_from}
use Rattle.pls_archive.proofs.Every.{Every-append}
use Rattle.pls_archive.proofs.SequentialCalls.{named-calling, ContinuesLegally-append}
use Rattle.pls_archive.proofs.SequentialSteps.{points_due, evaluated_in-within, IsExploration-exploration_of, ContinuesLegally-exploration_of}

for_task-by_cases :
    (Q : List Exploration → Type 0) (next : Option Task) (f : Task → List Exploration)
    → (next ≡ None → Q []) → ((t : Task) → next ≡ Some t → Q (f t)) → Q (for_task next f)
for_task-by_cases Q None f none some_ = none refl
for_task-by_cases Q (Some t) f none some_ = some_ t refl

after_whole-by_cases :
    (Q : List Exploration → Type 0) (whole : Bool) (f : ⊤ → List Exploration)
    → (whole ≡ false → Q []) → (whole ≡ true → Q (f tt)) → Q (after_whole whole f)
after_whole-by_cases Q true f cut goes_on = goes_on refl
after_whole-by_cases Q false f cut goes_on = cut refl

module _ (reply : List Point → Call → Reply) (neighbours : Point → List Point) where
  -- no task is left, or the exploration of the next one is cut, or it is whole and the run goes on
  pub from-by_cases :
      (Q : List Exploration → Type 0) (fuel : ℕ) (history : List Entry) (moves k : ℕ)
      → (slice_get (tasks history) k ≡ None → Q [])
      → ((t : Task) → slice_get (tasks history) k ≡ Some t → is_whole neighbours (exploration_of reply neighbours history moves t) ≡ false
      → Q (exploration_of reply neighbours history moves t ∷ []))
      → ((t : Task) → slice_get (tasks history) k ≡ Some t → is_whole neighbours (exploration_of reply neighbours history moves t) ≡ true
      → Q (exploration_of reply neighbours history moves t
      ∷ explorations_from reply neighbours fuel (history ++ entries_of (exploration_of reply neighbours history moves t))
      (moves - evaluated_in (exploration_of reply neighbours history moves t)) (suc k)))
      → Q (explorations_from reply neighbours (suc fuel) history moves k)
  from-by_cases Q fuel history moves k none cut whole =
      for_task-by_cases Q (slice_get (tasks history) k) _ none
      (λ t at.
      after_whole-by_cases (λ xs. Q (exploration_of reply neighbours history moves t ∷ xs))
      (is_whole neighbours (exploration_of reply neighbours history moves t)) _ (cut t at) (whole t at))

  pub from-each :
      (fuel : ℕ) (history : List Entry) (moves k : ℕ) → Every (IsExploration neighbours) (explorations_from reply neighbours fuel history moves k)
  from-each zero history moves k = tt
  from-each (suc fuel) history moves k =
      from-by_cases (Every (IsExploration neighbours)) fuel history moves k (λ none. tt)
      (λ t at cut. (IsExploration-exploration_of reply neighbours history moves t, tt))
      (λ t at whole. (
        IsExploration-exploration_of reply neighbours history moves t,
        from-each fuel (history ++ entries_of (exploration_of reply neighbours history moves t))
            (moves - evaluated_in (exploration_of reply neighbours history moves t)) (suc k),
      ))

  pub from-cut :
      (fuel : ℕ) (history : List Entry) (moves k : ℕ) → OnlyLastIsCut neighbours (explorations_from reply neighbours fuel history moves k)
  from-cut zero history moves k = tt
  from-cut (suc fuel) history moves k =
      from-by_cases (OnlyLastIsCut neighbours) fuel history moves k (λ none. tt)
      (λ t at cut. ((λ more. absurd (omega arith)), tt))
      (λ t at whole. (
        (λ more. whole),
        from-cut fuel (history ++ entries_of (exploration_of reply neighbours history moves t))
            (moves - evaluated_in (exploration_of reply neighbours history moves t)) (suc k),
      ))

  pub from-InOrder :
      (fuel : ℕ) (history : List Entry) (moves k : ℕ) → InOrder history k (explorations_from reply neighbours fuel history moves k)
  from-InOrder zero history moves k = tt
  from-InOrder (suc fuel) history moves k =
      from-by_cases (InOrder history k) fuel history moves k (λ none. tt) (λ t at cut. (at, tt))
      (λ t at whole. (
        at,
        from-InOrder fuel (history ++ entries_of (exploration_of reply neighbours history moves t))
            (moves - evaluated_in (exploration_of reply neighbours history moves t)) (suc k),
      ))

  pub from-within :
      (fuel : ℕ) (history : List Entry) (moves k : ℕ) → total evaluated_in (explorations_from reply neighbours fuel history moves k) ≤ moves
  from-within zero history moves k = omega arith
  from-within (suc fuel) history moves k =
      from-by_cases (λ xs. total evaluated_in xs ≤ moves) fuel history moves k (λ none. omega arith)
      (λ t at cut. let first = evaluated_in-within reply neighbours history moves t in omega arith)
      (λ t at whole.
      let first = evaluated_in-within reply neighbours history moves t in
      let rest = from-within fuel (history ++ entries_of (exploration_of reply neighbours history moves t))
      (moves - evaluated_in (exploration_of reply neighbours history moves t)) (suc k) in omega arith)

  -- the entries of the explorations go on legally, and are the caller's
  pub from-legal :
      (fuel : ℕ) (history : List Entry) (moves k : ℕ)
      → ContinuesLegally reply history (flat_map entries_of (explorations_from reply neighbours fuel history moves k))
  from-legal zero history moves k = tt
  from-legal (suc fuel) history moves k =
      from-by_cases (λ xs. ContinuesLegally reply history (flat_map entries_of xs)) fuel history moves k (λ none. tt)
      (λ t at cut.
      subst (ContinuesLegally reply history) (sym (append-nil (entries_of (exploration_of reply neighbours history moves t))))
      (ContinuesLegally-exploration_of reply neighbours history moves t))
      (λ t at whole.
      ContinuesLegally-append reply history (entries_of (exploration_of reply neighbours history moves t)) _
      (ContinuesLegally-exploration_of reply neighbours history moves t)
      (from-legal fuel (history ++ entries_of (exploration_of reply neighbours history moves t))
      (moves - evaluated_in (exploration_of reply neighbours history moves t)) (suc k)))

  named-exploration_of :
      (history : List Entry) (moves : ℕ) (t : Task)
      → Every (λ e. e.caller ≡ 0) (entries_of (exploration_of reply neighbours history moves t))
  named-exploration_of history moves t = (
    refl,
    named-calling reply 0 (map Update (take moves (points_due reply neighbours history t)))
        (history ++ next_entry reply 0 history (Member t.point.value) ∷ []),
  )

  pub from-named :
      (fuel : ℕ) (history : List Entry) (moves k : ℕ)
      → Every (λ e. e.caller ≡ 0) (flat_map entries_of (explorations_from reply neighbours fuel history moves k))
  from-named zero history moves k = tt
  from-named (suc fuel) history moves k =
      from-by_cases (λ xs. Every (λ e. e.caller ≡ 0) (flat_map entries_of xs)) fuel history moves k (λ none. tt)
      (λ t at cut. Every-append (λ e. e.caller ≡ 0) (entries_of (exploration_of reply neighbours history moves t)) [] (named-exploration_of history moves t) tt)
      (λ t at whole.
      Every-append (λ e. e.caller ≡ 0) (entries_of (exploration_of reply neighbours history moves t)) _ (named-exploration_of history moves t)
      (from-named fuel (history ++ entries_of (exploration_of reply neighbours history moves t))
      (moves - evaluated_in (exploration_of reply neighbours history moves t)) (suc k)))
