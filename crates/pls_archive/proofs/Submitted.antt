-- What holds of the starts and of all neighbours holds of all that a caller submits in a search run.
use Rattle.std.proofs.Common.{◌≡◌, ℕ, Bool, true, false, List, [], ◌∷◌, ◌++◌, length, map, take, drop, if◌then◌else◌, refl, ap, sym, subst, ◌∙◌, suc, append_assoc, take-append-drop}
use Rattle.std.specs.Prelude.{All}
use Rattle.std.specs.List.{flat_map}
use Rattle.std.proofs.lemmas.List.{append-nil}
use Rattle.std.proofs.lemmas.List.Sorted.{All-permutation}
use Rattle.pls_archive.specs.declared.point.Point.{Point}
use Rattle.pls_archive.specs.declared.call.Call.{Call}
use Rattle.pls_archive.specs.declared.call.Call.TheVariants.{Update}
use Rattle.pls_archive.specs.declared.call.Reply.{Reply}
use Rattle.pls_archive.specs.declared.call.Entry.{Entry}
use Rattle.pls_archive.specs.Reply.{members, in_order}
use Rattle.pls_archive.specs.Lists.{Every}
use Rattle.pls_archive.specs.Rule.{submitted_by}
use Rattle.pls_archive.specs.History.{submissions, accepting}
use Rattle.pls_archive.specs.Explorations.{tasks, Exploration, CallerRun, IsExploration, entries_of, entries_of_run, skips}
use Rattle.pls_archive.specs.SearchRun.{SubmitsFirst, EndsWithSnapshot}
use Rattle.pls_archive.specs.Sequential.{InOrder, sequential_run}
use Rattle.pls_archive.proofs.Every.{Every-append, Every-left, Every-at}
use Rattle.pls_archive.proofs.ValuesOnce.{task-submitted}
use Rattle.pls_archive.proofs.Membership.{slice_get-In, All-In}
use Rattle.pls_archive.proofs.InOrder.{in_order-IsPermutation}
use Rattle.pls_archive.proofs.SequentialSound.{runs_sequentially}
use Rattle.pls_archive.specs.NondominatedRule.{nondominated-IsRule}
use Rattle.pls_archive.proofs.Histories.{submissions-append}

-- updates by these points submit them
submissions-updates : (es : List Entry) (points : List Point) → map (λ e. e.call) es ≡ map Update points → submissions es ≡ points
submissions-updates es points is = through es ∙ (ap (λ (calls : List Call). flat_map submitted_by calls) is ∙ back points)
  where
    through : (es : List Entry) → submissions es ≡ flat_map submitted_by (map (λ e. e.call) es)
    through [] = refl
    through (e ∷ es) = ap (λ (ps : List Point). submitted_by e.call ++ ps) (through es)

    back : (points : List Point) → flat_map submitted_by (map Update points) ≡ points
    back [] = refl
    back (p ∷ points) = ap (λ (ps : List Point). p ∷ ps) (back points)

-- The neighbours of a point of which it holds are such, too.
module _ (neighbours : Point → List Point) (C : Point → Type 0) (near : (p : Point) → C p → Every C (neighbours p)) where
  explored-Every : (x : Exploration) → IsExploration neighbours x → C x.task.point → Every C (submissions (entries_of x))
  explored-Every x is holds =
      let asked : submissions (entries_of x) ≡ submissions x.updates = ap (λ call. submitted_by call ++ submissions x.updates) is.asks in
      let all = subst (Every C) (sym is.submits.1) (due-Every (skips x.task x.asked)) in
      subst (Every C) (sym asked) (Every-left C (submissions x.updates) is.submits.0 all)
    where
      due-Every : (b : Bool) → Every C (if b then [] else neighbours x.task.point)
      due-Every true = tt
      due-Every false = near x.task.point holds

  -- explorations in order are of points that were submitted before
  explorations-Every :
      (history : List Entry) (k : ℕ) (xs : List Exploration) → Every C (submissions history) → InOrder history k xs
      → Every (IsExploration neighbours) xs → Every C (submissions (history ++ flat_map entries_of xs))
  explorations-Every history k [] before ordered each = subst (λ (es : List Entry). Every C (submissions es)) (sym (append-nil history)) before
  explorations-Every history k (x ∷ xs) before ordered each =
      let there = task-submitted history x.task (slice_get-In x.task (tasks history) k ordered.0) in
      let one = explored-Every x each.0 (Every-at C (submissions history) x.task.point there before) in
      let so_far = subst (Every C) (sym (submissions-append history (entries_of x))) (Every-append C (submissions history) (submissions (entries_of x)) before one) in
      subst (λ (es : List Entry). Every C (submissions es)) (append_assoc history (entries_of x) (flat_map entries_of xs))
      (explorations-Every (history ++ entries_of x) (suc k) xs so_far ordered.1 each.1)

  pub submitted-Every :
      (starts : List Point) (n : ℕ) (r : CallerRun) → SubmitsFirst starts r.starts → Every C starts → InOrder r.starts 0 r.explorations
      → Every (IsExploration neighbours) r.explorations → EndsWithSnapshot n r → Every C (submissions (entries_of_run r))
  submitted-Every starts n r begins each ordered explores ends =
      let first = submissions-updates r.starts (take (length r.starts) starts) begins in
      let started = Every-left C (take (length r.starts) starts) (drop (length r.starts) starts) (subst (Every C) (sym (take-append-drop (length r.starts) starts)) each) in
      let none : submissions r.last ≡ [] = ap submissions ends.only ∙ ap (λ call. submitted_by call ++ []) ends.asks in
      let body = explorations-Every r.starts 0 r.explorations (subst (Every C) (sym first) started) ordered explores in
      let whole = append_assoc r.starts (flat_map entries_of r.explorations) r.last in
      let parts = ap submissions (sym whole) ∙ submissions-append (r.starts ++ flat_map entries_of r.explorations) r.last in
      subst (Every C) (sym parts)
      (Every-append C (submissions (r.starts ++ flat_map entries_of r.explorations)) (submissions r.last) body (subst (Every C) (sym none) tt))

  -- so it holds of all that the sequential run submits, and of its members in order
  module _ (reply : List Point → Call → Reply) (starts : List Point) (moves : ℕ) (each : Every C starts) where
    pub sequential-Every : Every C (submissions (entries_of_run (sequential_run reply neighbours starts moves)))
    sequential-Every =
        let is = runs_sequentially reply neighbours starts moves in
        submitted-Every starts (length (accepting (entries_of_run (sequential_run reply neighbours starts moves)))) (sequential_run reply neighbours starts moves)
        is.run.begins each is.in_order is.run.explores.0.each is.run.asks_last

    pub in_order-Every : All C (in_order (members (submissions (entries_of_run (sequential_run reply neighbours starts moves)))))
    in_order-Every =
        let all = submissions (entries_of_run (sequential_run reply neighbours starts moves)) in
        All-permutation C (members all) (in_order (members all)) (in_order-IsPermutation (members all))
        (All-In C (members all) (λ p here. Every-at C all p (nondominated-IsRule.members_submitted all p here) sequential-Every))
