-- There is no other search run of one caller that explores in order, closed or stopped.
use Rattle.std.proofs.Common.{◌≡◌, ◌⊎◌, ℕ, suc, ◌-◌, ◌<◌, ◌≤◌, true, false, not, List, [], ◌∷◌, ◌++◌, length, map, take, refl, ap, ap₂, sym, subst, ◌∙◌, append_assoc, arith, length-append, length-drop, inl, inr}
use Rattle.std.specs.List.{flat_map}
use Rattle.std.proofs.lemmas.Bool.{cases_Bool, both_ways, eqb-true}
use Rattle.std.proofs.lemmas.Option.{slice_get_past}
use Rattle.std.proofs.lemmas.List.{append-nil, length-map, take_all, take_at}
use Rattle.pls_archive.specs.declared.point.Point.{Point}
use Rattle.pls_archive.specs.declared.call.Call.{Call}
use Rattle.pls_archive.specs.declared.call.Call.TheVariants.{Update, Snapshot}
use Rattle.pls_archive.specs.declared.call.Reply.{Reply}
use Rattle.pls_archive.specs.declared.call.Entry.{Entry}
use Rattle.pls_archive.specs.Lists.{Every, total, how_many, one_if}
use Rattle.pls_archive.specs.Rule.{accepted_by}
use Rattle.pls_archive.specs.History.{submissions, accepting, next_entry, calling, submitting, ContinuesLegally}
use Rattle.pls_archive.specs.Explorations.{Task, Exploration, CallerRun, IsExploration, OnlyLastIsCut, tasks, tasks_by, entries_of, entries_of_run, explored_tasks, tasks_of, evaluated_in, due, is_whole, is_cut}
use Rattle.pls_archive.specs.SearchRun.{missing, EndsWithSnapshot, IsClosed, IsStopped}
use Rattle.pls_archive.specs.Sequential.{InOrder, IsSequentialRun, exploration_of, explorations_left, sequential_run}
use Rattle.pls_archive.specs.RunLaws.{IsOnlySequentialRun}
use Rattle.pls_archive.proofs.Every.{Every-left, Every-right}
use Rattle.pls_archive.proofs.SequentialCalls.{calling-only, ContinuesLegally-left, ContinuesLegally-right}
use Rattle.pls_archive.proofs.SequentialSteps.{left-none, left-whole, left-cut}
use Rattle.pls_archive.proofs.SequentialLawful.{legal-one}
use Rattle.pls_archive.proofs.SequentialEnds.{HaveEnded}
use Rattle.pls_archive.proofs.SequentialSound.{explorations-one, explored_tasks-one, tasks-one}

nothing_more : {A : Type 0} (xs ys : List A) → length (xs ++ ys) ≡ length xs → xs ++ ys ≡ xs
nothing_more xs [] same = append-nil xs
nothing_more xs (y ∷ ys) same = let parts = length-append xs (y ∷ ys) in absurd (omega arith)

how_many-all : {A : Type 0} (xs : List A) → how_many (λ _. true) xs ≡ length xs
how_many-all [] = refl
how_many-all (x ∷ xs) = let rest = how_many-all xs in omega arith

module _ (reply : List Point → Call → Reply) (neighbours : Point → List Point) where
  -- ---- one exploration

  -- what is submitted is what is due, as far as the moves go
  submissions-whole :
      (moves : ℕ) (x : Exploration) → IsExploration neighbours x → is_whole neighbours x ≡ true → evaluated_in x ≤ moves
      → submissions x.updates ≡ take moves (due neighbours x.task x.asked)
  submissions-whole moves x h whole within =
      let same : evaluated_in x ≡ length (due neighbours x.task x.asked) = eqb-true (evaluated_in x) (length (due neighbours x.task x.asked)) whole in
      let all : submissions x.updates ≡ due neighbours x.task x.asked =
      sym (nothing_more (submissions x.updates) h.submits.0 (ap length h.submits.1 ∙ sym same)) ∙ h.submits.1 in
      all ∙ sym (take_all moves (due neighbours x.task x.asked) (omega arith))

  submissions-spent :
      (moves : ℕ) (x : Exploration) → IsExploration neighbours x → evaluated_in x ≡ moves
      → submissions x.updates ≡ take moves (due neighbours x.task x.asked)
  submissions-spent moves x h spent = sym (take_at (submissions x.updates) h.submits.0 moves spent) ∙ ap (take moves) h.submits.1

  exploration-only :
      (history : List Entry) (moves : ℕ) (x : Exploration) → IsExploration neighbours x
      → Every (λ e. e.caller ≡ 0) (entries_of x) → ContinuesLegally reply history (entries_of x)
      → submissions x.updates ≡ take moves (due neighbours x.task x.asked)
      → x ≡ exploration_of reply neighbours history moves x.task
  exploration-only history moves x h named legal submitted =
      let asked = legal.0 ∙ ap₂ (λ (c : ℕ) (call : Call). next_entry reply c history call) named.0 h.asks in
      let calls = h.updates ∙ ap (map Update) submitted in
      let updates = calling-only reply 0 x.updates (history ++ x.asked ∷ []) named.1 legal.1
      ∙ ap (calling reply 0 (history ++ x.asked ∷ [])) calls in
      ap (λ (es : List Entry). record { task = x.task; asked = x.asked; updates = es }) updates
      ∙ ap
      (λ (a : Entry).
      record {
        task = x.task;
        asked = a;
        updates = submitting reply 0 (history ++ a ∷ []) (take moves (due neighbours x.task a));
      })
      asked

  -- ---- all explorations

  -- what is known of explorations that go on from a history, with the tasks from the k-th on
  record GoOn (history : List Entry) (moves k : ℕ) (xs : List Exploration) : Type 0 where
    order : InOrder history k xs
    each : Every (IsExploration neighbours) xs
    cut : OnlyLastIsCut neighbours xs
    named : Every (λ e. e.caller ≡ 0) (flat_map entries_of xs)
    legal : ContinuesLegally reply history (flat_map entries_of xs)
    within : total evaluated_in xs ≤ moves
    ended : HaveEnded reply neighbours history moves k xs

  ended-after :
      (history : List Entry) (moves k : ℕ) (x : Exploration) (xs : List Exploration) → is_whole neighbours x ≡ true
      → HaveEnded reply neighbours history moves k (x ∷ xs)
      → HaveEnded reply neighbours (history ++ entries_of x) (moves - evaluated_in x) (suc k) xs
  ended-after history moves k x xs whole (inl closed) =
      let same = ap (λ (es : List Entry). length (tasks es)) (append_assoc history (entries_of x) (flat_map entries_of xs)) in
      let count = closed.1 in
      inl (closed.0.1, omega arith)
  ended-after history moves k x xs whole (inr stopped) =
      let spent = stopped.0 in
      let some_cut = stopped.1 in
      let none : one_if (is_cut neighbours x) ≡ one_if false = ap (λ b. one_if (not b)) whole in
      inr (omega arith, omega arith)

  GoOn-after :
      (history : List Entry) (moves k : ℕ) (x : Exploration) (xs : List Exploration) → is_whole neighbours x ≡ true
      → GoOn history moves k (x ∷ xs) → GoOn (history ++ entries_of x) (moves - evaluated_in x) (suc k) xs
  GoOn-after history moves k x xs whole h =
      let within = h.within in
      record {
        order = h.order.1;
        each = h.each.1;
        cut = h.cut.1;
        named = Every-right (λ e. e.caller ≡ 0) (entries_of x) (flat_map entries_of xs) h.named;
        legal = ContinuesLegally-right reply history (entries_of x) (flat_map entries_of xs) h.legal;
        within = omega arith;
        ended = ended-after history moves k x xs whole h.ended;
      }

  first-only :
      (history : List Entry) (moves k : ℕ) (x : Exploration) (xs : List Exploration) → GoOn history moves k (x ∷ xs)
      → submissions x.updates ≡ take moves (due neighbours x.task x.asked) → x ≡ exploration_of reply neighbours history moves x.task
  first-only history moves k x xs h submitted =
      exploration-only history moves x h.each.0
      (Every-left (λ e. e.caller ≡ 0) (entries_of x) (flat_map entries_of xs) h.named)
      (ContinuesLegally-left reply history (entries_of x) (flat_map entries_of xs) h.legal) submitted

  whole-only :
      (history : List Entry) (moves k : ℕ) (x : Exploration) (xs : List Exploration) → GoOn history moves k (x ∷ xs)
      → is_whole neighbours x ≡ true
      → xs ≡ explorations_left reply neighbours (history ++ entries_of x) (moves - evaluated_in x) (suc k)
      → (x ∷ xs) ≡ explorations_left reply neighbours history moves k
  whole-only history moves k x xs h whole rest =
      let within = h.within in
      let same = first-only history moves k x xs h (submissions-whole moves x h.each.0 whole (omega arith)) in
      ap (λ (ys : List Exploration). x ∷ ys) rest
      ∙ (ap (λ (y : Exploration). y ∷ explorations_left reply neighbours (history ++ entries_of y) (moves - evaluated_in y) (suc k)) same
      ∙ sym (left-whole reply neighbours history moves k x.task h.order.0 (ap (is_whole neighbours) (sym same) ∙ whole)))

  cut-only :
      (history : List Entry) (moves k : ℕ) (x : Exploration) (xs : List Exploration) → GoOn history moves k (x ∷ xs)
      → is_whole neighbours x ≡ false → (x ∷ xs) ≡ explorations_left reply neighbours history moves k
  cut-only history moves k x (y ∷ ys) h cut = absurd (both_ways (is_whole neighbours x) cut (h.cut.0 (omega arith)))
  cut-only history moves k x [] h cut =
      let same = first-only history moves k x [] h (submissions-spent moves x h.each.0 (spent h.ended)) in
      ap (λ (y : Exploration). y ∷ []) same
      ∙ sym (left-cut reply neighbours history moves k x.task h.order.0 (ap (is_whole neighbours) (sym same) ∙ cut))
    where
      spent : HaveEnded reply neighbours history moves k (x ∷ []) → evaluated_in x ≡ moves
      spent (inl closed) = absurd (both_ways (is_whole neighbours x) cut closed.0.0)
      spent (inr stopped) = let all = stopped.0 in omega arith

  explorations-only :
      (xs : List Exploration) (history : List Entry) (moves k : ℕ) → GoOn history moves k xs
      → xs ≡ explorations_left reply neighbours history moves k
  explorations-only [] history moves k h = by_end h.ended
    where
      by_end : HaveEnded reply neighbours history moves k [] → [] ≡ explorations_left reply neighbours history moves k
      by_end (inl closed) =
          let same = ap (λ (es : List Entry). length (tasks es)) (append-nil history) in
          let count = closed.1 in
          sym (left-none reply neighbours history moves k (slice_get_past (tasks history) k (omega arith)))
      by_end (inr stopped) = let some_cut = stopped.1 in absurd (omega arith)
  explorations-only (x ∷ xs) history moves k h =
      elim (cases_Bool (is_whole neighbours x)) [
        | inl whole ↦
            whole-only history moves k x xs h whole
            (explorations-only xs (history ++ entries_of x) (moves - evaluated_in x) (suc k) (GoOn-after history moves k x xs whole h))
        | inr cut ↦ cut-only history moves k x xs h cut
      ]

  -- ---- a run

  -- a question for the members makes no task
  tasks-snapshot : (n : ℕ) (r : CallerRun) → EndsWithSnapshot n r → tasks r.last ≡ []
  tasks-snapshot n r h = ap tasks h.only ∙ (append-nil (tasks_by h.entry) ∙ none h.entry h.asks)
    where
      none : (e : Entry) → e.call ≡ Snapshot → tasks_by e ≡ []
      none e asks = ap (λ (c : Call). map {B = Task} (λ p. record { point = p; stamp = e.stamp }) (accepted_by c e.reply)) asks

  module _ (starts : List Point) (moves : ℕ) (r : CallerRun) (s : IsSequentialRun reply neighbours starts moves r) where
    started : missing starts r ≡ []
    started = by_end s.ends
      where
        by_end : IsClosed neighbours starts r [] ⊎ IsStopped neighbours starts moves r [] → missing starts r ≡ []
        by_end (inl closed) = closed.started
        by_end (inr stopped) = stopped.started

    ended : HaveEnded reply neighbours r.starts moves 0 r.explorations
    ended = by_end s.ends
      where
        by_end :
            IsClosed neighbours starts r [] ⊎ IsStopped neighbours starts moves r []
            → HaveEnded reply neighbours r.starts moves 0 r.explorations
        by_end (inl closed) =
            let many = ap length (explored_tasks-one r) ∙ length-map r.explorations (λ (x : Exploration). x.task) in
            let all = ap length (tasks-one r (tasks-snapshot (length (accepting (entries_of_run r))) r s.run.asks_last)) in
            let same = closed.all (λ _. true) in
            let explored = how_many-all (explored_tasks (r ∷ [])) in
            let accepted = how_many-all (tasks_of (r ∷ [])) in
            inl (subst (Every (λ x. is_whole neighbours x ≡ true)) (explorations-one r) closed.whole, omega arith)
        by_end (inr stopped) =
            inr (
              ap (total evaluated_in) (sym (explorations-one r)) ∙ stopped.spent,
              subst (λ (xs : List Exploration). 0 < how_many (is_cut neighbours) xs) (explorations-one r) stopped.cut,
            )

    legal : ContinuesLegally reply [] (r.starts ++ (flat_map entries_of r.explorations ++ r.last))
    legal = legal-one reply (length (accepting (entries_of_run r))) (entries_of_run r) s.run.consistent

    legal-after : ContinuesLegally reply r.starts (flat_map entries_of r.explorations ++ r.last)
    legal-after = ContinuesLegally-right reply [] r.starts (flat_map entries_of r.explorations ++ r.last) legal

    named-after : Every (λ e. e.caller ≡ 0) (flat_map entries_of r.explorations ++ r.last)
    named-after = Every-right (λ e. e.caller ≡ 0) r.starts (flat_map entries_of r.explorations ++ r.last) s.run.consistent.named.0

    starts-only : r.starts ≡ submitting reply 0 [] starts
    starts-only =
        let left = ap length started in
        let drops = length-drop (length r.starts) starts in
        let enough : length starts ≤ length r.starts = omega arith in
        calling-only reply 0 r.starts [] (Every-left (λ e. e.caller ≡ 0) r.starts (flat_map entries_of r.explorations ++ r.last) s.run.consistent.named.0)
        (ContinuesLegally-left reply [] r.starts (flat_map entries_of r.explorations ++ r.last) legal)
        ∙ ap (calling reply 0 []) (s.run.begins ∙ ap (map Update) (take_all (length r.starts) starts enough))

    explorations-left : r.explorations ≡ explorations_left reply neighbours r.starts moves 0
    explorations-left =
        explorations-only r.explorations r.starts moves 0
        (record {
          order = s.in_order;
          each = s.run.explores.0.each;
          cut = s.run.explores.0.cut;
          named = Every-left (λ e. e.caller ≡ 0) (flat_map entries_of r.explorations) r.last named-after;
          legal = ContinuesLegally-left reply r.starts (flat_map entries_of r.explorations) r.last legal-after;
          within = subst (λ (xs : List Exploration). total evaluated_in xs ≤ moves) (explorations-one r) s.run.within;
          ended = ended;
        })

    last-only : r.last ≡ next_entry reply 0 (r.starts ++ flat_map entries_of r.explorations) Snapshot ∷ []
    last-only =
        let after = ContinuesLegally-right reply r.starts (flat_map entries_of r.explorations) r.last legal-after in
        let named = Every-right (λ e. e.caller ≡ 0) (flat_map entries_of r.explorations) r.last named-after in
        let ends = s.run.asks_last in
        calling-only reply 0 r.last (r.starts ++ flat_map entries_of r.explorations) named after
        ∙ ap (λ (es : List Entry). calling reply 0 (r.starts ++ flat_map entries_of r.explorations) (map (λ e. e.call) es)) ends.only
        ∙ ap (λ (c : Call). calling reply 0 (r.starts ++ flat_map entries_of r.explorations) (c ∷ [])) ends.asks

    run-only : r ≡ sequential_run reply neighbours starts moves
    run-only =
        ap (λ (es : List Entry). record { starts = r.starts; explorations = r.explorations; last = es }) last-only
        ∙ ap₂ made starts-only
        (explorations-left ∙ ap (λ (es : List Entry). explorations_left reply neighbours es moves 0) starts-only)
      where
        made : List Entry → List Exploration → CallerRun
        made es xs = record { starts = es; explorations = xs; last = next_entry reply 0 (es ++ flat_map entries_of xs) Snapshot ∷ [] }

pub only_sequential_run : (reply : List Point → Call → Reply) (neighbours : Point → List Point) → IsOnlySequentialRun reply neighbours
only_sequential_run reply neighbours starts moves r s = run-only reply neighbours starts moves r s
