-- Calls that one caller makes one after another: the entries that they add to a history, their submissions and their tasks.
use Rattle.std.proofs.Common.{◌≡◌, ℕ, suc, ◌≤◌, List, [], ◌∷◌, ◌++◌, length, map, refl, ap, sym, subst, ◌∙◌, append_assoc, arith, length-append}
use Rattle.std.proofs.lemmas.List.{append-nil, map-append, length-map}
use Rattle.std.proofs.lemmas.List.Concat.{flat_map-append}
use Rattle.pls_archive.specs.declared.point.Point.{Point}
use Rattle.pls_archive.specs.declared.call.Call.{Call}
use Rattle.pls_archive.specs.declared.call.Call.TheVariants.{Update, Covered, Member, Snapshot}
use Rattle.pls_archive.specs.declared.call.Reply.{Reply}
use Rattle.pls_archive.specs.declared.call.Reply.TheVariants.{Added, Refused, Yes, No, Points}
use Rattle.pls_archive.specs.declared.call.Entry.{Entry}
use Rattle.pls_archive.specs.Lists.{Every}
use Rattle.pls_archive.specs.Rule.{submitted_by, accepted_by}
use Rattle.pls_archive.specs.History.{submissions, next_entry, calling, submitting, ContinuesLegally}
use Rattle.pls_archive.specs.Explorations.{tasks_by, tasks}

module _ (reply : List Point → Call → Reply) where
  -- of two lists of calls, one after the other
  pub calling-append :
      (caller : ℕ) (calls later : List Call) (history : List Entry)
      → calling reply caller history (calls ++ later)
      ≡ calling reply caller history calls ++ calling reply caller (history ++ calling reply caller history calls) later
  calling-append caller [] later history = ap (λ (h : List Entry). calling reply caller h later) (sym (append-nil history))
  calling-append caller (call ∷ calls) later history =
      let e = next_entry reply caller history call in
      let es = calling reply caller (history ++ e ∷ []) calls in
      ap (λ (ds : List Entry). e ∷ ds)
      (calling-append caller calls later (history ++ e ∷ [])
      ∙ ap (λ (h : List Entry). es ++ calling reply caller h later) (append_assoc history (e ∷ []) es))

  pub submitting-append :
      (caller : ℕ) (points later : List Point) (history : List Entry)
      → submitting reply caller history (points ++ later)
      ≡ submitting reply caller history points ++ submitting reply caller (history ++ submitting reply caller history points) later
  submitting-append caller points later history =
      ap (calling reply caller history) (map-append Update points later)
      ∙ calling-append caller (map Update points) (map Update later) history

  -- the entries are of these calls, and of the caller
  pub calls-calling : (caller : ℕ) (calls : List Call) (history : List Entry) → map (λ e. e.call) (calling reply caller history calls) ≡ calls
  calls-calling caller [] history = refl
  calls-calling caller (call ∷ calls) history =
      ap (λ (cs : List Call). call ∷ cs) (calls-calling caller calls (history ++ next_entry reply caller history call ∷ []))

  pub length-calling : (caller : ℕ) (calls : List Call) (history : List Entry) → length (calling reply caller history calls) ≡ length calls
  length-calling caller [] history = refl
  length-calling caller (call ∷ calls) history =
      ap suc (length-calling caller calls (history ++ next_entry reply caller history call ∷ []))

  pub named-calling : (caller : ℕ) (calls : List Call) (history : List Entry) → Every (λ e. e.caller ≡ caller) (calling reply caller history calls)
  named-calling caller [] history = tt
  named-calling caller (call ∷ calls) history =
      (refl, named-calling caller calls (history ++ next_entry reply caller history call ∷ []))

  -- points that are submitted are the submissions
  pub submissions-submitting :
      (caller : ℕ) (points : List Point) (history : List Entry) → submissions (submitting reply caller history points) ≡ points
  submissions-submitting caller [] history = refl
  submissions-submitting caller (p ∷ points) history =
      ap (λ (ps : List Point). p ∷ ps) (submissions-submitting caller points (history ++ next_entry reply caller history (Update p) ∷ []))

  -- they go on legally from the history
  pub ContinuesLegally-calling :
      (caller : ℕ) (calls : List Call) (history : List Entry) → ContinuesLegally reply history (calling reply caller history calls)
  ContinuesLegally-calling caller [] history = tt
  ContinuesLegally-calling caller (call ∷ calls) history =
      (refl, ContinuesLegally-calling caller calls (history ++ next_entry reply caller history call ∷ []))

  -- of entries one after the other
  pub ContinuesLegally-append :
      (history xs ys : List Entry)
      → ContinuesLegally reply history xs → ContinuesLegally reply (history ++ xs) ys → ContinuesLegally reply history (xs ++ ys)
  ContinuesLegally-append history [] ys first then_ys = subst (λ (h : List Entry). ContinuesLegally reply h ys) (append-nil history) then_ys
  ContinuesLegally-append history (x ∷ xs) ys first then_ys =
      let moved = subst (λ (h : List Entry). ContinuesLegally reply h ys) (sym (append_assoc history (x ∷ []) xs)) then_ys in
      (first.0, ContinuesLegally-append (history ++ x ∷ []) xs ys first.1 moved)

  pub ContinuesLegally-left :
      (history xs ys : List Entry) → ContinuesLegally reply history (xs ++ ys) → ContinuesLegally reply history xs
  ContinuesLegally-left history [] ys h = tt
  ContinuesLegally-left history (x ∷ xs) ys h = (h.0, ContinuesLegally-left (history ++ x ∷ []) xs ys h.1)

  pub ContinuesLegally-right :
      (history xs ys : List Entry) → ContinuesLegally reply history (xs ++ ys) → ContinuesLegally reply (history ++ xs) ys
  ContinuesLegally-right history [] ys h = subst (λ (g : List Entry). ContinuesLegally reply g ys) (sym (append-nil history)) h
  ContinuesLegally-right history (x ∷ xs) ys h =
      subst (λ (g : List Entry). ContinuesLegally reply g ys) (append_assoc history (x ∷ []) xs)
      (ContinuesLegally-right (history ++ x ∷ []) xs ys h.1)

  -- legal entries of one caller are those of its calls
  pub calling-only :
      (caller : ℕ) (es history : List Entry) → Every (λ e. e.caller ≡ caller) es → ContinuesLegally reply history es
      → es ≡ calling reply caller history (map (λ e. e.call) es)
  calling-only caller [] history named legal = refl
  calling-only caller (e ∷ es) history named legal =
      let same : e ≡ next_entry reply caller history e.call = legal.0 ∙ ap (λ (c : ℕ). next_entry reply c history e.call) named.0 in
      let rest = calling-only caller es (history ++ e ∷ []) named.1 legal.1 in
      let calls = map (λ (d : Entry). d.call) es in
      rest_of calls same rest
    where
      rest_of :
          (calls : List Call) → e ≡ next_entry reply caller history e.call → es ≡ calling reply caller (history ++ e ∷ []) calls
          → (e ∷ es) ≡ calling reply caller history (e.call ∷ calls)
      rest_of calls same rest =
          ap (λ (ds : List Entry). e ∷ ds) rest
          ∙ ap (λ (d : Entry). d ∷ calling reply caller (history ++ d ∷ []) calls) same

-- the tasks of two lists of entries, one after the other
pub tasks-append : (xs ys : List Entry) → tasks (xs ++ ys) ≡ tasks xs ++ tasks ys
tasks-append xs ys = flat_map-append tasks_by xs ys

-- what is accepted was submitted, so there are no more tasks than submissions
length-accepted_by : (call : Call) (answer : Reply) → length (accepted_by call answer) ≤ length (submitted_by call)
length-accepted_by (Update p) (Added removed) = omega arith
length-accepted_by (Update p) Refused = omega arith
length-accepted_by (Update p) Yes = omega arith
length-accepted_by (Update p) No = omega arith
length-accepted_by (Update p) (Points points) = omega arith
length-accepted_by (Covered v) answer = omega arith
length-accepted_by (Member v) answer = omega arith
length-accepted_by Snapshot answer = omega arith

length-tasks_by : (e : Entry) → length (tasks_by e) ≤ length (submitted_by e.call)
length-tasks_by e =
    let few = length-accepted_by e.call e.reply in
    let same : length (tasks_by e) ≡ length (accepted_by e.call e.reply) = length-map (accepted_by e.call e.reply) _ in omega arith

pub length-tasks : (es : List Entry) → length (tasks es) ≤ length (submissions es)
length-tasks [] = omega arith
length-tasks (e ∷ es) =
    let first = length-tasks_by e in
    let rest = length-tasks es in
    let parts = length-append (tasks_by e) (tasks es) in
    let all = length-append (submitted_by e.call) (submissions es) in omega arith
