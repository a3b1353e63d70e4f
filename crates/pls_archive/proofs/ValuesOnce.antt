-- A value is accepted at most once.
use Rattle.std.specs.List.{flat_map}
use Rattle.std.proofs.Common.{◌≡◌, ◌⊎◌, ℕ, ◌≤◌, arith, List, [], ◌∷◌, ◌++◌, map, refl, ap, sym, subst, ◌∙◌, inl, inr, append_assoc}
use Rattle.std.proofs.lemmas.Bool.{true≢false}
use Rattle.std.proofs.lemmas.List.{append-nil}
use Rattle.std.proofs.lemmas.List.Concat.{flat_map-append}
use Rattle.pls_archive.specs.declared.point.Point.{Point}
use Rattle.pls_archive.specs.declared.call.Call.{Call}
use Rattle.pls_archive.specs.declared.call.Call.TheVariants.{Update, Covered, Member, Snapshot}
use Rattle.pls_archive.specs.declared.call.Reply.{Reply}
use Rattle.pls_archive.specs.declared.call.Reply.TheVariants.{Added, Refused, Yes, No, Points}
use Rattle.pls_archive.specs.declared.call.Entry.{Entry}
use Rattle.pls_archive.specs.Lists.{Every, In}
use Rattle.pls_archive.specs.Rule.{IsRule, submitted_by, accepted_by, is_accepting}
use Rattle.pls_archive.specs.History.{submissions, next_entry, ContinuesLegally}
use Rattle.pls_archive.specs.Explorations.{Task, tasks_by, tasks}
use Rattle.pls_archive.specs.Serialization.{serialization}
use Rattle.pls_archive.specs.RunLaws.{AcceptsValuesOnce, CallersAcceptValuesOnce}
use Rattle.pls_archive.proofs.Counted.{as_often}
use Rattle.pls_archive.proofs.Same.{same_task, same_task-IsSameTest, how_many-In, In-how_many}
use Rattle.pls_archive.proofs.Every.{In-left, In-right, In-append}

abbrev pub stamped : ℕ → Point → Task
stamped stamp p = record { point = p; stamp = stamp }

-- the tasks that a call with this answer and stamp makes
abbrev made : ℕ → Call → Reply → List Task
made stamp call answer = map (stamped stamp) (accepted_by call answer)

-- it makes one where it is an update whose point was added, and none otherwise
pub record IsMade (stamp : ℕ) (call : Call) (answer : Reply) (t : Task) : Type 0 where
  pub point : Point
  pub removed : ℕ
  pub updates : call ≡ Update point
  pub added : answer ≡ Added removed
  pub is : t ≡ stamped stamp point

pub made-IsMade : (stamp : ℕ) (call : Call) (answer : Reply) (t : Task) → In t (made stamp call answer) → IsMade stamp call answer t
made-IsMade stamp (Update p) (Added removed) t (inl e) =
    record { point = p; removed = removed; updates = refl; added = refl; is = e }
made-IsMade stamp (Update p) (Added removed) t (inr none) = absurd none
made-IsMade stamp (Update p) Refused t none = absurd none
made-IsMade stamp (Update p) Yes t none = absurd none
made-IsMade stamp (Update p) No t none = absurd none
made-IsMade stamp (Update p) (Points points) t none = absurd none
made-IsMade stamp (Covered v) answer t none = absurd none
made-IsMade stamp (Member v) answer t none = absurd none
made-IsMade stamp Snapshot answer t none = absurd none

same_update : (p q : Point) → Update p ≡ Update q → p ≡ q
same_update p q e = cc

-- and not two
one_made :
    (stamp : ℕ) (call : Call) (answer : Reply) (s t : Task) → IsMade stamp call answer s → IsMade stamp call answer t → s ≡ t
one_made stamp call answer s t first second =
    first.is
    ∙ (ap (stamped stamp) (same_update first.point second.point (sym first.updates ∙ second.updates)) ∙ sym second.is)

-- the point of a task was submitted
made-submitted : (stamp : ℕ) (call : Call) (answer : Reply) (t : Task) → IsMade stamp call answer t → In t.point (submitted_by call)
made-submitted stamp call answer t is =
    subst (λ c. In t.point (submitted_by c)) (sym is.updates) (inl (ap (λ (u : Task). u.point) is.is))

pub task-submitted : (history : List Entry) (t : Task) → In t (tasks history) → In t.point (submissions history)
task-submitted [] t none = absurd none
task-submitted (e ∷ history) t there = first_or_later (task-submitted history t) (In-append t (tasks_by e) (tasks history) there)
  where
    first_or_later :
        (In t (tasks history) → In t.point (submissions history)) → In t (tasks_by e) ⊎ In t (tasks history)
        → In t.point (submissions (e ∷ history))
    first_or_later rest (inl here) =
        In-left t.point (submitted_by e.call) (submissions history)
        (made-submitted e.stamp e.call e.reply t (made-IsMade e.stamp e.call e.reply t here))
    first_or_later rest (inr later) = In-right t.point (submitted_by e.call) (submissions history) (rest later)

-- the tasks of a history with one more entry are those before and those of the entry
tasks-last : (history : List Entry) (e : Entry) (t : Task) → In t (tasks (history ++ e ∷ [])) → In t (tasks history) ⊎ In t (tasks_by e)
tasks-last history e t there =
    In-append t (tasks history) (tasks_by e)
    (subst (In t) (flat_map-append tasks_by history (e ∷ []) ∙ ap (λ ts. tasks history ++ ts) (append-nil (tasks_by e))) there)

module _ (front : List Point → List Point) (reply : List Point → Call → Reply) (rule : IsRule front reply) where
  abbrev IsOnce : List Entry → Type 0
  IsOnce history = (s t : Task) → In s (tasks history) → In t (tasks history) → s.point.value ≡ t.point.value → s ≡ t

  module _ (history : List Entry) (e : Entry) (due : e ≡ next_entry reply e.caller history e.call) where
    -- a value that was submitted is refused, so no task of the entry has the value of one before
    new_value : (s t : Task) → In s (tasks history) → IsMade e.stamp e.call e.reply t → s.point.value ≡ t.point.value → ⊥
    new_value s t before is same =
        let refused =
        rule.same_value (submissions history) is.point s.point (task-submitted history s before)
        (same ∙ ap (λ (u : Task). u.point.value) is.is)
        in
        let answered =
        sym is.added ∙ (ap (λ (d : Entry). d.reply) due ∙ (ap (reply (submissions history)) is.updates ∙ refused))
        in
        true≢false (ap (is_accepting (Update is.point)) answered)

    once-more : IsOnce history → IsOnce (history ++ e ∷ [])
    once-more once s t s_there t_there same = by_places (tasks-last history e s s_there) (tasks-last history e t t_there)
      where
        is : (u : Task) → In u (tasks_by e) → IsMade e.stamp e.call e.reply u
        is u here = made-IsMade e.stamp e.call e.reply u here

        by_places : In s (tasks history) ⊎ In s (tasks_by e) → In t (tasks history) ⊎ In t (tasks_by e) → s ≡ t
        by_places (inl first) (inl second) = once s t first second same
        by_places (inl first) (inr second) = absurd (new_value s t first (is t second) same)
        by_places (inr first) (inl second) = absurd (new_value t s second (is s first) (sym same))
        by_places (inr first) (inr second) = one_made e.stamp e.call e.reply s t (is s first) (is t second)

  once-later : (history later : List Entry) → ContinuesLegally reply history later → IsOnce history → IsOnce (history ++ later)
  once-later history [] legal once = subst IsOnce (sym (append-nil history)) once
  once-later history (e ∷ later) legal once =
      subst IsOnce (append_assoc history (e ∷ []) later)
      (once-later (history ++ e ∷ []) later legal.1 (once-more history e legal.0 once))

pub accepts_values_once : (front : List Point → List Point) (reply : List Point → Call → Reply) → AcceptsValuesOnce front reply
accepts_values_once front reply rule history legal = once-later front reply rule [] history legal (λ s t none. absurd none)

-- a task of some caller is one of the serialization
serialized :
    (n : ℕ) (lists : List (List Entry)) → Every (Every (λ e. e.stamp ≤ n)) lists
    → (t : Task) → In t (flat_map tasks lists) → In t (tasks (serialization n lists))
serialized n lists within t there =
    let often = as_often n lists within tasks_by (same_task t) in
    let some = how_many-In (same_task t) t (flat_map tasks lists) there (same_task-IsSameTest.itself t) in
    In-how_many same_task same_task-IsSameTest t (tasks (serialization n lists)) (omega arith)

pub callers_accept_values_once :
    (front : List Point → List Point) (reply : List Point → Call → Reply) → CallersAcceptValuesOnce front reply
callers_accept_values_once front reply rule n lists lawful s t s_there t_there =
    accepts_values_once front reply rule (serialization n lists) lawful.legal s t
    (serialized n lists lawful.within s s_there) (serialized n lists lawful.within t t_there)
