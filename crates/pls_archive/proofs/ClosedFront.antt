-- Where a search run ends closed, every neighbour of a member is refused: it was submitted.
use Rattle.std.proofs.Common.{◌≡◌, ◌⊎◌, ℕ, ◌≤◌, nat_le, Bool, true, false, ◌&&◌, if◌then◌else◌, List, [], ◌∷◌, length, map, refl, ap, sym, subst, ◌∙◌, arith, inl, inr}
use Rattle.std.proofs.lemmas.Bool.{and_parts, and_from, or_left, or_right, both_ways, false_from_ne_true, leb-true, eqb-true}
use Rattle.std.proofs.lemmas.List.{append-nil, length-append}
use Rattle.pls_vectors.proofs.Dominance.{weakly_dominates-refl}
use Rattle.pls_vectors.specs.Dominance.{weakly_dominates}
use Rattle.pls_archive.specs.declared.point.Point.{Point}
use Rattle.pls_archive.specs.declared.call.Call.{Call}
use Rattle.pls_archive.specs.declared.call.Call.TheVariants.{Update, Member}
use Rattle.pls_archive.specs.declared.call.Reply.{Reply}
use Rattle.pls_archive.specs.declared.call.Reply.TheVariants.{Refused, Yes, No}
use Rattle.pls_archive.specs.declared.call.Entry.{Entry}
use Rattle.pls_archive.specs.Lists.{Every, In, AsOften, IsPrefix}
use Rattle.pls_archive.specs.Rule.{IsRule, submitted_by}
use Rattle.pls_archive.specs.Reply.{has_value}
use Rattle.pls_archive.specs.History.{submissions, IsLegal}
use Rattle.pls_archive.specs.Serialization.{AreSequentiallyConsistent}
use Rattle.pls_archive.specs.Explorations.{Task, Exploration, CallerRun, IsExploration, tasks, is_no, evaluated_in, skips, due, is_whole, entries_of_run, explorations_of, explored_tasks, tasks_of}
use Rattle.pls_archive.specs.SearchRun.{Explores}
use Rattle.pls_archive.specs.RunLaws.{ClosesFront}
use Rattle.pls_archive.proofs.Every.{Every-at, In-right}
use Rattle.pls_archive.proofs.Counted.{same_tasks}
use Rattle.pls_archive.proofs.Membership.{In-mapped, In-flat_map, In-flat_mapped}
use Rattle.pls_archive.proofs.Same.{same_task, same_task-IsSameTest, how_many-In, In-how_many}
use Rattle.pls_archive.proofs.LegalEntries.{IsPlaced, IsBroughtIn, placed, reply-placed, stamp-placed, comes_from}
use Rattle.pls_archive.proofs.SequentialCalls.{tasks-append}
use Rattle.pls_archive.proofs.SerializedEntries.{serialized, exploration-In}
use Rattle.pls_archive.proofs.ValuesOnce.{accepts_values_once}

-- the value of each point of the list is that of some
has_value-In : (points : List Point) (p : Point) → In p points → has_value points p.value ≡ true
has_value-In [] p none = absurd none
has_value-In (q ∷ points) p (inl e) =
    or_left _ _ (subst (λ (r : Point). (weakly_dominates r.value p.value && weakly_dominates p.value r.value) ≡ true) e
    (and_from _ _ (weakly_dominates-refl p.value) (weakly_dominates-refl p.value)))
has_value-In (q ∷ points) p (inr later) = or_right _ _ (has_value-In points p later)

-- a beginning that is as long as the list is the list
whole-prefix : {A : Type 0} (xs ys : List A) → IsPrefix xs ys → length xs ≡ length ys → xs ≡ ys
whole-prefix xs ys ([], same) long = sym (append-nil xs) ∙ same
whole-prefix xs ys (z ∷ more, same) long =
    absurd (let parts = length-append xs (z ∷ more) in let all = ap length same in omega arith)

module _ (neighbours : Point → List Point) (x : Exploration) (is : IsExploration neighbours x) (whole : is_whole neighbours x ≡ true) where
  -- a whole exploration submits all that is due
  submits-due : submissions x.updates ≡ due neighbours x.task x.asked
  submits-due =
      whole-prefix (submissions x.updates) (due neighbours x.task x.asked) is.submits
      (eqb-true (evaluated_in x) (length (due neighbours x.task x.asked)) whole)

  -- all neighbours, where it was not skipped
  submits-neighbours : skips x.task x.asked ≡ false → submissions x.updates ≡ neighbours x.task.point
  submits-neighbours asked = submits-due ∙ ap (λ (b : Bool). if b then [] else neighbours x.task.point) asked

module _ (front : List Point → List Point) (reply : List Point → Call → Reply) (rule : IsRule front reply) where
  -- where a question of membership is answered by no, the point is no member there
  no_member :
      (history : List Entry) (e : Entry) (p : Point) → e.call ≡ Member p.value → is_no e.reply ≡ true → (at : IsPlaced reply history e)
      → In p (front (submissions at.before)) → ⊥
  no_member history e p asks told at there =
      let members = front (submissions at.before) in
      let answer = reply-placed reply history e (Member p.value) asks at ∙ rule.member (submissions at.before) p.value in
      both_ways _ (value_is_no (has_value members p.value) (sym (ap is_no answer) ∙ told)) (has_value-In members p there)
    where
      value_is_no : (b : Bool) → is_no (if b then Yes else No) ≡ true → b ≡ false
      value_is_no true h = cc
      value_is_no false h = refl

  module _ (history : List Entry) (legal : IsLegal reply history) where
    -- a task that is skipped is of no member, and of none later: its point was not brought in again
    skipped-no_member :
        (t : Task) (e : Entry) → In t (tasks history) → In e history → e.call ≡ Member t.point.value → skips t e ≡ true
        → In t.point (front (submissions history)) → ⊥
    skipped-no_member t e is_task there asks skipped member =
        let at = placed reply [] history legal e there in
        let told = and_parts (is_no e.reply) (nat_le t.stamp e.stamp) skipped in
        let still = subst (λ (es : List Entry). In t.point (front (submissions es))) at.is member in
        by_origin at told.0 (leb-true t.stamp e.stamp told.1) (comes_from front reply rule at.before (e ∷ at.after) at.legal t.point still)
      where
        by_origin :
            (at : IsPlaced reply history e) → is_no e.reply ≡ true → t.stamp ≤ e.stamp
            → In t.point (front (submissions at.before)) ⊎ IsBroughtIn at.before (e ∷ at.after) t.point → ⊥
        by_origin at said late (inl before) = no_member history e t.point asks said at before
        by_origin at said late (inr again) =
            let brought = In-right again.task (tasks at.before) (tasks (e ∷ at.after)) again.there in
            let among = subst (In again.task) (sym (ap tasks at.is ∙ tasks-append at.before (e ∷ at.after))) brought in
            let same = accepts_values_once front reply rule history legal again.task t among is_task (ap (λ (p : Point). p.value) again.is) in
            let stamp = ap (λ (s : Task). s.stamp) same in
            let asked = stamp-placed reply history e (Member t.point.value) asks at (λ answer. refl) in
            let later = again.stamped in
            omega arith

  module _
      (neighbours : Point → List Point) (n : ℕ) (runs : List CallerRun) (lawful : AreSequentiallyConsistent reply n (map entries_of_run runs))
      (each : Every (Explores neighbours) runs) (all : AsOften (explored_tasks runs) (tasks_of runs))
      (whole : Every (λ x. is_whole neighbours x ≡ true) (explorations_of runs))
    where
      -- every task has an exploration
      explored : (t : Task) → In t (tasks (serialized n runs)) → (x : Exploration) × In x (explorations_of runs) × (t ≡ x.task)
      explored t there =
          In-mapped (λ x. x.task) t (explorations_of runs)
          (In-how_many same_task same_task-IsSameTest t (explored_tasks runs)
          (let some = how_many-In (same_task t) t (tasks (serialized n runs)) there (same_task-IsSameTest.itself t) in
          let same = same_tasks n runs lawful.within (same_task t) in
          let as_many = all (same_task t) in
          omega arith))

      -- what an exploration submitted is refused after all submissions
      submitted-refused :
          (r : CallerRun) → In r runs → (x : Exploration) → In x r.explorations → (q : Point) → In q (submissions x.updates)
          → reply (submissions (serialized n runs)) (Update q) ≡ Refused
      submitted-refused r of_runs x there q submitted =
          let history = serialized n runs in
          let by = In-flat_mapped (λ e. submitted_by e.call) q x.updates submitted in
          let serial = exploration-In reply n runs lawful r of_runs x there by.0 (inr by.1) in
          rule.same_value (submissions history) q q (In-flat_map (λ e. submitted_by e.call) q by.0 history serial by.2) refl

      -- so each neighbour of a member is: its task was explored, and that exploration was not skipped
      neighbour-refused :
          (t : Task) → In t (tasks (serialized n runs)) → In t.point (front (submissions (serialized n runs)))
          → (q : Point) → In q (neighbours t.point) → reply (submissions (serialized n runs)) (Update q) ≡ Refused
      neighbour-refused t is_task member q near =
          let found = explored t is_task in
          of_exploration found.0 found.1 found.2 (In-flat_mapped (λ r. r.explorations) found.0 runs found.1)
        where
          of_exploration :
              (x : Exploration) → In x (explorations_of runs) → t ≡ x.task → (r : CallerRun) × In r runs × In x r.explorations
              → reply (submissions (serialized n runs)) (Update q) ≡ Refused
          of_exploration x explored_x same (r, of_runs, there) =
              let is = Every-at (IsExploration neighbours) r.explorations x there (Every-at (Explores neighbours) runs r of_runs each).each in
              let is_whole_x = Every-at (λ y. is_whole neighbours y ≡ true) (explorations_of runs) x explored_x whole in
              let asked = exploration-In reply n runs lawful r of_runs x there x.asked (inl refl) in
              let not_skipped : skips x.task x.asked ≡ false =
              false_from_ne_true (skips x.task x.asked)
              (λ skipped. skipped-no_member (serialized n runs) lawful.legal t x.asked is_task asked
              (is.asks ∙ ap (λ (s : Task). Member s.point.value) (sym same)) (ap (λ (s : Task). skips s x.asked) same ∙ skipped) member)
              in
              submitted-refused r of_runs x there q
              (subst (In q) (sym (submits-neighbours neighbours x is is_whole_x not_skipped))
              (subst (λ (s : Task). In q (neighbours s.point)) same near))

      -- each member is the point of a task
      closed-refused :
          (p q : Point) → In p (front (submissions (serialized n runs))) → In q (neighbours p)
          → reply (submissions (serialized n runs)) (Update q) ≡ Refused
      closed-refused p q member near =
          by_origin (comes_from front reply rule [] (serialized n runs) lawful.legal p member)
        where
          by_origin :
              In p (front []) ⊎ IsBroughtIn [] (serialized n runs) p
              → reply (submissions (serialized n runs)) (Update q) ≡ Refused
          by_origin (inl none) = absurd (rule.members_submitted [] p none)
          by_origin (inr brought) =
              neighbour-refused brought.task brought.there
              (subst (λ (r : Point). In r (front (submissions (serialized n runs)))) (sym brought.is) member) q
              (subst (λ (r : Point). In q (neighbours r)) (sym brought.is) near)

pub closes_front :
    (front : List Point → List Point) (reply : List Point → Call → Reply) (neighbours : Point → List Point)
    → ClosesFront front reply neighbours
closes_front front reply neighbours rule starts moves n first others run closed =
    closed-refused front reply rule neighbours n (first ∷ others) run.consistent run.explores closed.all closed.whole
