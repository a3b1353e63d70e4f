-- The entries of a legal history, each at its place, and where the members after it come from.
use Rattle.std.proofs.Common.{◌≡◌, ◌⊎◌, ◌<◌, Bool, true, false, List, [], ◌∷◌, ◌++◌, length, refl, ap, sym, subst, ◌∙◌, arith, inl, inr, append_assoc}
use Rattle.std.proofs.lemmas.Bool.{cases_Bool}
use Rattle.std.proofs.lemmas.List.{append-nil}
use Rattle.pls_archive.specs.declared.point.Point.{Point}
use Rattle.pls_archive.specs.declared.call.Call.{Call}
use Rattle.pls_archive.specs.declared.call.Call.TheVariants.{Update, Covered, Member, Snapshot}
use Rattle.pls_archive.specs.declared.call.Reply.{Reply}
use Rattle.pls_archive.specs.declared.call.Reply.TheVariants.{Added, Refused, Yes, No, Points}
use Rattle.pls_archive.specs.declared.call.Entry.{Entry}
use Rattle.pls_archive.specs.Lists.{In, how_many, one_if}
use Rattle.pls_archive.specs.Rule.{IsRule, submitted_by, accepted_by, is_accepting}
use Rattle.pls_archive.specs.History.{submissions, accepts, accepting, next_entry, ContinuesLegally}
use Rattle.pls_archive.specs.Explorations.{Task, tasks_by, tasks}
use Rattle.pls_archive.proofs.Every.{In-left, In-right, In-append}
use Rattle.pls_archive.proofs.Histories.{submissions-with_call}
use Rattle.pls_archive.proofs.Membership.{In-map}
use Rattle.pls_archive.proofs.SequentialLawful.{length-accepting}

-- ---- an entry at its place

-- the entry is that of a legal history after those before it, and what stands after it goes on legally
pub record IsPlaced (reply : List Point → Call → Reply) (history : List Entry) (e : Entry) : Type 0 where
  pub before : List Entry
  pub after : List Entry
  pub is : history ≡ before ++ e ∷ after
  pub legal : ContinuesLegally reply before (e ∷ after)

module _ (reply : List Point → Call → Reply) where
  pub placed :
      (history later : List Entry) → ContinuesLegally reply history later → (e : Entry) → In e later
      → IsPlaced reply (history ++ later) e
  placed history [] legal e none = absurd none
  placed history (d ∷ later) legal e (inl same) =
      subst (IsPlaced reply (history ++ d ∷ later)) (sym same) (record { before = history; after = later; is = refl; legal = legal })
  placed history (d ∷ later) legal e (inr there) =
      subst (λ (es : List Entry). IsPlaced reply es e) (append_assoc history (d ∷ []) later)
      (placed (history ++ d ∷ []) later legal.1 e there)

  module _ (history : List Entry) (e : Entry) (call : Call) (is : e.call ≡ call) (at : IsPlaced reply history e) where
    -- its reply is the one that is due
    pub reply-placed : e.reply ≡ reply (submissions at.before) call
    reply-placed = ap (λ (d : Entry). d.reply) at.legal.0 ∙ ap (reply (submissions at.before)) is

    -- where its call never brings anything in, its stamp counts the accepting entries before it
    pub stamp-placed : ((answer : Reply) → is_accepting call answer ≡ false) → e.stamp ≡ length (accepting at.before)
    stamp-placed never =
        let stamped = ap (λ (d : Entry). d.stamp) at.legal.0 in
        let none : one_if (is_accepting e.call (reply (submissions at.before) e.call)) ≡ 0 =
        ap (λ (c : Call). one_if (is_accepting c (reply (submissions at.before) c))) is ∙ ap one_if (never (reply (submissions at.before) call)) in
        omega arith

-- ---- the members after legal entries

-- the point was brought in by one of the later entries, after those of the history
pub record IsBroughtIn (history later : List Entry) (p : Point) : Type 0 where
  pub task : Task
  pub there : In task (tasks later)
  pub is : task.point ≡ p
  pub stamped : length (accepting history) < task.stamp

accepted_update : (p : Point) (answer : Reply) → is_accepting (Update p) answer ≡ true → accepted_by (Update p) answer ≡ p ∷ []
accepted_update p (Added removed) accepted = refl
accepted_update p Refused accepted = cc
accepted_update p Yes accepted = cc
accepted_update p No accepted = cc
accepted_update p (Points points) accepted = cc

accepting-In : (call : Call) (answer : Reply) (p : Point) → In p (accepted_by call answer) → is_accepting call answer ≡ true
accepting-In (Update q) (Added removed) p there = refl
accepting-In (Update q) Refused p none = absurd none
accepting-In (Update q) Yes p none = absurd none
accepting-In (Update q) No p none = absurd none
accepting-In (Update q) (Points points) p none = absurd none
accepting-In (Covered v) answer p none = absurd none
accepting-In (Member v) answer p none = absurd none
accepting-In Snapshot answer p none = absurd none

module _ (front : List Point → List Point) (reply : List Point → Call → Reply) (rule : IsRule front reply) where
  -- a member after a call was one before it, or the call brought it in
  member-after_call :
      (all : List Point) (call : Call) (p : Point) → In p (front (all ++ submitted_by call))
      → In p (front all) ⊎ In p (accepted_by call (reply all call))
  member-after_call all (Update q) p there = split (cases_Bool (is_accepting (Update q) (reply all (Update q))))
    where
      old_or_new :
          In p (front all) ⊎ In p (q ∷ []) → accepted_by (Update q) (reply all (Update q)) ≡ q ∷ []
          → In p (front all) ⊎ In p (accepted_by (Update q) (reply all (Update q)))
      old_or_new (inl old) points = inl old
      old_or_new (inr new) points = inr (subst (In p) (sym points) new)

      split :
          (is_accepting (Update q) (reply all (Update q)) ≡ true) ⊎ (is_accepting (Update q) (reply all (Update q)) ≡ false)
          → In p (front all) ⊎ In p (accepted_by (Update q) (reply all (Update q)))
      split (inl accepted) =
          old_or_new (In-append p (front all) (q ∷ []) (rule.members_submitted (front all ++ q ∷ []) p (subst (In p) (rule.grows all q) there)))
          (accepted_update q (reply all (Update q)) accepted)
      split (inr refused) = inl (subst (In p) (rule.unaccepting all (Update q) refused) there)
  member-after_call all (Covered v) p there = inl (subst (In p) (rule.unaccepting all (Covered v) refl) there)
  member-after_call all (Member v) p there = inl (subst (In p) (rule.unaccepting all (Member v) refl) there)
  member-after_call all Snapshot p there = inl (subst (In p) (rule.unaccepting all Snapshot refl) there)

  module _ (history : List Entry) (e : Entry) (due : e ≡ next_entry reply e.caller history e.call) where
    submissions-with_entry : submissions (history ++ e ∷ []) ≡ submissions history ++ submitted_by e.call
    submissions-with_entry = ap (λ (d : Entry). submissions (history ++ d ∷ [])) due ∙ submissions-with_call reply e.caller history e.call

    member-after_entry :
        (p : Point) → In p (front (submissions (history ++ e ∷ []))) → In p (front (submissions history)) ⊎ In p (accepted_by e.call e.reply)
    member-after_entry p there =
        subst (λ (answer : Reply). In p (front (submissions history)) ⊎ In p (accepted_by e.call answer)) (sym (ap (λ (d : Entry). d.reply) due))
        (member-after_call (submissions history) e.call p (subst (λ (all : List Point). In p (front all)) submissions-with_entry there))

    brought_in : (later : List Entry) (p : Point) → In p (accepted_by e.call e.reply) → IsBroughtIn history (e ∷ later) p
    brought_in later p here =
        let t : Task = record { point = p; stamp = e.stamp } in
        record {
          task = t;
          there = In-left t (tasks_by e) (tasks later) (In-map (λ q. record { point = q; stamp = e.stamp }) p (accepted_by e.call e.reply) here);
          is = refl;
          stamped =
              let counts = ap (λ (d : Entry). d.stamp) due in
              let accepted : one_if (is_accepting e.call (reply (submissions history) e.call)) ≡ 1 =
              ap (λ (d : Entry). one_if (is_accepting e.call d.reply)) (sym due) ∙ ap one_if (accepting-In e.call e.reply p here) in
              omega arith;
        }

    -- what is brought in later is so after this entry, too
    brought_in-later : (later : List Entry) (p : Point) → IsBroughtIn (history ++ e ∷ []) later p → IsBroughtIn history (e ∷ later) p
    brought_in-later later p b = record {
      task = b.task;
      there = In-right b.task (tasks_by e) (tasks later) b.there;
      is = b.is;
      stamped =
          let longer = length-accepting history (e ∷ []) in
          let after = b.stamped in
          omega arith;
    }

    -- an entry that is not accepting changes no member
    front-unaccepted : accepts e ≡ false → front (submissions (history ++ e ∷ [])) ≡ front (submissions history)
    front-unaccepted not_accepted =
        ap front submissions-with_entry
        ∙ rule.unaccepting (submissions history) e.call (ap (λ (d : Entry). is_accepting e.call d.reply) (sym due) ∙ not_accepted)

  -- a member after legal entries was one before them, or one of them brought it in
  pub comes_from :
      (history later : List Entry) → ContinuesLegally reply history later → (p : Point)
      → In p (front (submissions (history ++ later))) → In p (front (submissions history)) ⊎ IsBroughtIn history later p
  comes_from history [] legal p there = inl (subst (λ (es : List Entry). In p (front (submissions es))) (append-nil history) there)
  comes_from history (e ∷ later) legal p there =
      let same = sym (append_assoc history (e ∷ []) later) in
      before_or_later (comes_from (history ++ e ∷ []) later legal.1 p (subst (λ (es : List Entry). In p (front (submissions es))) same there))
    where
      before_or_here :
          In p (front (submissions history)) ⊎ In p (accepted_by e.call e.reply)
          → In p (front (submissions history)) ⊎ IsBroughtIn history (e ∷ later) p
      before_or_here (inl before) = inl before
      before_or_here (inr here) = inr (brought_in history e legal.0 later p here)

      before_or_later :
          In p (front (submissions (history ++ e ∷ []))) ⊎ IsBroughtIn (history ++ e ∷ []) later p
          → In p (front (submissions history)) ⊎ IsBroughtIn history (e ∷ later) p
      before_or_later (inl by_now) = before_or_here (member-after_entry history e legal.0 p by_now)
      before_or_later (inr after) = inr (brought_in-later history e legal.0 later p after)

  -- entries of which none is accepting change no member
  pub front-all_unaccepted :
      (history later : List Entry) → ContinuesLegally reply history later → how_many accepts later ≡ 0
      → front (submissions (history ++ later)) ≡ front (submissions history)
  front-all_unaccepted history [] legal none = ap (λ (es : List Entry). front (submissions es)) (append-nil history)
  front-all_unaccepted history (e ∷ later) legal none =
      ap (λ (es : List Entry). front (submissions es)) (sym (append_assoc history (e ∷ []) later))
      ∙ (front-all_unaccepted (history ++ e ∷ []) later legal.1 (omega arith)
      ∙ front-unaccepted history e legal.0 (not_one (accepts e) (omega arith)))
    where
      not_one : (b : Bool) → one_if b ≡ 0 → b ≡ false
      not_one true none = cc
      not_one false none = refl
