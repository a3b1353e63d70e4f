-- What an update answers by what its pass has then observed: a point that was answered is covered, and at the last version of all
-- one that is not covered is answered by Spent.
use Rattle.std.proofs.Common.{◌≡◌, ◌≢◌, ◌⊎◌, inl, inr, ℕ, Bool, true, false, if◌then◌else◌, List, [], ◌∷◌, ◌++◌, length, refl, sym, ap, ◌∙◌, arith}
use Rattle.std.specs.Prelude.{Ok, Err, IfOk, take}
use Rattle.std.proofs.lemmas.Bool.{true≢false}
use Rattle.std.proofs.lemmas.List.{take_all}
use Rattle.pls_archive.specs.declared.point.Point.{Point}
use Rattle.pls_archive.specs.declared.call.Entry.{Entry}
use Rattle.pls_archive.specs.declared.call.Call.TheVariants.{Update, Covered}
use Rattle.pls_archive.specs.declared.call.Reply.{Reply}
use Rattle.pls_archive.specs.declared.call.Reply.TheVariants.{Added, Refused, Yes, No, Points}
use Rattle.pls_archive.specs.Archives.{yes_or_no}
use Rattle.pls_archive.specs.History.{submissions}
use Rattle.pls_archive.specs.Lists.{In}
use Rattle.pls_archive.specs.NondominatedRule.{nondominated-IsRule}
use Rattle.pls_archive.specs.Reply.{nondominated, removed_by, some_weakly_dominates}
use Rattle.pls_archive.specs.Rule.{is_accepting, submitted_by}
use Rattle.pls_archive.specs.SharedCalls.{Answers}
use Rattle.pls_archive.specs.View.{View}
use Rattle.pls_archive.proofs.Membership.{In-flat_map}
use Rattle.nd_shared.specs.declared.refusal.TryRefusal.TheVariants.{Full, Spent, Beaten}
use Rattle.nd_shared.proofs.Refusals.{Tried}

-- after these entries the archive would bring the point in
abbrev pub brings_in : List Entry → Point → Bool
brings_in seen p = is_accepting (Update p) (nondominated (submissions seen) (Update p))

at_end : (xs : List Entry) (e : Entry) → In e (xs ++ e ∷ [])
at_end [] e = inl refl
at_end (x ∷ xs) e = inr (at_end xs e)

-- a point that was answered is covered by what is then observed
pub answered : (started : ℕ) (before after : View) (p : Point) (answer : Reply) (stamp : ℕ) → Answers nondominated started before (Update p) answer stamp after → brings_in after.observed p ≡ false
answered started before after p (Added removed) stamp answers =
    let extends = answers.extends in
    let entry : Entry = record { caller = before.number; stamp = stamp; call = Update p; reply = Added removed } in
    let all : List Entry = extends.observes.0 ++ entry ∷ [] in
    ap (λ seen. brings_in seen p) extends.observes.2
    ∙ ap (is_accepting (Update p)) (nondominated-IsRule.same_value (submissions all) p p (In-flat_map (λ (e : Entry). submitted_by e.call) p entry all (at_end extends.observes.0 entry) (inl refl)) refl)
answered started before after p Refused stamp answers = ap (is_accepting (Update p)) (sym answers.extends.observes.1)
answered started before after p Yes stamp answers = ap (is_accepting (Update p)) (sym answers.extends.observes.1)
answered started before after p No stamp answers = ap (is_accepting (Update p)) (sym answers.extends.observes.1)
answered started before after p (Points points) stamp answers = ap (is_accepting (Update p)) (sym answers.extends.observes.1)

-- so where the last version is observed, and the point is not covered, the try was spent, or beaten
pub spent_or_beaten : (answer : Tried) (brought : Bool) → IfOk answer (λ _. brought ≡ false) → answer ≢ Err Full → brought ≡ true → (answer ≡ Err Spent) ⊎ ((v : ℕ) × (answer ≡ Err (Beaten v)))
spent_or_beaten (Ok a) brought covered other is = absurd (true≢false (sym is ∙ covered))
spent_or_beaten (Err Full) brought covered other is = absurd (other refl)
spent_or_beaten (Err Spent) brought covered other is = inl refl
spent_or_beaten (Err (Beaten v)) brought covered other is = inr (v, refl)

-- the reply to a question about the value of a point tells what the archive would reply to the point
by_question : (covered : Bool) (removed : ℕ) (p : Point) → yes_or_no false ≡ yes_or_no covered → is_accepting (Update p) (if covered then Refused else Added removed) ≡ true
by_question true removed p same = absurd (let h : No ≡ Yes = same in cc)
by_question false removed p same = refl

pub uncovered : (seen : List Entry) (n : ℕ) (p : Point) → length seen ≡ n → yes_or_no false ≡ nondominated (submissions (take n seen)) (Covered p.value) → brings_in seen p ≡ true
uncovered seen n p long answer =
    let whole = take_all n seen (omega arith) in
    by_question (some_weakly_dominates (submissions seen) p.value) (removed_by (submissions seen) p) p (answer ∙ ap (λ es. nondominated (submissions es) (Covered p.value)) whole)
