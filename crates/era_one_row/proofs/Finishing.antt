-- What a publication leaves, by its answer.
use Rattle.std.proofs.Common.{◌≡◌, ℕ, ◌+◌, ◌<◌, Bool, true, Some, refl, subst, List, [], ◌∷◌, ◌++◌, length, sym, ap, ◌∙◌, arith, append-nil, length-append}
use Rattle.std.specs.Prelude.{Result, Ok, Err, IfOk, IfErr, is_err}
use Rattle.std.proofs.lemmas.Bool.{true≢false}
use Rattle.era_core.specs.declared.sizes.TheConstants.{LAST_VERSION}
use Rattle.era_core.specs.Lists.{without}
use Rattle.era_core.specs.Words.{root_word}
use Rattle.era_core.specs.Views.{batch_of}
use Rattle.era_core.specs.Versions.{Copy}
use Rattle.era_core.proofs.ListFacts.{at_end}
use Rattle.era_rows.specs.Known.{Known, pinned_copy, copy_known}
use Rattle.era_rows.specs.Lists.{add_entry}
use Rattle.era_rows.specs.Passes.{HasRead, Publication}
use Rattle.era_rows.specs.Plays.{Publishes}
use Rattle.era_rows.specs.Rule.{knowing}
use Rattle.era_rows.specs.declared.views.Knows.{Knows}
use Rattle.era_rows.specs.declared.refusal.PublishRefusal.{PublishRefusal}
use Rattle.era_rows.specs.declared.refusal.PublishRefusal.TheVariants.{Beaten, Spent}
use Rattle.era_one_row.specs.Ready.{GoesOn}
use Rattle.era_one_row.specs.Finding.{TakesAtMost}
use Rattle.era_one_row.proofs.GoingOn.{goes_twice, read_goes}
use Rattle.era_one_row.proofs.Counting.{takes_of, takes-exchanged}
use mathlib.Core.Option.{some}
use lib.ListN.{get_elem?}

-- what holds after a refusal
pub if_err : (answer : Result ℕ PublishRefusal) (X : Type 0) → (is_err answer ≡ true → X) → IfErr answer (λ _. X)
if_err (Ok v) X holds = tt
if_err (Err x) X holds = holds refl

module _ {E : Type 0} (caller stamp : E → ℕ) (accepted : ℕ → E → Bool) (lawful : ℕ → Copy → Type 0) (stands : ℕ → Copy → List E → Type 0) (right : ℕ → E → List E → Type 0)
    (n p q : ℕ) (e : E) (before after : Knows E) where
  abbrev pub Ends : Result ℕ PublishRefusal → Type 0
  Ends answer = Publication caller stamp accepted lawful stands right n p q e before after answer

  -- the pass has pinned what it had
  pub still_pinned : (answer : Result ℕ PublishRefusal) → Ends answer → after.view.core.pinned ≡ before.view.core.pinned
  still_pinned (Ok v) done = ap (λ (k : Knows E). k.view.core.pinned) done.2.2.now ∙ ap (λ (k : Known). k.core.pinned) done.2.1.now
  still_pinned (Err (Beaten v)) done = ap (λ (k : Known). k.core.pinned) done.1.2.2.view_is ∙ ap (λ (k : Known). k.core.pinned) done.1.2.1.now
  still_pinned (Err Spent) done = ap (λ (k : Knows E). k.view.core.pinned) done.1

  -- after a publication its lists have the entry, and the tree is the copy of the new version
  pub has_published : (answer : Result ℕ PublishRefusal) → Ends answer
      → IfOk answer (λ v. (v ≡ n + 1) × (after.lists ≡ add_entry (caller e) e before.lists) × (get_elem? after.view.copies v ≡ some (copy_known before.view q)))
  has_published (Err x) done = tt
  has_published (Ok v) done = (done.1, ap (λ (k : Knows E). k.lists) done.2.2.now, there done.2.0 done.2.1 done.2.2)
    where
      there : (mid : Known) → HasRead before.view mid → Publishes caller stamp accepted lawful stands right n p q e (knowing before.seen before.lists mid) after
          → get_elem? after.view.copies v ≡ some (copy_known before.view q)
      there mid read won =
          let copies : after.view.copies ≡ mid.copies ++ copy_known mid q ∷ [] = ap (λ (k : Knows E). k.view.copies) won.now in
          let seen : after.seen ≡ before.seen ++ e ∷ [] = ap (λ (k : Knows E). k.seen) won.now in
          let last : length mid.copies ≡ v =
          (let paired = won.consistent.paired in let all = won.seen_all in let version = done.1 in
          let more = ap length copies ∙ length-append mid.copies (copy_known mid q ∷ []) in let longer = ap length seen ∙ length-append before.seen (e ∷ []) in omega arith) in
          ap (λ xs. get_elem? xs v) copies ∙ ap (get_elem? (mid.copies ++ copy_known mid q ∷ [])) (sym last) ∙ at_end mid.copies (copy_known mid q) ∙ ap (λ k. some (copy_known k q)) read.now

  -- after a refusal it has the lists and the fresh rows that it had
  pub lists_left : (answer : Result ℕ PublishRefusal) → Ends answer → IfErr answer (λ _. after.lists ≡ before.lists)
  lists_left (Ok v) done = tt
  lists_left (Err (Beaten v)) done = done.1.2.2.learns.same_lists
  lists_left (Err Spent) done = ap (λ (k : Knows E). k.lists) done.1

  pub fresh_left : (answer : Result ℕ PublishRefusal) → is_err answer ≡ true → Ends answer → after.view.core.fresh ≡ before.view.core.fresh
  fresh_left (Ok v) refused done = absurd (true≢false (sym refused))
  fresh_left (Err (Beaten v)) refused done = ap (λ (k : Known). k.core.fresh) done.1.2.2.view_is ∙ ap (λ (k : Known). k.core.fresh) done.1.2.1.now
  fresh_left (Err Spent) refused done = ap (λ (k : Knows E). k.view.core.fresh) done.1

  -- the version that was published before is later than the pinned one, and the pass has seen its entries
  pub is_beaten : (answer : Result ℕ PublishRefusal) → Ends answer → before.view.core.pinned ≡ Some (n, p) → (v : ℕ) → answer ≡ Err (Beaten v) → (n < v) × (v ≡ length after.seen)
  is_beaten answer done pinned v is =
      let lost : Ends (Err (Beaten v)) = subst Ends is done in
      let later = lost.1.2.2.later n p (ap (λ (k : Known). k.core.pinned) lost.1.2.1.now ∙ pinned) in
      let version = lost.1.1 in let all = lost.1.2.2.learns.seen_all in
      (omega arith, omega arith)

  -- only the last version of all is spent, and the pass has seen what it had
  pub is_spent : (answer : Result ℕ PublishRefusal) → Ends answer → answer ≡ Err Spent → (n ≡ LAST_VERSION) × (after.seen ≡ before.seen)
  is_spent answer done is = let spent : Ends (Err Spent) = subst Ends is done in (spent.0, ap (λ (k : Knows E). k.seen) spent.1)

  -- the pass knows what it knew, and its last pin is the one that it was
  pub goes_on : (answer : Result ℕ PublishRefusal) → Ends answer → GoesOn before.view after.view
  goes_on (Ok v) done =
      let mid = done.2.0 in
      goes_twice before.view mid after.view (read_goes before.view mid done.2.1) (record {
        looked = ((0, root_word n p) ∷ [], sym (ap (λ (k : Knows E). k.view.looks) done.2.2.now));
        kept = (batch_of n (without (copy_known mid q).rows (pinned_copy mid).rows), sym (ap (λ (k : Knows E). k.view.core.retired) done.2.2.now));
      })
  goes_on (Err (Beaten v)) done =
      let mid = done.1.2.0 in
      goes_twice before.view mid after.view (read_goes before.view mid done.1.2.1) (record {
        looked = ((0, done.1.0) ∷ [], sym (ap (λ (k : Known). k.looks) done.1.2.2.view_is));
        kept = ([], append-nil mid.core.retired ∙ sym (ap (λ (k : Known). k.core.retired) done.1.2.2.view_is));
      })
  goes_on (Err Spent) done = subst (λ (k : Knows E). GoesOn before.view k.view) (sym done.1) (record { looked = ([], append-nil before.view.looks); kept = ([], append-nil before.view.core.retired) })

  pub pin_is_same : (answer : Result ℕ PublishRefusal) → Ends answer → after.view.since ≡ before.view.since
  pin_is_same (Ok v) done = ap (λ (k : Knows E). k.view.since) done.2.2.now ∙ ap (λ (k : Known). k.since) done.2.1.now
  pin_is_same (Err (Beaten v)) done = ap (λ (k : Known). k.since) done.1.2.2.view_is ∙ ap (λ (k : Known). k.since) done.1.2.1.now
  pin_is_same (Err Spent) done = ap (λ (k : Knows E). k.view.since) done.1

  -- it took no row
  pub takes-published : (passes rows : ℕ) → before.view.passes ≡ passes → before.view.rows ≡ rows → (answer : Result ℕ PublishRefusal) → Ends answer → TakesAtMost passes rows 0 before.view after.view
  takes-published passes rows passes_are rows_are (Ok v) done =
      takes-exchanged passes rows (root_word n p) before.view done.2.0 after.view passes_are rows_are done.2.1 (ap (λ (k : Knows E). k.view.looks) done.2.2.now)
  takes-published passes rows passes_are rows_are (Err (Beaten v)) done =
      takes-exchanged passes rows done.1.0 before.view done.1.2.0 after.view passes_are rows_are done.1.2.1 (ap (λ (k : Known). k.looks) done.1.2.2.view_is)
  takes-published passes rows passes_are rows_are (Err Spent) done =
      takes_of passes rows 0 before.view after.view [] (ap (λ (k : Knows E). k.view.looks) done.1 ∙ sym (append-nil before.view.looks)) (omega arith)
