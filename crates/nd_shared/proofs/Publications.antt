-- What a publication of the shared tree is to the view of its pass, by its answer.
use Rattle.std.proofs.Common.{◌≡◌, ℕ, ◌+◌, ◌≤◌, Some, true, [], ◌∷◌, length, refl, sym, ap, subst, ◌∙◌, arith, append-nil}
use Rattle.std.specs.Prelude.{Result, Ok, Err}
use Rattle.std.proofs.lemmas.List.{take_all}
use Rattle.era_core.specs.declared.sizes.TheConstants.{LAST_VERSION}
use Rattle.era_rows.specs.Known.{Known}
use Rattle.era_rows.specs.Lists.{add_entry}
use Rattle.era_rows.specs.Passes.{known_of, knows_of, seen_of, lists_of, IsPassOf}
use Rattle.era_rows.specs.declared.views.Knows.{Knows}
use Rattle.era_rows.specs.declared.pass.Pass.{Pass}
use Rattle.era_rows.specs.declared.rows.Rows.{Rows}
use Rattle.era_rows.specs.declared.law.Law.{Ghosts}
use Rattle.era_rows.specs.declared.refusal.PublishRefusal.{PublishRefusal}
use Rattle.era_rows.specs.declared.refusal.PublishRefusal.TheVariants.{Beaten, Spent}
use Rattle.era_one_row.specs.Ready.{HasPinned, IsBeaten}
use Rattle.era_one_row.proofs.Finishing.{Ends, still_pinned, lists_left, is_beaten, goes_on, pin_is_same}
use Rattle.era_one_row.proofs.GoingOn.{begins_twice, pin_stays}
use Rattle.pls_archive.specs.declared.call.Call.TheVariants.{Update}
use Rattle.pls_archive.specs.declared.call.Reply.TheVariants.{Added}
use Rattle.pls_archive.specs.declared.call.Entry.{Entry}
use Rattle.pls_archive.specs.declared.point.Point.{Point}
use Rattle.pls_archive.specs.History.{accepts, submissions}
use Rattle.pls_archive.specs.Lists.{IsPrefix}
use Rattle.pls_archive.specs.Reply.{nondominated}
use Rattle.pls_archive.specs.Rule.{is_accepting}
use Rattle.pls_archive.specs.SharedCalls.{Answers, IsRefused}
use Rattle.pls_archive.specs.View.{IsConsistent}
use Rattle.nd_rows.specs.Entries.{IsRight, added as entry_added}
use Rattle.nd_rows.specs.Layout.{IsLawful, StandsFor}
use Rattle.nd_update.specs.declared.builds.Built.{Built}
use Rattle.nd_update.proofs.Published.{none_fresh}
use Rattle.nd_shared.specs.Views.{AreListed, BuildsAt, HasEvidence, view_of}
use Rattle.nd_shared.proofs.Recorded.{evidence_kept}
use Rattle.nd_shared.proofs.Telling.{lists_told, added, kept}

-- a publication ends so, under the law of ND-trees
abbrev pub Closes : ℕ → ℕ → ℕ → Entry → Knows Entry → Knows Entry → Result ℕ PublishRefusal → Type 0
Closes n root q e before after answer =
    Ends (λ (e : Entry). e.caller) (λ e. e.stamp) (λ _ e. accepts e) (λ d c. IsLawful d c) (λ d c entries. StandsFor d c entries) (λ d e entries. IsRight d e entries) n root q e before after answer

-- the pass has seen no less
seen_more : (n root q : ℕ) (e : Entry) (before after : Knows Entry) (answer : Result ℕ PublishRefusal) → Closes n root q e before after answer → IsPrefix before.seen after.seen
seen_more n root q e before after (Ok v) done = (e ∷ [], sym (ap (λ (k : Knows Entry). k.seen) done.2.2.now))
seen_more n root q e before after (Err (Beaten v)) done = done.1.2.2.learns.seen_more
seen_more n root q e before after (Err Spent) done = ([], append-nil before.seen ∙ sym (ap (λ (k : Knows Entry). k.seen) done.1))

-- what it has recorded is the same
full_left : (n root q : ℕ) (e : Entry) (before after : Knows Entry) (answer : Result ℕ PublishRefusal) → Closes n root q e before after answer → after.view.full ≡ before.view.full
full_left n root q e before after (Ok v) done = ap (λ (k : Knows Entry). k.view.full) done.2.2.now ∙ ap (λ (k : Known). k.full) done.2.1.now
full_left n root q e before after (Err (Beaten v)) done = ap (λ (k : Known). k.full) done.1.2.2.view_is ∙ ap (λ (k : Known). k.full) done.1.2.1.now
full_left n root q e before after (Err Spent) done = ap (λ (k : Knows Entry). k.view.full) done.1

module _ {L : Type 0} {G : Ghosts L Entry} (r : Rows L Entry) (n : ℕ) (point : Point) (built : Built) (p q s : Pass L Entry G) (builds : BuildsAt r n point built p q) (number : s.number ≡ q.number)
    (m : ℕ) (mine : m ≡ q.number) where
  abbrev entry : Entry
  entry = entry_added m (n + 1) point built.removed

  abbrev pub Ended : Result ℕ PublishRefusal → Type 0
  Ended answer = Closes n builds.publishable.root built.root entry (knows_of q) (knows_of s) answer

  pub pinned : (answer : Result ℕ PublishRefusal) → Ended answer → (known_of s).core.pinned ≡ Some (n, builds.publishable.root)
  pinned answer done = still_pinned _ _ _ _ _ _ _ _ _ _ _ _ answer done ∙ builds.publishable.may.pinned

  -- what is recorded is the same
  pub same_full : (answer : Result ℕ PublishRefusal) → Ended answer → (known_of s).full ≡ (known_of q).full
  same_full answer done = full_left n builds.publishable.root built.root entry (knows_of q) (knows_of s) answer done

  pub short : (answer : Result ℕ PublishRefusal) → IsPassOf r s → Ended answer → HasEvidence (known_of s)
  short answer is_pass done = evidence_kept r q s builds.is_pass is_pass (same_full answer done) builds.short

  -- the version that is current is later than the one that was pinned since b, also for a pass that found more since
  pub beaten : (v : ℕ) → Ended (Err (Beaten v)) → (b u : Pass L Entry G) → HasPinned n (known_of b) (known_of q) → seen_of u ≡ seen_of s → IsPrefix (known_of s).looks (known_of u).looks → (known_of u).since ≡ (known_of s).since
      → IsBeaten v b u
  beaten v done b u pinned_since seen looked since =
      let late = is_beaten _ _ _ _ _ _ n builds.publishable.root built.root entry (knows_of q) (knows_of s) (Err (Beaten v)) done builds.publishable.may.pinned v refl in
      let goes = goes_on _ _ _ _ _ _ n builds.publishable.root built.root entry (knows_of q) (knows_of s) (Err (Beaten v)) done in
      record {
        current = late.1 ∙ ap length (sym seen);
        pin = n;
        pinned = pin_stays n (known_of b) (known_of q) (known_of u) pinned_since (begins_twice (known_of q).looks (known_of s).looks (known_of u).looks goes.looked looked) (since ∙ pin_is_same _ _ _ _ _ _ n builds.publishable.root built.root entry (knows_of q) (knows_of s) (Err (Beaten v)) done);
        later = late.0;
      }

  -- the version was the last of all, and the point is one that would be brought in
  pub spent : Ended (Err Spent) → (length (seen_of s) ≡ LAST_VERSION) × (is_accepting (Update point) (nondominated (submissions (seen_of s)) (Update point)) ≡ true)
  spent done =
      let same : seen_of s ≡ seen_of q = ap (λ (k : Knows Entry). k.seen) done.1 in
      let all = builds.all in
      let whole = take_all n (seen_of q) (omega arith) in (
        ap length same ∙ all ∙ done.0,
        ap (λ es. is_accepting (Update point) (nondominated (submissions es) (Update point))) (same ∙ sym whole) ∙ ap (is_accepting (Update point)) (sym builds.publishable.may.is_right.due),
      )

  module _ (v : ℕ) (done : Ended (Ok v)) where
    pub low : v ≤ LAST_VERSION
    low = let below = done.0 in let next = done.1 in omega arith

    pub no_fresh : (known_of s).core.fresh ≡ []
    no_fresh = none_fresh _ _ _ _ _ _ _ _ _ _ _ _ v done builds.publishable.used

    adds : lists_of s ≡ add_entry m entry (lists_of q)
    adds = ap (λ (k : Knows Entry). k.lists) done.2.2.now

    pub listed : AreListed s.number (lists_of s)
    listed = lists_told r p q s builds.observes_more number m (n + 1) (Update point) (Added built.removed) mine builds.listed adds

    pub answers : (u : Pass L Entry G) → u.number ≡ s.number → seen_of u ≡ seen_of s → lists_of u ≡ lists_of s → IsConsistent nondominated r.passes (view_of u)
        → Answers nondominated r.passes (view_of p) (Update point) (Added built.removed) v (view_of u)
    answers u same seen lists sound =
        let long = builds.all in
        let whole = take_all n (seen_of q) (omega arith) in
        subst (λ x. Answers nondominated r.passes (view_of p) (Update point) (Added built.removed) x (view_of u)) (sym done.1)
        (added r p q u builds.observes_more (same ∙ number) m (n + 1) (Update point) (Added built.removed) mine builds.listed (lists ∙ adds)
        (builds.publishable.may.is_right.due ∙ ap (λ es. nondominated (submissions es) (Update point)) whole) (let e : n + 1 ≡ length (seen_of q) + 1 = omega arith in e) refl
        (seen ∙ ap (λ (k : Knows Entry). k.seen) done.2.2.now) sound)

  module _ (refusal : PublishRefusal) (done : Ended (Err refusal)) where
    pub lists_same : lists_of s ≡ lists_of q
    lists_same =
        lists_left (λ (e : Entry). e.caller) (λ e. e.stamp) (λ _ e. accepts e) (λ d c. IsLawful d c) (λ d c entries. StandsFor d c entries) (λ d e entries. IsRight d e entries) n builds.publishable.root built.root entry (knows_of q) (knows_of s)
        (Err refusal) done

    pub refused : (u : Pass L Entry G) → u.number ≡ s.number → seen_of u ≡ seen_of s → lists_of u ≡ lists_of s → IsConsistent nondominated r.passes (view_of u) → IsRefused nondominated r.passes (view_of p) (view_of u)
    refused u same seen lists sound =
        kept r p q u builds.observes_more (same ∙ number) (subst (IsPrefix (seen_of q)) (sym seen) (seen_more n builds.publishable.root built.root entry (knows_of q) (knows_of s) (Err refusal) done)) (lists ∙ lists_same) sound
