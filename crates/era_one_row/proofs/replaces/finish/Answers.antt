use Rattle.std.proofs.Common.{◌≡◌, ℕ, ◌+◌, true, [], ◌∷◌, length, refl, sym, ap, subst, ◌∙◌}
use Rattle.std.proofs.lemmas.Result.{IfOk-weaker, IfErr-weaker}
use Rattle.std.proofs.lemmas.Bool.{true≢false}
use Rattle.std.proofs.lemmas.Option.{none-some}
use Rattle.era_core.specs.Lists.{In, without}
use Rattle.era_rows.specs.Lists.{add_entry}
use Rattle.era_rows.specs.Known.{Known, copy_known, leaving}
use Rattle.era_rows.specs.Passes.{known_of, knows_of, seen_of, lists_of, giving_back}
use Rattle.era_rows.specs.declared.views.Knows.{Knows}
use Rattle.era_one_row.specs.OneRow.{IsOneRow}
use Rattle.era_one_row.specs.Ready.{stamped}
use Rattle.era_one_row.specs.declared.law.Stamped.{Stamped}
use Rattle.era_one_row.proofs.Replacing.{is_replaced, may_replace}
use Rattle.era_one_row.proofs.Finishing.{if_err, Ends, still_pinned, has_published, lists_left, fresh_left, is_beaten, is_spent, goes_on, pin_is_same, takes-published}
use Rattle.era_one_row.proofs.Counting.{takes_as}
use Rattle.era_one_row.proofs.GoingOn.{goes_as}
use mathlib.Core.Option.{some}
use lib.ListN.{get_elem?}
use Rattle.era_one_row.proofs.replaces.finish.Goals as goal
use Rattle.era_one_row.proofs.replaces.finish.Goals.{then-is_err, else-is_err, After-publish-published}

pub publish-published-requires-clause-may : goal.publish-published-requires-clause-may
publish-published-requires-clause-may c = (
  c.args.pin.0,
  c.args.pin.1,
  _,
  refl,
  may_replace (knows_of c.args.pass.now) c.args.pin.0 c.args.pin.1 c.args.row c.number.result c.requires.no_links c.requires.pinned c.requires.fresh c.number.ensures.known,
)

pub publish-published-requires-clause-marks : goal.publish-published-requires-clause-marks
publish-published-requires-clause-marks c = is_replaced (known_of c.args.pass.now) c.args.row c.requires.no_links c.args.pin.1 _ c.requires.alone c.requires.unread c.requires.marked

-- the publication ended as its contract says
ended : (c : After-publish-published)
    → Ends (λ (e : Stamped). e.caller) (λ e. e.stamp) (λ _ _. true) (λ _ c. IsOneRow c) (λ _ _ _. Unit {0}) (λ _ _ _. Unit {0}) c.args.pin.0 c.args.pin.1 c.args.row (stamped c.number.result (c.args.pin.0 + 1))
    (knows_of c.args.pass.now) (knows_of c.publish-published.new.pass) c.publish-published.result
ended c = c.publish-published.ensures.published c.args.pin.0 c.args.pin.1 (stamped c.number.result (c.args.pin.0 + 1)) c.requires.pinned refl

pub give_back-requires-clause-fresh : goal.give_back-requires-clause-fresh
give_back-requires-clause-fresh c =
    let same = fresh_left _ _ _ _ _ _ _ _ _ _ _ _ _ (sym c.is_err.ensures.value ∙ c.if-is_err.true) (ended (goal.at.give_back-requires-clause-fresh c).After-publish-published) in
    subst (In c.args.row) (sym same) c.requires.fresh

pub unpin-requires-clause-may : goal.unpin-requires-clause-may
unpin-requires-clause-may c =
    let pinned = still_pinned _ _ _ _ _ _ _ _ _ _ _ _ _ (ended (goal.at.unpin-requires-clause-may c).After-publish-published) in
    let same : (known_of c.if-is_err.pass).core.pinned ≡ (known_of c.publish-published.new.pass).core.pinned =
    elim c.if-is_err.branch [
      | then-is_err w ↦ ap (λ p. (known_of p).core.pinned) w.pass-is ∙ ap (λ (k : Known). k.core.pinned) w.give_back.ensures.freed
      | else-is_err w ↦ ap (λ p. (known_of p).core.pinned) w.pass-is
    ] in
    (c.args.pin.0, c.args.pin.1, same ∙ pinned ∙ c.requires.pinned, λ e none. absurd (none-some e none))

-- giving the row back and leaving the version change no list, and no copy that is known
same_lists : (c : goal.After-unpin) → lists_of c.unpin.new.pass ≡ lists_of c.publish-published.new.pass
same_lists c = ap (λ (k : Knows Stamped). k.lists) c.unpin.ensures.left ∙ elim c.if-is_err.branch [
  | then-is_err w ↦ ap (λ p. lists_of p) w.pass-is ∙ w.give_back.ensures.same.same_lists
  | else-is_err w ↦ ap (λ p. lists_of p) w.pass-is
]

same_part : {X : Type 0} (part : Known → X) → ((k : Known) → part (leaving k) ≡ part k) → ((r : ℕ) (k : Known) → part (giving_back r k) ≡ part k)
    → (c : goal.After-unpin) → part (known_of c.unpin.new.pass) ≡ part (known_of c.publish-published.new.pass)
same_part part left given c = ap (λ (k : Knows Stamped). part k.view) c.unpin.ensures.left ∙ left (known_of c.if-is_err.pass) ∙ elim c.if-is_err.branch [
  | then-is_err w ↦ ap (λ p. part (known_of p)) w.pass-is ∙ ap part w.give_back.ensures.freed ∙ given c.args.row (known_of c.publish-published.new.pass)
  | else-is_err w ↦ ap (λ p. part (known_of p)) w.pass-is
]

same_copies : (c : goal.After-unpin) → (known_of c.unpin.new.pass).copies ≡ (known_of c.publish-published.new.pass).copies
same_copies = same_part (λ k. k.copies) (λ _. refl) (λ _ _. refl)

same_seen : (c : goal.After-unpin) → seen_of c.unpin.new.pass ≡ seen_of c.publish-published.new.pass
same_seen c = ap (λ (k : Knows Stamped). k.seen) c.unpin.ensures.left ∙ elim c.if-is_err.branch [
  | then-is_err w ↦ ap (λ p. seen_of p) w.pass-is ∙ w.give_back.ensures.same.same_seen
  | else-is_err w ↦ ap (λ p. seen_of p) w.pass-is
]

pub returns-clause-version : goal.returns-clause-version
returns-clause-version c =
    IfOk-weaker c.publish-published.result _ (λ v. v ≡ c.args.pin.0 + 1) (λ v told. told.0) (has_published _ _ _ _ _ _ _ _ _ _ _ _ _ (ended (goal.at.returns-clause-version c).After-publish-published))

pub returns-clause-entry : goal.returns-clause-entry
returns-clause-entry c =
    let number = c.args.pass.now.number in
    IfOk-weaker c.publish-published.result _ (λ v. lists_of c.unpin.new.pass ≡ add_entry number (stamped number v) (lists_of c.args.pass.now))
    (λ v told. same_lists c ∙ told.1 ∙ ap (λ (x : ℕ). add_entry x (stamped x (c.args.pin.0 + 1)) (lists_of c.args.pass.now)) c.number.ensures.number
    ∙ ap (λ (x : ℕ). add_entry number (stamped number x) (lists_of c.args.pass.now)) (sym told.0))
    (has_published _ _ _ _ _ _ _ _ _ _ _ _ _ (ended (goal.at.returns-clause-entry c).After-publish-published))

pub returns-clause-copy : goal.returns-clause-copy
returns-clause-copy c =
    IfOk-weaker c.publish-published.result _ (λ v. get_elem? (known_of c.unpin.new.pass).copies v ≡ some (copy_known (known_of c.args.pass.now) c.args.row))
    (λ v told. ap (λ xs. get_elem? xs v) (same_copies c) ∙ told.2) (has_published _ _ _ _ _ _ _ _ _ _ _ _ _ (ended (goal.at.returns-clause-copy c).After-publish-published))

pub returns-clause-refused : goal.returns-clause-refused
returns-clause-refused c =
    IfErr-weaker c.publish-published.result _ (λ _. lists_of c.unpin.new.pass ≡ lists_of c.args.pass.now) (λ _ same. same_lists c ∙ same)
    (lists_left _ _ _ _ _ _ _ _ _ _ _ _ _ (ended (goal.at.returns-clause-refused c).After-publish-published))

pub returns-clause-given_back : goal.returns-clause-given_back
returns-clause-given_back c = if_err c.publish-published.result ((known_of c.unpin.new.pass).core.fresh ≡ without (c.args.row ∷ []) (known_of c.args.pass.now).core.fresh) (λ refused.
    let left = fresh_left _ _ _ _ _ _ _ _ _ _ _ _ _ refused (ended (goal.at.returns-clause-given_back c).After-publish-published) in
    ap (λ (k : Knows Stamped). k.view.core.fresh) c.unpin.ensures.left ∙ elim c.if-is_err.branch [
      | then-is_err w ↦ ap (λ p. (known_of p).core.fresh) w.pass-is ∙ ap (λ (k : Known). k.core.fresh) w.give_back.ensures.freed ∙ ap (without (c.args.row ∷ [])) left
      | else-is_err w ↦ absurd (true≢false (sym refused ∙ sym c.is_err.ensures.value ∙ w.if-is_err.false))
    ])

pub returns-clause-beaten : goal.returns-clause-beaten
returns-clause-beaten c v is =
    let told = is_beaten _ _ _ _ _ _ _ _ _ _ _ _ _ (ended (goal.at.returns-clause-beaten c).After-publish-published) c.requires.pinned v is in
    (told.0, told.1 ∙ ap length (sym (same_seen c)))

pub returns-clause-spent : goal.returns-clause-spent
returns-clause-spent c is =
    let told = is_spent _ _ _ _ _ _ _ _ _ _ _ _ _ (ended (goal.at.returns-clause-spent c).After-publish-published) is in
    (told.0, ap length (same_seen c ∙ told.1) ∙ c.requires.current)

pub returns-clause-on : goal.returns-clause-on
returns-clause-on c =
    let on = goes_on _ _ _ _ _ _ _ _ _ _ _ _ _ (ended (goal.at.returns-clause-on c).After-publish-published) in
    goes_as (known_of c.args.pass.now) (known_of c.publish-published.new.pass) (known_of c.unpin.new.pass) on (same_part (λ k. k.looks) (λ _. refl) (λ _ _. refl) c) (same_part (λ k. k.core.retired) (λ _. refl) (λ _ _. refl) c)

pub returns-clause-same_pin : goal.returns-clause-same_pin
returns-clause-same_pin c =
    same_part (λ k. k.since) (λ _. refl) (λ _ _. refl) c ∙ pin_is_same _ _ _ _ _ _ _ _ _ _ _ _ _ (ended (goal.at.returns-clause-same_pin c).After-publish-published)

pub returns-clause-takes : goal.returns-clause-takes
returns-clause-takes c =
    let rows = c.args.rows.now in
    let sized = c.requires.is_pass.sized in
    takes_as rows.passes rows.rows 0 (known_of c.args.pass.now) (known_of c.publish-published.new.pass) (known_of c.unpin.new.pass)
    (takes-published _ _ _ _ _ _ _ _ _ _ _ _ rows.passes rows.rows sized.passes_are sized.rows_are _ (ended (goal.at.returns-clause-takes c).After-publish-published))
    (same_part (λ k. k.looks) (λ _. refl) (λ _ _. refl) c)
