use Rattle.std.proofs.Common.{◌≡◌, ◌+◌, true, refl, sym, subst, ap, ◌∙◌, length}
use Rattle.std.specs.Prelude.{Err}
use Rattle.era_core.specs.declared.sizes.TheConstants.{LAST_VERSION}
use Rattle.era_rows.specs.Known.{Known, pinned_copy}
use Rattle.era_rows.specs.Lists.{IsPrefix}
use Rattle.era_rows.specs.Passes.{knows_of, known_of}
use Rattle.era_one_row.specs.Ready.{IsBeaten}
use Rattle.pls_archive.specs.declared.call.Call.TheVariants.{Update}
use Rattle.pls_archive.specs.declared.call.Reply.TheVariants.{Added}
use Rattle.pls_archive.specs.History.{submissions}
use Rattle.pls_archive.specs.Reply.{nondominated}
use Rattle.pls_archive.specs.Rule.{is_accepting}
use Rattle.pls_archive.specs.SharedCalls.{Answers}
use Rattle.nd_rows.specs.Entries.{added}
use Rattle.nd_shared.specs.Reading.{ReadsNone}
use Rattle.nd_shared.specs.Views.{BuildsAt, view_of}
use Rattle.nd_shared.proofs.Opening.{still_listed}
use Rattle.nd_shared.proofs.Recorded.{evidence_kept}
use Rattle.nd_shared.proofs.Publications.{Ended, pinned, no_fresh, listed, answers, lists_same, refused, same_full, short, low, beaten, spent}
use Rattle.nd_shared.proofs.Reading.{none_published, none_refused, none_ended}
use Rattle.nd_shared.proofs.Refusals.{not_full, same_version}
use Rattle.nd_shared.proofs.tree.Tree.publish.Goals as goal
use Rattle.nd_shared.proofs.tree.Tree.publish.Goals.{After-publish}

-- the publication ended as its contract says
ended : (c : After-publish) (p : _) (builds : BuildsAt c.args.self.now.rows c.args.stamp c.args.point.now c.args.built p c.args.pass.now)
    → Ended c.args.self.now.rows c.args.stamp c.args.point.now c.args.built p c.args.pass.now c.publish.new.pass builds c.publish.ensures.same.same_number c.number.result c.number.ensures.number c.publish.result
ended c p builds =
    c.publish.ensures.published c.args.stamp builds.publishable.root (added c.number.result (c.args.stamp + 1) c.args.point.now c.args.built.removed) builds.publishable.may.pinned refl

-- it found no word of the pinned tree
published : (c : After-publish) → ReadsNone (pinned_copy (known_of c.args.pass.now)).rows (known_of c.args.pass.now) (known_of c.publish.new.pass)
published c =
    let builds = c.requires.built in
    none_published (pinned_copy (known_of c.args.pass.now)).rows c.args.stamp builds.1.publishable.root c.args.built.root (added c.number.result (c.args.stamp + 1) c.args.point.now c.args.built.removed) (knows_of c.args.pass.now) (knows_of c.publish.new.pass) c.publish.result
    c.args.pass.now.tied.tree.unread (ended c builds.0 builds.1)

pub leave-requires-clause-pinned : goal.leave-requires-clause-pinned
leave-requires-clause-pinned c = (c.args.stamp, c.requires.built.1.publishable.root, pinned c.args.self.now.rows c.args.stamp c.args.point.now c.args.built c.requires.built.0 c.args.pass.now c.publish.new.pass c.requires.built.1 c.publish.ensures.same.same_number c.number.result c.number.ensures.number _ (ended (goal.at.leave-requires-clause-pinned c).After-publish c.requires.built.0 c.requires.built.1))

pub leave-requires-clause-no_fresh : goal.leave-requires-clause-no_fresh
leave-requires-clause-no_fresh c = no_fresh c.args.self.now.rows c.args.stamp c.args.point.now c.args.built c.requires.built.0 c.args.pass.now c.publish.new.pass c.requires.built.1 c.publish.ensures.same.same_number c.number.result c.number.ensures.number c.in-Ok.version (subst (Ended c.args.self.now.rows c.args.stamp c.args.point.now c.args.built c.requires.built.0 c.args.pass.now c.publish.new.pass c.requires.built.1 c.publish.ensures.same.same_number c.number.result c.number.ensures.number) c.in-Ok.is (ended (goal.at.leave-requires-clause-no_fresh c).After-publish c.requires.built.0 c.requires.built.1))

pub leave-requires-clause-listed : goal.leave-requires-clause-listed
leave-requires-clause-listed c = listed c.args.self.now.rows c.args.stamp c.args.point.now c.args.built c.requires.built.0 c.args.pass.now c.publish.new.pass c.requires.built.1 c.publish.ensures.same.same_number c.number.result c.number.ensures.number c.in-Ok.version (subst (Ended c.args.self.now.rows c.args.stamp c.args.point.now c.args.built c.requires.built.0 c.args.pass.now c.publish.new.pass c.requires.built.1 c.publish.ensures.same.same_number c.number.result c.number.ensures.number) c.in-Ok.is (ended (goal.at.leave-requires-clause-listed c).After-publish c.requires.built.0 c.requires.built.1))

pub leave-requires-clause-short : goal.leave-requires-clause-short
leave-requires-clause-short c = short c.args.self.now.rows c.args.stamp c.args.point.now c.args.built c.requires.built.0 c.args.pass.now c.publish.new.pass c.requires.built.1 c.publish.ensures.same.same_number c.number.result c.number.ensures.number _ c.publish.ensures.pass (ended (goal.at.leave-requires-clause-short c).After-publish c.requires.built.0 c.requires.built.1)

pub leave-requires-in-Err-clause-pinned : goal.leave-requires-in-Err-clause-pinned
leave-requires-in-Err-clause-pinned c = (c.args.stamp, c.requires.built.1.publishable.root, c.give_all_back.ensures.builds.pinned ∙ pinned c.args.self.now.rows c.args.stamp c.args.point.now c.args.built c.requires.built.0 c.args.pass.now c.publish.new.pass c.requires.built.1 c.publish.ensures.same.same_number c.number.result c.number.ensures.number _ (ended (goal.at.leave-requires-in-Err-clause-pinned c).After-publish c.requires.built.0 c.requires.built.1))

pub leave-requires-in-Err-clause-listed : goal.leave-requires-in-Err-clause-listed
leave-requires-in-Err-clause-listed c = still_listed c.args.pass.now c.give_all_back.new.pass (c.give_all_back.ensures.number ∙ c.publish.ensures.same.same_number) (c.give_all_back.ensures.lists ∙ lists_same c.args.self.now.rows c.args.stamp c.args.point.now c.args.built c.requires.built.0 c.args.pass.now c.publish.new.pass c.requires.built.1 c.publish.ensures.same.same_number c.number.result c.number.ensures.number c.in-Err.refusal (subst (Ended c.args.self.now.rows c.args.stamp c.args.point.now c.args.built c.requires.built.0 c.args.pass.now c.publish.new.pass c.requires.built.1 c.publish.ensures.same.same_number c.number.result c.number.ensures.number) c.in-Err.is (ended (goal.at.leave-requires-in-Err-clause-listed c).After-publish c.requires.built.0 c.requires.built.1))) c.requires.built.1.listed

pub leave-requires-in-Err-clause-short : goal.leave-requires-in-Err-clause-short
leave-requires-in-Err-clause-short c =
    evidence_kept c.args.self.now.rows c.publish.new.pass c.give_all_back.new.pass c.publish.ensures.pass c.give_all_back.ensures.pass c.give_all_back.ensures.full
    (short c.args.self.now.rows c.args.stamp c.args.point.now c.args.built c.requires.built.0 c.args.pass.now c.publish.new.pass c.requires.built.1 c.publish.ensures.same.same_number c.number.result c.number.ensures.number _ c.publish.ensures.pass (ended (goal.at.leave-requires-in-Err-clause-short c).After-publish c.requires.built.0 c.requires.built.1))

pub returns-in-Ok-clause-answers : goal.returns-in-Ok-clause-answers
returns-in-Ok-clause-answers c p builds =
    subst (Answers nondominated c.args.self.now.rows.passes (view_of p) (Update c.args.point.now) (Added c.args.built.removed) c.in-Ok.version) (sym c.free_many.ensures.same)
    (answers c.args.self.now.rows c.args.stamp c.args.point.now c.args.built p c.args.pass.now c.publish.new.pass builds c.publish.ensures.same.same_number c.number.result c.number.ensures.number c.in-Ok.version (subst (Ended c.args.self.now.rows c.args.stamp c.args.point.now c.args.built p c.args.pass.now c.publish.new.pass builds c.publish.ensures.same.same_number c.number.result c.number.ensures.number) c.in-Ok.is (ended (goal.at.returns-in-Ok-clause-answers c).After-publish p builds))
    c.leave.new.pass c.leave.ensures.number c.leave.ensures.seen c.leave.ensures.lists c.leave.ensures.consistent)

pub returns-in-Ok-clause-low : goal.returns-in-Ok-clause-low
returns-in-Ok-clause-low c = low c.args.self.now.rows c.args.stamp c.args.point.now c.args.built c.requires.built.0 c.args.pass.now c.publish.new.pass c.requires.built.1 c.publish.ensures.same.same_number c.number.result c.number.ensures.number c.in-Ok.version (subst (Ended c.args.self.now.rows c.args.stamp c.args.point.now c.args.built c.requires.built.0 c.args.pass.now c.publish.new.pass c.requires.built.1 c.publish.ensures.same.same_number c.number.result c.number.ensures.number) c.in-Ok.is (ended (goal.at.returns-in-Ok-clause-low c).After-publish c.requires.built.0 c.requires.built.1))

pub returns-in-Ok-clause-full : goal.returns-in-Ok-clause-full
returns-in-Ok-clause-full c = (
  not_full _ _ refl refl,
  c.free_many.ensures.full ∙ ap (λ (k : Known). k.full) c.leave.ensures.left ∙ same_full c.args.self.now.rows c.args.stamp c.args.point.now c.args.built c.requires.built.0 c.args.pass.now c.publish.new.pass c.requires.built.1 c.publish.ensures.same.same_number c.number.result c.number.ensures.number _ (ended (goal.at.returns-in-Ok-clause-full c).After-publish c.requires.built.0 c.requires.built.1),
)

pub returns-in-Beaten-clause-full : goal.returns-in-Beaten-clause-full
returns-in-Beaten-clause-full c = (
  not_full _ _ refl refl,
  ap (λ (k : Known). k.full) c.leave-in-Err.ensures.left ∙ c.give_all_back.ensures.full ∙ same_full c.args.self.now.rows c.args.stamp c.args.point.now c.args.built c.requires.built.0 c.args.pass.now c.publish.new.pass c.requires.built.1 c.publish.ensures.same.same_number c.number.result c.number.ensures.number _ (ended (goal.at.returns-in-Beaten-clause-full c).After-publish c.requires.built.0 c.requires.built.1),
)

pub returns-in-Spent-clause-full : goal.returns-in-Spent-clause-full
returns-in-Spent-clause-full c = (
  not_full _ _ refl refl,
  ap (λ (k : Known). k.full) c.leave-in-Err.ensures.left ∙ c.give_all_back.ensures.full ∙ same_full c.args.self.now.rows c.args.stamp c.args.point.now c.args.built c.requires.built.0 c.args.pass.now c.publish.new.pass c.requires.built.1 c.publish.ensures.same.same_number c.number.result c.number.ensures.number _ (ended (goal.at.returns-in-Spent-clause-full c).After-publish c.requires.built.0 c.requires.built.1),
)

pub returns-in-Beaten-clause-beaten : goal.returns-in-Beaten-clause-beaten
returns-in-Beaten-clause-beaten c v is p pinned_since =
    let back = c.give_all_back.ensures in
    let left = c.leave-in-Err.ensures.left in
    subst (λ x. IsBeaten x p c.leave-in-Err.new.pass) (sym (same_version _ v is))
    (beaten c.args.self.now.rows c.args.stamp c.args.point.now c.args.built c.requires.built.0 c.args.pass.now c.publish.new.pass c.requires.built.1 c.publish.ensures.same.same_number c.number.result c.number.ensures.number c.in-Beaten.version (subst (λ x. Ended c.args.self.now.rows c.args.stamp c.args.point.now c.args.built c.requires.built.0 c.args.pass.now c.publish.new.pass c.requires.built.1 c.publish.ensures.same.same_number c.number.result c.number.ensures.number (Err x)) c.in-Beaten.is (subst (Ended c.args.self.now.rows c.args.stamp c.args.point.now c.args.built c.requires.built.0 c.args.pass.now c.publish.new.pass c.requires.built.1 c.publish.ensures.same.same_number c.number.result c.number.ensures.number) c.in-Err.is (ended (goal.at.returns-in-Beaten-clause-beaten c).After-publish c.requires.built.0 c.requires.built.1)))
    p c.leave-in-Err.new.pass pinned_since (c.leave-in-Err.ensures.seen ∙ back.seen) (subst (IsPrefix (known_of c.publish.new.pass).looks) (sym (ap (λ (k : Known). k.looks) left)) back.builds.looked) (ap (λ (k : Known). k.since) left ∙ back.builds.since))

pub returns-in-Spent-clause-spent : goal.returns-in-Spent-clause-spent
returns-in-Spent-clause-spent c is =
    subst (λ es. (length es ≡ LAST_VERSION) × (is_accepting (Update c.args.point.now) (nondominated (submissions es) (Update c.args.point.now)) ≡ true)) (sym (c.leave-in-Err.ensures.seen ∙ c.give_all_back.ensures.seen))
    (spent c.args.self.now.rows c.args.stamp c.args.point.now c.args.built c.requires.built.0 c.args.pass.now c.publish.new.pass c.requires.built.1 c.publish.ensures.same.same_number c.number.result c.number.ensures.number (subst (λ x. Ended c.args.self.now.rows c.args.stamp c.args.point.now c.args.built c.requires.built.0 c.args.pass.now c.publish.new.pass c.requires.built.1 c.publish.ensures.same.same_number c.number.result c.number.ensures.number (Err x)) c.in-Spent.is (subst (Ended c.args.self.now.rows c.args.stamp c.args.point.now c.args.built c.requires.built.0 c.args.pass.now c.publish.new.pass c.requires.built.1 c.publish.ensures.same.same_number c.number.result c.number.ensures.number) c.in-Err.is (ended (goal.at.returns-in-Spent-clause-spent c).After-publish c.requires.built.0 c.requires.built.1))))

pub returns-in-Beaten-clause-refused : goal.returns-in-Beaten-clause-refused
returns-in-Beaten-clause-refused c p builds =
    refused c.args.self.now.rows c.args.stamp c.args.point.now c.args.built p c.args.pass.now c.publish.new.pass builds c.publish.ensures.same.same_number c.number.result c.number.ensures.number c.in-Err.refusal (subst (Ended c.args.self.now.rows c.args.stamp c.args.point.now c.args.built p c.args.pass.now c.publish.new.pass builds c.publish.ensures.same.same_number c.number.result c.number.ensures.number) c.in-Err.is (ended (goal.at.returns-in-Beaten-clause-refused c).After-publish p builds)) c.leave-in-Err.new.pass
    (c.leave-in-Err.ensures.number ∙ c.give_all_back.ensures.number) (c.leave-in-Err.ensures.seen ∙ c.give_all_back.ensures.seen) (c.leave-in-Err.ensures.lists ∙ c.give_all_back.ensures.lists) c.leave-in-Err.ensures.consistent

pub returns-in-Spent-clause-refused : goal.returns-in-Spent-clause-refused
returns-in-Spent-clause-refused c p builds =
    refused c.args.self.now.rows c.args.stamp c.args.point.now c.args.built p c.args.pass.now c.publish.new.pass builds c.publish.ensures.same.same_number c.number.result c.number.ensures.number c.in-Err.refusal (subst (Ended c.args.self.now.rows c.args.stamp c.args.point.now c.args.built p c.args.pass.now c.publish.new.pass builds c.publish.ensures.same.same_number c.number.result c.number.ensures.number) c.in-Err.is (ended (goal.at.returns-in-Spent-clause-refused c).After-publish p builds)) c.leave-in-Err.new.pass
    (c.leave-in-Err.ensures.number ∙ c.give_all_back.ensures.number) (c.leave-in-Err.ensures.seen ∙ c.give_all_back.ensures.seen) (c.leave-in-Err.ensures.lists ∙ c.give_all_back.ensures.lists) c.leave-in-Err.ensures.consistent

pub returns-in-Ok-clause-reads : goal.returns-in-Ok-clause-reads
returns-in-Ok-clause-reads c =
    let rows = (pinned_copy (known_of c.args.pass.now)).rows in
    none_ended rows (known_of c.args.pass.now) (known_of c.publish.new.pass) (known_of c.leave.new.pass) (known_of c.free_many.new.pass) (published (goal.at.returns-in-Ok-clause-reads c).After-publish) c.leave.ensures.left (c.free_many.ensures.reads rows)

pub returns-in-Beaten-clause-reads : goal.returns-in-Beaten-clause-reads
returns-in-Beaten-clause-reads c =
    let back = c.give_all_back.ensures in
    none_refused (pinned_copy (known_of c.args.pass.now)).rows (known_of c.args.pass.now) (known_of c.publish.new.pass) (known_of c.give_all_back.new.pass) (known_of c.leave-in-Err.new.pass) (published (goal.at.returns-in-Beaten-clause-reads c).After-publish) back.builds back.looks
    c.leave-in-Err.ensures.left

pub returns-in-Spent-clause-reads : goal.returns-in-Spent-clause-reads
returns-in-Spent-clause-reads c =
    let back = c.give_all_back.ensures in
    none_refused (pinned_copy (known_of c.args.pass.now)).rows (known_of c.args.pass.now) (known_of c.publish.new.pass) (known_of c.give_all_back.new.pass) (known_of c.leave-in-Err.new.pass) (published (goal.at.returns-in-Spent-clause-reads c).After-publish) back.builds back.looks
    c.leave-in-Err.ensures.left
