use Rattle.std.proofs.Common.{◌∙◌, ◌+◌, refl, subst}
use Rattle.nd_rows.specs.Entries.{added}
use Rattle.nd_shared.proofs.Opening.{still_listed}
use Rattle.nd_shared.proofs.Recorded.{evidence_kept}
use Rattle.nd_shared.proofs.Publications.{Ended, pinned, lists_same, short}
use Rattle.nd_shared_tests.proofs.two_passes.lose.Goals as goal
use Rattle.nd_shared_tests.proofs.two_passes.lose.Goals.{After-publish}

-- the publication ended as its contract says
ended : (g : _) (c : After-publish g) → Ended c.args.rows.now c.args.stamp c.args.point.now c.args.built c.requires.built.0 c.args.pass.now c.publish.new.pass c.requires.built.1 c.publish.ensures.same.same_number c.number.result c.number.ensures.number c.publish.result
ended g c =
    let builds = c.requires.built.1 in
    c.publish.ensures.published c.args.stamp builds.publishable.root (added c.number.result (c.args.stamp + 1) c.args.point.now c.args.built.removed) builds.publishable.may.pinned refl

pub leave-requires-clause-pinned : goal.leave-requires-clause-pinned
leave-requires-clause-pinned g c = (
  c.args.stamp,
  c.requires.built.1.publishable.root,
  c.give_all_back.ensures.builds.pinned ∙ pinned c.args.rows.now c.args.stamp c.args.point.now c.args.built c.requires.built.0 c.args.pass.now c.publish.new.pass c.requires.built.1 c.publish.ensures.same.same_number c.number.result c.number.ensures.number _ (ended g (goal.at.leave-requires-clause-pinned g c).After-publish),
)

pub leave-requires-clause-listed : goal.leave-requires-clause-listed
leave-requires-clause-listed g c =
    still_listed c.args.pass.now c.give_all_back.new.pass (c.give_all_back.ensures.number ∙ c.publish.ensures.same.same_number)
    (c.give_all_back.ensures.lists ∙ lists_same c.args.rows.now c.args.stamp c.args.point.now c.args.built c.requires.built.0 c.args.pass.now c.publish.new.pass c.requires.built.1 c.publish.ensures.same.same_number c.number.result c.number.ensures.number c.expect_err-refusal.result (subst (Ended c.args.rows.now c.args.stamp c.args.point.now c.args.built c.requires.built.0 c.args.pass.now c.publish.new.pass c.requires.built.1 c.publish.ensures.same.same_number c.number.result c.number.ensures.number) c.expect_err-refusal.ensures (ended g (goal.at.leave-requires-clause-listed g c).After-publish)))
    c.requires.built.1.listed

pub leave-requires-clause-short : goal.leave-requires-clause-short
leave-requires-clause-short g c =
    evidence_kept c.args.rows.now c.publish.new.pass c.give_all_back.new.pass c.publish.ensures.pass c.give_all_back.ensures.pass c.give_all_back.ensures.full
    (short c.args.rows.now c.args.stamp c.args.point.now c.args.built c.requires.built.0 c.args.pass.now c.publish.new.pass c.requires.built.1 c.publish.ensures.same.same_number c.number.result c.number.ensures.number _ c.publish.ensures.pass (ended g (goal.at.leave-requires-clause-short g c).After-publish))
