use Rattle.std.proofs.Common.{refl, ap, sym, ◌∙◌, arith, length}
use Rattle.era_rows.specs.Passes.{known_of, seen_of}
use Rattle.pls_archive.specs.declared.call.Call.TheVariants.{Update}
use Rattle.pls_archive.specs.Archives.{reply_of}
use Rattle.pls_archive.specs.Reply.{nondominated}
use Rattle.nd_shared.specs.Views.{view_of}
use Rattle.nd_shared.proofs.Recorded.{keeps_same, keeps_short}
use Rattle.nd_shared.proofs.Refusals.{not_full, tried_as}
use Rattle.nd_shared.proofs.Room.{safe_left}
use Rattle.nd_shared.proofs.Trying.{refused_later, answers_later}
use Rattle.nd_shared.proofs.shared_calls.TreeShared.update.Goals as goal

pub returns-in-Ok-clause-answers : goal.returns-in-Ok-clause-answers
returns-in-Ok-clause-answers g c = answers_later (view_of c.args.pass.now) (view_of c.loop.pass) (view_of c.try_point.new.pass) c.loop.invariant.1 nondominated c.args.self.now.rows.passes (Update c.args.point) (reply_of c.in-Ok.answer.0) c.in-Ok.answer.1 c.in-Ok.ensures.answers

pub returns-in-Ok-clause-room : goal.returns-in-Ok-clause-room
returns-in-Ok-clause-room g c = let low = c.in-Ok.ensures.low in omega arith

pub returns-in-Ok-clause-stays_full : goal.returns-in-Ok-clause-stays_full
returns-in-Ok-clause-stays_full g c =
    keeps_same c.args.self.now.rows c.args.pass.now c.try_point.new.pass c.requires.ready.0 c.try_point.ensures.ready.is_pass (c.try_point.ensures.same_full (not_full c.try_point.result _ c.in-Ok.is refl) ∙ c.loop.invariant.2)

pub returns-in-Ok-clause-full_alone : goal.returns-in-Ok-clause-full_alone
returns-in-Ok-clause-full_alone g c other =
    keeps_same c.args.self.now.rows c.try_point.new.pass c.args.pass.now c.try_point.ensures.ready.is_pass c.requires.ready.0 (sym (c.try_point.ensures.same_full (not_full c.try_point.result _ c.in-Ok.is refl) ∙ c.loop.invariant.2))

pub returns-in-Err-Full-clause-refused : goal.returns-in-Err-Full-clause-refused
returns-in-Err-Full-clause-refused g c = refused_later (view_of c.args.pass.now) (view_of c.loop.pass) (view_of c.try_point.new.pass) c.loop.invariant.1 nondominated c.args.self.now.rows.passes c.in-Err-Full.ensures.refused

pub returns-in-Err-Spent-clause-refused : goal.returns-in-Err-Spent-clause-refused
returns-in-Err-Spent-clause-refused g c = refused_later (view_of c.args.pass.now) (view_of c.loop.pass) (view_of c.try_point.new.pass) c.loop.invariant.1 nondominated c.args.self.now.rows.passes c.in-Err-Spent.ensures.refused

pub returns-in-Err-Full-clause-full : goal.returns-in-Err-Full-clause-full
returns-in-Err-Full-clause-full g c is =
    let told = c.in-Err-Full.is ∙ ap tried_as c.in-Err-Full.field-0-is in
    let rows = c.args.self.now.rows in (
      keeps_short (known_of c.try_point.new.pass) (c.try_point.ensures.full told).0,
      safe_left rows.rows rows.passes (length (seen_of c.try_point.new.pass)) (seen_of c.try_point.new.pass) refl c.in-Err-Full.ensures.refused.consistent.observed.accepted (c.try_point.ensures.room told),
    )

pub returns-in-Err-Full-clause-stays_full : goal.returns-in-Err-Full-clause-stays_full
returns-in-Err-Full-clause-stays_full g c before = keeps_short (known_of c.try_point.new.pass) (c.try_point.ensures.full (c.in-Err-Full.is ∙ ap tried_as c.in-Err-Full.field-0-is)).0

pub returns-in-Err-Full-clause-full_alone : goal.returns-in-Err-Full-clause-full_alone
returns-in-Err-Full-clause-full_alone g c other = absurd (other refl)

pub returns-in-Err-Spent-clause-spent : goal.returns-in-Err-Spent-clause-spent
returns-in-Err-Spent-clause-spent g c is = c.try_point.ensures.spent (c.in-Err-Spent.is ∙ ap tried_as c.in-Err-Spent.field-0-is)

pub returns-in-Err-Spent-clause-stays_full : goal.returns-in-Err-Spent-clause-stays_full
returns-in-Err-Spent-clause-stays_full g c =
    keeps_same c.args.self.now.rows c.args.pass.now c.try_point.new.pass c.requires.ready.0 c.try_point.ensures.ready.is_pass (c.try_point.ensures.same_full (not_full c.try_point.result _ (c.in-Err-Spent.is ∙ ap tried_as c.in-Err-Spent.field-0-is) refl) ∙ c.loop.invariant.2)

pub returns-in-Err-Spent-clause-full_alone : goal.returns-in-Err-Spent-clause-full_alone
returns-in-Err-Spent-clause-full_alone g c other =
    keeps_same c.args.self.now.rows c.try_point.new.pass c.args.pass.now c.try_point.ensures.ready.is_pass c.requires.ready.0 (sym (c.try_point.ensures.same_full (not_full c.try_point.result _ (c.in-Err-Spent.is ∙ ap tried_as c.in-Err-Spent.field-0-is) refl) ∙ c.loop.invariant.2))
