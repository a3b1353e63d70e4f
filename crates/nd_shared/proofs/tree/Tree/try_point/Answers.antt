use Rattle.std.proofs.Common.{◌≡◌, ◌+◌, ◌*◌, ◌<◌, true, false, [], refl, ap, sym, subst, ◌∙◌, length, arith}
use Rattle.std.proofs.lemmas.Bool.{true≢false}
use Rattle.std.proofs.lemmas.Result.{IfOk-weaker}
use Rattle.era_rows.specs.Known.{Known, pinned_copy}
use Rattle.era_rows.specs.Passes.{known_of, seen_of, memory_of}
use Rattle.era_one_row.proofs.GoingOn.{pin_stays}
use Rattle.pls_archive.specs.Archives.{reply_of}
use Rattle.pls_archive.specs.declared.call.Reply.TheVariants.{Refused}
use Rattle.nd_rows.specs.Entries.{recalls_value}
use Rattle.nd_update.specs.Needed.{needed}
use Rattle.nd_shared.specs.Reading.{ReadsNone, ReadsOf}
use Rattle.nd_shared.specs.Views.{view_of}
use Rattle.nd_shared.proofs.Built.{on_err, builds_at, opens_still}
use Rattle.nd_shared.proofs.Lasting.{answered, brings_in, spent_or_beaten}
use Rattle.nd_shared.proofs.Recorded.{evidence_short, short_left}
use Rattle.nd_shared.proofs.Room.{alone_room}
use Rattle.nd_shared.proofs.Reading.{none_left, reads_built}
use Rattle.nd_shared.proofs.Refusals.{not_full, not_spent, not_beaten, has_row, refused_as}
use Rattle.nd_shared.proofs.tree.Tree.try_point.Goals as goal
use Rattle.nd_shared.proofs.tree.Tree.try_point.Goals.{After-try_build}

-- however the call ends, it found what the update needs, and nothing where the pass remembers a value that covers the point
module _ (c : After-try_build) (end : Known) (rest : ReadsNone (pinned_copy (known_of c.try_build.new.pass)).rows (known_of c.try_build.new.pass) end) where
  needs : ReadsOf c.args.self.now.rows.shape (needed c.args.point.now.value c.args.self.now.rows.rows) (known_of c.args.pass.now) end
  needs =
      let opened = c.open-stamp.ensures in
      let tree = opened.opens.opened.tree.stands in
      reads_built c.args.self.now.rows.shape c.open-stamp.result (needed c.args.point.now.value c.args.self.now.rows.rows) (known_of c.args.pass.now) (known_of c.open-stamp.new.pass) (known_of c.try_build.new.pass) end tree.0 opened.pinned opened.unread tree.1
      c.try_build.ensures.goes.builds (c.try_build.ensures.only tree.0 tree.1) rest

  recalls : recalls_value (memory_of c.args.pass.now) c.args.point.now.value ≡ true → ReadsOf c.args.self.now.rows.shape (λ _. []) (known_of c.args.pass.now) end
  recalls covers =
      let opened = c.open-stamp.ensures in
      let tree = opened.opens.opened.tree.stands in
      reads_built c.args.self.now.rows.shape c.open-stamp.result (λ _. []) (known_of c.args.pass.now) (known_of c.open-stamp.new.pass) (known_of c.try_build.new.pass) end tree.0 opened.pinned opened.unread tree.1
      c.try_build.ensures.goes.builds (c.try_build.ensures.recalled (ap (λ memory. recalls_value memory c.args.point.now.value) opened.memory ∙ covers)) rest

pub publish-requires-clause-built : goal.publish-requires-clause-built
publish-requires-clause-built c =
    let opens = c.open-stamp.ensures.opens in (
      c.args.pass.now,
      builds_at c.args.self.now.rows c.open-stamp.result c.args.pass.now c.open-stamp.new.pass c.try_build.new.pass opens c.try_build.ensures.goes c.try_build.ensures.work (c.try_build.ensures.same_full (has_row c.try_build.result _ c.in-Ok.is refl)) c.args.point.now c.in-Ok.built
          (c.in-Ok.ensures.built c.open-stamp.result opens.opened.tree),
    )

pub refuse-requires-clause-opened : goal.refuse-requires-clause-opened
refuse-requires-clause-opened c =
    let opens = c.open-stamp.ensures.opens in (
      c.args.pass.now,
      opens_still c.args.self.now.rows c.open-stamp.result c.args.pass.now c.open-stamp.new.pass c.try_build.new.pass opens c.try_build.ensures.goes c.try_build.ensures.work (c.try_build.ensures.same_full (has_row c.try_build.result _ (c.in-Err-Covered.is ∙ ap refused_as c.in-Err-Covered.field-0-is) refl)) c.in-Err-Covered.ensures.refused.0 c.in-Err-Covered.ensures.refused.1,
    )

pub leave-requires-clause-short : goal.leave-requires-clause-short
leave-requires-clause-short c = evidence_short (known_of c.try_build.new.pass) (c.try_build.ensures.full (c.in-Err-Full.is ∙ ap refused_as c.in-Err-Full.field-0-is))

pub returns-in-Ok-clause-refused : goal.returns-in-Ok-clause-refused
returns-in-Ok-clause-refused c =
    let opens = c.open-stamp.ensures.opens in
    on_err c.publish.result _ _
    (λ gives. gives c.args.pass.now
    (builds_at c.args.self.now.rows c.open-stamp.result c.args.pass.now c.open-stamp.new.pass c.try_build.new.pass opens c.try_build.ensures.goes c.try_build.ensures.work (c.try_build.ensures.same_full (has_row c.try_build.result _ c.in-Ok.is refl)) c.args.point.now c.in-Ok.built
    (c.in-Ok.ensures.built c.open-stamp.result opens.opened.tree)))
    c.publish.ensures.refused

pub returns-in-Ok-clause-answers : goal.returns-in-Ok-clause-answers
returns-in-Ok-clause-answers c =
    let opens = c.open-stamp.ensures.opens in
    IfOk-weaker c.publish.result _ _
    (λ a gives. gives c.args.pass.now
    (builds_at c.args.self.now.rows c.open-stamp.result c.args.pass.now c.open-stamp.new.pass c.try_build.new.pass opens c.try_build.ensures.goes c.try_build.ensures.work (c.try_build.ensures.same_full (has_row c.try_build.result _ c.in-Ok.is refl)) c.args.point.now c.in-Ok.built
    (c.in-Ok.ensures.built c.open-stamp.result opens.opened.tree)))
    c.publish.ensures.answers

pub returns-in-Ok-clause-waits : goal.returns-in-Ok-clause-waits
returns-in-Ok-clause-waits c = IfOk-weaker c.publish.result _ _ (λ a few accepting. few) c.publish.ensures.waits

pub returns-in-Ok-clause-beaten : goal.returns-in-Ok-clause-beaten
returns-in-Ok-clause-beaten c v is =
    let builds = c.try_build.ensures.goes.builds in
    c.publish.ensures.beaten v is c.args.pass.now
    (pin_stays c.open-stamp.result (known_of c.args.pass.now) (known_of c.open-stamp.new.pass) (known_of c.try_build.new.pass) c.open-stamp.ensures.pinned builds.looked builds.since)

pub returns-in-Ok-clause-full : goal.returns-in-Ok-clause-full
returns-in-Ok-clause-full c is = absurd (c.publish.ensures.full.0 is)

pub returns-in-Ok-clause-same_full : goal.returns-in-Ok-clause-same_full
returns-in-Ok-clause-same_full c other = c.publish.ensures.full.1 ∙ c.try_build.ensures.same_full (has_row c.try_build.result _ c.in-Ok.is refl) ∙ c.open-stamp.ensures.full

pub returns-in-Err-Covered-clause-answers : goal.returns-in-Err-Covered-clause-answers
returns-in-Err-Covered-clause-answers c =
    let opens = c.open-stamp.ensures.opens in
    c.refuse.ensures.answers c.args.pass.now
    (opens_still c.args.self.now.rows c.open-stamp.result c.args.pass.now c.open-stamp.new.pass c.try_build.new.pass opens c.try_build.ensures.goes c.try_build.ensures.work (c.try_build.ensures.same_full (has_row c.try_build.result _ (c.in-Err-Covered.is ∙ ap refused_as c.in-Err-Covered.field-0-is) refl)) c.in-Err-Covered.ensures.refused.0 c.in-Err-Covered.ensures.refused.1)

pub returns-in-Err-Covered-clause-waits : goal.returns-in-Err-Covered-clause-waits
returns-in-Err-Covered-clause-waits c accepting = absurd (true≢false (sym accepting))

pub returns-in-Err-Covered-clause-full : goal.returns-in-Err-Covered-clause-full
returns-in-Err-Covered-clause-full c is = absurd (not_full _ _ refl refl is)

pub returns-in-Err-Covered-clause-same_full : goal.returns-in-Err-Covered-clause-same_full
returns-in-Err-Covered-clause-same_full c other = c.refuse.ensures.full ∙ c.try_build.ensures.same_full (has_row c.try_build.result _ (c.in-Err-Covered.is ∙ ap refused_as c.in-Err-Covered.field-0-is) refl) ∙ c.open-stamp.ensures.full

pub returns-in-Err-Covered-clause-spent : goal.returns-in-Err-Covered-clause-spent
returns-in-Err-Covered-clause-spent c is = absurd (not_spent _ refl is)

pub returns-in-Err-Covered-clause-beaten : goal.returns-in-Err-Covered-clause-beaten
returns-in-Err-Covered-clause-beaten c v is = absurd (not_beaten _ v refl is)

pub returns-in-Err-Full-clause-full : goal.returns-in-Err-Full-clause-full
returns-in-Err-Full-clause-full c is = (
  short_left (known_of c.try_build.new.pass) (known_of c.leave.new.pass) c.leave.ensures.left (c.try_build.ensures.full (c.in-Err-Full.is ∙ ap refused_as c.in-Err-Full.field-0-is)),
  (let first = c.open-stamp.ensures.pinned.first in let same = ap (λ (k : Known). k.since) c.leave.ensures.left ∙ c.try_build.ensures.goes.builds.since in omega arith),
)

pub returns-in-Err-Full-clause-same_full : goal.returns-in-Err-Full-clause-same_full
returns-in-Err-Full-clause-same_full c other = absurd (other refl)

pub returns-in-Err-Full-clause-spent : goal.returns-in-Err-Full-clause-spent
returns-in-Err-Full-clause-spent c is = absurd (not_spent _ refl is)

pub returns-in-Err-Full-clause-beaten : goal.returns-in-Err-Full-clause-beaten
returns-in-Err-Full-clause-beaten c v is = absurd (not_beaten _ v refl is)

pub returns-in-Err-Full-clause-room : goal.returns-in-Err-Full-clause-room
returns-in-Err-Full-clause-room c is one =
    let r = c.args.self.now.rows in
    let n = c.open-stamp.result in
    let opens = c.open-stamp.ensures.opens in
    let seen : length (seen_of c.leave.new.pass) ≡ n = ap length (c.leave.ensures.seen ∙ c.try_build.ensures.goes.same_seen) ∙ opens.all in
    subst (λ m. r.rows < 8 * (m + 1) + 64) (sym seen)
    (alone_room r n c.open-stamp.new.pass (known_of c.try_build.new.pass) c.args.self.now.few opens.opened.tree opens.all c.open-stamp.ensures.copies c.try_build.ensures.goes.builds
    (c.try_build.ensures.crowded (c.in-Err-Full.is ∙ ap refused_as c.in-Err-Full.field-0-is)) one)

pub returns-in-Ok-clause-room : goal.returns-in-Ok-clause-room
returns-in-Ok-clause-room c is = absurd (c.publish.ensures.full.0 is)

pub returns-in-Err-Covered-clause-room : goal.returns-in-Err-Covered-clause-room
returns-in-Err-Covered-clause-room c is = absurd (not_full _ _ refl refl is)

pub returns-in-Ok-clause-reads : goal.returns-in-Ok-clause-reads
returns-in-Ok-clause-reads c = needs (goal.at.returns-in-Ok-clause-reads c).After-try_build (known_of c.publish.new.pass) c.publish.ensures.reads

pub returns-in-Ok-clause-recalled : goal.returns-in-Ok-clause-recalled
returns-in-Ok-clause-recalled c = recalls (goal.at.returns-in-Ok-clause-recalled c).After-try_build (known_of c.publish.new.pass) c.publish.ensures.reads

pub returns-in-Err-Covered-clause-reads : goal.returns-in-Err-Covered-clause-reads
returns-in-Err-Covered-clause-reads c = needs (goal.at.returns-in-Err-Covered-clause-reads c).After-try_build (known_of c.refuse.new.pass) (none_left _ (known_of c.try_build.new.pass) (known_of c.refuse.new.pass) c.refuse.ensures.left)

pub returns-in-Err-Covered-clause-recalled : goal.returns-in-Err-Covered-clause-recalled
returns-in-Err-Covered-clause-recalled c = recalls (goal.at.returns-in-Err-Covered-clause-recalled c).After-try_build (known_of c.refuse.new.pass) (none_left _ (known_of c.try_build.new.pass) (known_of c.refuse.new.pass) c.refuse.ensures.left)

pub returns-in-Err-Full-clause-reads : goal.returns-in-Err-Full-clause-reads
returns-in-Err-Full-clause-reads c = needs (goal.at.returns-in-Err-Full-clause-reads c).After-try_build (known_of c.leave.new.pass) (none_left _ (known_of c.try_build.new.pass) (known_of c.leave.new.pass) c.leave.ensures.left)

pub returns-in-Err-Full-clause-recalled : goal.returns-in-Err-Full-clause-recalled
returns-in-Err-Full-clause-recalled c = recalls (goal.at.returns-in-Err-Full-clause-recalled c).After-try_build (known_of c.leave.new.pass) (none_left _ (known_of c.try_build.new.pass) (known_of c.leave.new.pass) c.leave.ensures.left)

pub returns-in-Ok-clause-last : goal.returns-in-Ok-clause-last
returns-in-Ok-clause-last c all =
    let passes = c.args.self.now.rows.passes in
    let seen = seen_of c.publish.new.pass in
    let point = c.args.point.now in
    let opens = c.open-stamp.ensures.opens in
    spent_or_beaten c.publish.result (brings_in seen point)
    (IfOk-weaker c.publish.result _ (λ _. brings_in seen point ≡ false)
    (λ a gives. answered passes (view_of c.args.pass.now) (view_of c.publish.new.pass) point (reply_of a.0) a.1
    (gives c.args.pass.now
    (builds_at c.args.self.now.rows c.open-stamp.result c.args.pass.now c.open-stamp.new.pass c.try_build.new.pass opens c.try_build.ensures.goes c.try_build.ensures.work (c.try_build.ensures.same_full (has_row c.try_build.result _ c.in-Ok.is refl)) point c.in-Ok.built
    (c.in-Ok.ensures.built c.open-stamp.result opens.opened.tree))))
    c.publish.ensures.answers)
    c.publish.ensures.full.0

pub returns-in-Err-Covered-clause-last : goal.returns-in-Err-Covered-clause-last
returns-in-Err-Covered-clause-last c all brought =
    let opens = c.open-stamp.ensures.opens in
    absurd (true≢false (sym brought ∙ answered c.args.self.now.rows.passes (view_of c.args.pass.now) (view_of c.refuse.new.pass) c.args.point.now Refused c.open-stamp.result
    (c.refuse.ensures.answers c.args.pass.now
    (opens_still c.args.self.now.rows c.open-stamp.result c.args.pass.now c.open-stamp.new.pass c.try_build.new.pass opens c.try_build.ensures.goes c.try_build.ensures.work (c.try_build.ensures.same_full (has_row c.try_build.result _ (c.in-Err-Covered.is ∙ ap refused_as c.in-Err-Covered.field-0-is) refl)) c.in-Err-Covered.ensures.refused.0 c.in-Err-Covered.ensures.refused.1))))
