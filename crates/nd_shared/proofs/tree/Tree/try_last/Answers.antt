use Rattle.std.proofs.Common.{◌≡◌, true, []}
use Rattle.era_rows.specs.Known.{Known, pinned_copy, leaving}
use Rattle.era_rows.specs.Passes.{known_of, memory_of}
use Rattle.era_one_row.specs.Ready.{HasPinned}
use Rattle.nd_rows.specs.Entries.{recalls_value}
use Rattle.nd_update.specs.Needed.{needed}
use Rattle.nd_update.proofs.Going.{goes_reads}
use Rattle.nd_update.proofs.Needed.{only_asked}
use Rattle.nd_shared.specs.Reading.{ReadsOf}
use Rattle.nd_shared.specs.Views.{Opens}
use Rattle.nd_shared.proofs.Opening.{asked}
use Rattle.nd_shared.proofs.Reading.{none_left, reads_built, reads_asked}
use Rattle.nd_shared.proofs.tree.Tree.try_last.Goals as goal
use Rattle.nd_shared.proofs.tree.Tree.try_last.Goals.{After-is_covered}

-- the version is still the pinned one after the question
opens : (c : After-is_covered) (p : _) → Opens c.args.self.now.rows c.args.stamp p c.args.pass.now → Opens c.args.self.now.rows c.args.stamp p c.is_covered.new.pass
opens c p before =
    let ask = c.is_covered.ensures in
    asked c.args.self.now.rows c.args.stamp _ p c.args.pass.now c.is_covered.new.pass before (ask.tree c.args.stamp before.opened.tree) ask.kept ask.reads.2

-- however the call ends, it found what the question needs, and nothing where the pass remembers a value that covers the point
module _ (c : After-is_covered) (end : Known) (left : end ≡ leaving (known_of c.is_covered.new.pass)) (k : Known) (pinned : HasPinned c.args.stamp k (known_of c.args.pass.now)) where
  needs : ReadsOf c.args.self.now.rows.shape (needed c.args.point.now.value c.args.self.now.rows.rows) k end
  needs =
      let rows = c.args.self.now.rows in
      let v = c.args.point.now.value in
      let before = known_of c.args.pass.now in
      let after = known_of c.is_covered.new.pass in
      let ask = c.is_covered.ensures in
      let tree = ask.tree c.args.stamp c.requires.opened.1.opened.tree in
      reads_built rows.shape c.args.stamp (needed v rows.rows) k before after end ask.reads.0 pinned c.requires.unread ask.reads.1
      (goes_reads rows _ c.args.pass.now c.is_covered.new.pass tree.is_pass ask.kept ask.reads.2).builds
      (only_asked v rows.shape rows.rows ask.reads.0 before after ask.reads.1 c.requires.begun ask.reads)
      (none_left (pinned_copy after).rows after end left)

  recalls : recalls_value (memory_of c.args.pass.now) c.args.point.now.value ≡ true → ReadsOf c.args.self.now.rows.shape (λ _. []) k end
  recalls found =
      let ask = c.is_covered.ensures in
      reads_asked c.args.self.now.rows.shape c.args.stamp (λ _. []) k (known_of c.args.pass.now) (known_of c.is_covered.new.pass) end ask.reads.0 pinned c.requires.unread ask.reads.1 c.requires.begun (ask.recalled found) left

pub refuse-requires-clause-opened : goal.refuse-requires-clause-opened
refuse-requires-clause-opened c = (c.requires.opened.0, opens (goal.at.refuse-requires-clause-opened c).After-is_covered c.requires.opened.0 c.requires.opened.1)

pub leave-requires-clause-pass : goal.leave-requires-clause-pass
leave-requires-clause-pass c = (c.is_covered.ensures.tree c.args.stamp c.requires.opened.1.opened.tree).is_pass

pub returns-then-is_covered-clause-answers : goal.returns-then-is_covered-clause-answers
returns-then-is_covered-clause-answers c p before = c.refuse.ensures.answers p (opens (goal.at.returns-then-is_covered-clause-answers c).After-is_covered p before)

pub returns-then-is_covered-clause-reads : goal.returns-then-is_covered-clause-reads
returns-then-is_covered-clause-reads c k pinned = needs (goal.at.returns-then-is_covered-clause-reads c).After-is_covered (known_of c.refuse.new.pass) c.refuse.ensures.left k pinned

pub returns-then-is_covered-clause-recalled : goal.returns-then-is_covered-clause-recalled
returns-then-is_covered-clause-recalled c found k pinned = recalls (goal.at.returns-then-is_covered-clause-recalled c).After-is_covered (known_of c.refuse.new.pass) c.refuse.ensures.left k pinned found

pub returns-clause-reads : goal.returns-clause-reads
returns-clause-reads c k pinned = needs (goal.at.returns-clause-reads c).After-is_covered (known_of c.leave.new.pass) c.leave.ensures.left k pinned

pub returns-clause-recalled : goal.returns-clause-recalled
returns-clause-recalled c found k pinned = recalls (goal.at.returns-clause-recalled c).After-is_covered (known_of c.leave.new.pass) c.leave.ensures.left k pinned found
