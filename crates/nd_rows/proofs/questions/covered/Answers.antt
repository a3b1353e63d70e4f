use Rattle.std.proofs.Common.{sym, subst, take, ◌∙◌}
use Rattle.std.specs.Prelude.{IfSome}
use Rattle.era_rows.specs.Known.{pinned_copy}
use Rattle.era_rows.specs.Passes.{known_of, seen_of}
use Rattle.pls_archive.specs.History.{submissions}
use Rattle.pls_archive.proofs.ListArchive.{covered-due}
use Rattle.nd_rows.specs.Nodes.{points_of, necessary}
use Rattle.nd_rows.specs.Walk.{IsRowOf}
use Rattle.nd_rows.proofs.FoundPoints.{kept_same, found_row, found_point, found_reads, found_pinned, found_kept}
use Rattle.nd_rows.proofs.Looks.{has_same}
use Rattle.nd_rows.proofs.PinnedTrees.{still_pinned}
use Rattle.nd_rows.proofs.questions.covered.Goals as goal

pub returns-in_default : goal.returns-in_default
returns-in_default c =
    let r = c.args.rows.now in
    let v = c.args.value.now in
    let p = c.args.pass.now in
    let q = c.ask-yes.new.pass in
    let n = c.requires.tree.0 in
    let tree = c.requires.tree.1 in
    let looks = c.ask-yes.ensures.looks in
    record {
      kept = kept_same p q (has_same r (necessary v tree.stands.0) p q (looks n tree) (c.ask-yes.ensures.work ∙ sym c.requires.idle));
      tree = λ m pinned. still_pinned r (necessary v pinned.stands.0) p q (looks m pinned) m pinned;
      reads = (tree.stands.0, tree.stands.1, (looks n tree).reads);
      answer = λ m pinned.
          covered-due (submissions (take m (seen_of p))) (points_of pinned.stands.0) pinned.stands.2 v c.ask-yes.result.0 (c.ask-yes.ensures.answer m pinned);
    }

pub remember_row-requires : goal.remember_row-requires
remember_row-requires c =
    let r = c.args.rows.now in
    let v = c.args.value.now in
    let p = c.args.pass.now in
    let n = c.requires.tree.0 in
    let tree = c.requires.tree.1 in
    let looks = c.ask-yes.ensures.looks n tree in
    let is = subst (λ o. IfSome o (IsRowOf r.shape (pinned_copy (known_of p)) (necessary v tree.stands.0) (points_of tree.stands.0))) c.in-Some.is (c.ask-yes.ensures.row n tree) in
    record {
      pass = looks.is_pass;
      row = found_row r v n p tree c.ask-yes.new.pass looks c.in-Some.row is;
      point = found_point r v n p tree c.ask-yes.new.pass looks c.in-Some.row is;
    }

pub returns : goal.returns
returns c =
    let r = c.args.rows.now in
    let v = c.args.value.now in
    let p = c.args.pass.now in
    let n = c.requires.tree.0 in
    let tree = c.requires.tree.1 in
    let q = c.ask-yes.new.pass in
    let looks = c.ask-yes.ensures.looks n tree in
    let is = subst (λ o. IfSome o (IsRowOf r.shape (pinned_copy (known_of p)) (necessary v tree.stands.0) (points_of tree.stands.0))) c.in-Some.is (c.ask-yes.ensures.row n tree) in
    let last = c.remember_row.new.pass in
    let remembers = c.remember_row.ensures in
    let same = has_same r (necessary v tree.stands.0) p q looks (c.ask-yes.ensures.work ∙ sym c.requires.idle) in
    record {
      kept = found_kept r v n p tree q looks c.in-Some.row is last remembers.pass remembers.reads remembers.kept same;
      tree = found_pinned r v n p tree q looks c.in-Some.row is last remembers.pass remembers.reads remembers.kept;
      reads = found_reads r v n p tree q looks c.in-Some.row is last remembers.pass remembers.reads remembers.kept;
      answer = λ m pinned.
          covered-due (submissions (take m (seen_of p))) (points_of pinned.stands.0) pinned.stands.2 v c.ask-yes.result.0 (c.ask-yes.ensures.answer m pinned);
    }
