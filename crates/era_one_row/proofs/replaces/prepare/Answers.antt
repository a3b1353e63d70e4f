use Rattle.std.proofs.Common.{◌≡◌, ◌+◌, ◌<◌, None, [], ◌∷◌, ◌++◌, length, sym, ap, subst, ◌∙◌}
use Rattle.era_core.specs.Lists.{times, In}
use Rattle.era_core.specs.Views.{versions_of}
use Rattle.era_core.specs.Versions.{look_up}
use Rattle.era_rows.specs.Known.{Known, pinned_copy, known_words, writing}
use Rattle.era_rows.specs.Passes.{known_of}
use Rattle.era_rows.specs.declared.views.Knows.{Knows}
use Rattle.era_one_row.specs.declared.law.Stamped.{Stamped}
use Rattle.era_one_row.proofs.Preparing.{in_taken, no_links-written, word-written}
use Rattle.era_one_row.proofs.Counting.{takes_as}
use Rattle.era_one_row.proofs.FindingRows.{TookRow, took_row, found_none, finds_goes, finds_takes, may_as}
use Rattle.era_one_row.proofs.replaces.prepare.Goals as goal
use Rattle.era_one_row.proofs.replaces.prepare.Goals.{In_ok-row}

-- how the row was found
took : (c : In_ok-row) → TookRow c.in_ok-row.row (known_of c.args.pass.now) (known_of c.find_row.new.pass)
took c = took_row c.args.rows.now.rows c.in_ok-row.row (known_of c.args.pass.now) (known_of c.find_row.new.pass) c.in_ok-row.ensures.found

pub write-requires-clause-fresh : goal.write-requires-clause-fresh
write-requires-clause-fresh c = in_taken c.in_ok-row.row _ _ (took (goal.at.write-requires-clause-fresh c).In_ok-row).now

pub write-requires-2-clause-fresh : goal.write-requires-2-clause-fresh
write-requires-2-clause-fresh c =
    subst (λ (k : Known). In c.in_ok-row.row k.core.fresh) (sym c.write.ensures.written) (in_taken c.in_ok-row.row _ _ (took (goal.at.write-requires-2-clause-fresh c).In_ok-row).now)

-- what the pass knows at the end
written : (c : goal.After-mark) → known_of c.mark.new.pass ≡ writing c.in_ok-row.row 1 c.args.word (writing c.in_ok-row.row 0 0 (known_of c.find_row.new.pass))
written c = ap (λ s. s.view) c.mark.ensures.known ∙ c.write-2.ensures.written ∙ ap (writing c.in_ok-row.row 1 c.args.word) c.write.ensures.written

pub returns-clause-ready : goal.returns-clause-ready
returns-clause-ready c =
    let row = c.in_ok-row.row in
    let found = took (goal.at.returns-clause-ready c).In_ok-row in
    let k = known_of c.find_row.new.pass in
    let now = written c in
    record {
      is_pass = c.mark.ensures.pass;
      low = c.requires.low;
      current = ap (λ (s : Knows Stamped). length s.seen) c.mark.ensures.known ∙ ap length (c.write-2.ensures.same.same_seen ∙ c.write.ensures.same.same_seen ∙ c.in_ok-row.ensures.same.same_seen) ∙ c.requires.current;
      pinned = ap (λ (x : Known). x.core.pinned) (now ∙ ap (λ x. writing row 1 c.args.word (writing row 0 0 x)) found.now) ∙ c.requires.pinned;
      alone = ap (λ (x : Known). (pinned_copy x).rows) (now ∙ ap (λ x. writing row 1 c.args.word (writing row 0 0 x)) found.now) ∙ c.requires.alone;
      fresh = subst (λ (x : Known). In row x.core.fresh) (sym now) (in_taken row _ _ found.now);
      unread = ap (λ (x : Known). times row (pinned_copy x).rows) (now ∙ ap (λ x. writing row 1 c.args.word (writing row 0 0 x)) found.now) ∙ found.unread;
      no_links = ap (λ (x : Known). look_up (known_words x) row 0) now ∙ no_links-written k row c.args.word;
      marked = c.mark.ensures.marked ∙ ap (λ xs. xs ++ c.args.pin.1 ∷ []) (c.write-2.ensures.same.same_marks ∙ c.write.ensures.same.same_marks ∙ c.in_ok-row.ensures.same.same_marks ∙ c.requires.no_marks);
    }

pub returns-clause-word : goal.returns-clause-word
returns-clause-word c = ap (λ (x : Known). look_up (known_words x) c.in_ok-row.row 1) (written c) ∙ word-written (known_of c.find_row.new.pass) c.in_ok-row.row c.args.word

pub returns-clause-on : goal.returns-clause-on
returns-clause-on c =
    may_as (known_of c.args.pass.now) (known_of c.find_row.new.pass) (known_of c.mark.new.pass) (finds_goes c.args.rows.now.rows (known_of c.args.pass.now) (known_of c.find_row.new.pass) c.find_row.result c.find_row.ensures.found)
    (ap (λ (x : Known). x.looks) (written c)) (ap (λ (x : Known). x.core.retired) (written c))

pub returns-clause-takes : goal.returns-clause-takes
returns-clause-takes c =
    let sized = c.requires.is_pass.sized in
    takes_as c.args.rows.now.passes c.args.rows.now.rows 1 (known_of c.args.pass.now) (known_of c.find_row.new.pass) (known_of c.mark.new.pass)
    (finds_takes c.args.rows.now.passes c.args.rows.now.rows (known_of c.args.pass.now) (known_of c.find_row.new.pass) sized.passes_are sized.rows_are c.find_row.result c.find_row.ensures.found)
    (ap (λ (x : Known). x.looks) (written c))

pub returns-in_err-row-clause-takes : goal.returns-in_err-row-clause-takes
returns-in_err-row-clause-takes c =
    let sized = c.requires.is_pass.sized in
    finds_takes c.args.rows.now.passes c.args.rows.now.rows (known_of c.args.pass.now) (known_of c.find_row.new.pass) sized.passes_are sized.rows_are None c.in_err-row.ensures.found

pub returns-in_err-row-clause-full : goal.returns-in_err-row-clause-full
returns-in_err-row-clause-full c _ =
    let none = found_none c.args.rows.now.rows (known_of c.args.pass.now) (known_of c.find_row.new.pass) c.in_err-row.ensures.found in
    record {
      is_pass = c.in_err-row.ensures.pass;
      low = c.requires.low;
      current = ap length c.in_err-row.ensures.same.same_seen ∙ c.requires.current;
      pinned = ap (λ (x : Known). x.core.pinned) none.now ∙ c.requires.pinned;
      alone = ap (λ (x : Known). (pinned_copy x).rows) none.now ∙ c.requires.alone;
      no_marks = c.in_err-row.ensures.same.same_marks ∙ c.requires.no_marks;
      last = ap (λ (x : Known). length x.copies) none.now ∙ c.requires.last;
      older = λ b here. subst (λ n. b + 1 < n) (sym (ap (λ (x : Known). x.reserves) none.now)) (c.requires.older b (none.some_of b (subst (λ (x : Known). In b (versions_of x.core.retired)) none.now here)));
    }
