use Rattle.std.proofs.Common.{◌+◌, Some, inr, [], ◌∷◌, length, ap, ◌∙◌, arith, ◌≡◌, ◌/◌}
use Rattle.era_core.proofs.ListFacts.{in_head}
use Rattle.era_rows.specs.Passes.{known_of, marked_of}
use Rattle.nd_update.proofs.Building.{now_fresh, still_fresh, mark_does}
use Rattle.nd_update.proofs.Owning.{match_none, copy_links_still, copied_apart, copied_here, copied_unmarked, copy_does, copy_paid, copy_row}
use Rattle.nd_update.proofs.Paying.{paid_more}
use Rattle.nd_update.proofs.Reading.{only_any, only_then, then_only, only_list}
use Rattle.nd_update.proofs.inserts.copy_node.Goals as goal

pub take_row-requires-clause-paid : goal.take_row-requires-clause-paid
take_row-requires-clause-paid c = paid_more 0 (c.args.rows.now.shape + 2) (known_of c.args.pass.now) (marked_of c.args.pass.now) (omega arith) c.requires.paid

pub returns-in_err-own-clause-does : goal.returns-in_err-own-clause-does
returns-in_err-own-clause-does c = match_none c.from_residual.result _ _ c.from_residual.ensures c.in_err-own.ensures.does

pub write_word-requires-clause-fresh : goal.write_word-requires-clause-fresh
write_word-requires-clause-fresh c = let own = c.in_ok-own.own in now_fresh c.args.rows.now (own ∷ []) [] [] c.args.pass.now c.take_row.new.pass c.in_ok-own.ensures.does own (in_head own [])

pub copy_links-requires-clause-to : goal.copy_links-requires-clause-to
copy_links-requires-clause-to c =
    let own = c.in_ok-own.own in
    still_fresh c.args.rows.now [] [] (own ∷ []) c.take_row.new.pass c.write_word.new.pass c.write_word.ensures.does own
    (now_fresh c.args.rows.now (own ∷ []) [] [] c.args.pass.now c.take_row.new.pass c.in_ok-own.ensures.does own (in_head own []))

pub copy_links-requires-clause-links : goal.copy_links-requires-clause-links
copy_links-requires-clause-links c =
    let own = c.in_ok-own.own in
    let links = c.requires.links in (
      links.1,
      copy_links_still c.args.rows.now c.args.row own c.args.pass.now c.take_row.new.pass c.write_word.new.pass c.in_ok-own.ensures.does c.write_word.ensures.does (inr c.requires.row) links.1 links.2.linked,
      (let first = links.3 in let low = links.4 in omega (arith, first, low)),
    )

pub copy_links-requires-clause-apart : goal.copy_links-requires-clause-apart
copy_links-requires-clause-apart c =
    copied_apart c.args.rows.now c.args.row c.in_ok-own.own c.args.pass.now c.take_row.new.pass c.write_word.new.pass c.in_ok-own.ensures.does c.write_word.ensures.does (inr c.requires.row)

pub returns-clause-does : goal.returns-clause-does
returns-clause-does c =
    let own = c.in_ok-own.own in
    let r = c.args.rows.now in
    let copied = c.copy_links.ensures.does in
    let here = copied_here r c.args.row own c.args.pass.now c.take_row.new.pass c.write_word.new.pass c.in_ok-own.ensures.does c.write_word.ensures.does (inr c.requires.row) c.copy_links.new.pass copied c.requires.row in
    let unmarked = copied_unmarked r c.args.row own c.args.pass.now c.take_row.new.pass c.write_word.new.pass c.in_ok-own.ensures.does c.write_word.ensures.does (inr c.requires.row) c.copy_links.new.pass copied c.requires.unmarked in
    let marks = mark_does r c.copy_links.new.pass c.mark.new.pass c.args.row copied.building here unmarked c.mark.ensures.pass c.mark.ensures.same c.mark.ensures.known c.mark.ensures.marked in
    copy_does c.args.rows.now c.args.row own c.args.pass.now c.take_row.new.pass c.write_word.new.pass c.in_ok-own.ensures.does c.write_word.ensures.does (inr c.requires.row) c.copy_links.new.pass c.mark.new.pass c.copy_links.ensures.does
    marks

pub returns-clause-paid : goal.returns-clause-paid
returns-clause-paid c =
    let own = c.in_ok-own.own in
    let r = c.args.rows.now in
    let copied = c.copy_links.ensures.does in
    let here = copied_here r c.args.row own c.args.pass.now c.take_row.new.pass c.write_word.new.pass c.in_ok-own.ensures.does c.write_word.ensures.does (inr c.requires.row) c.copy_links.new.pass copied c.requires.row in
    let unmarked = copied_unmarked r c.args.row own c.args.pass.now c.take_row.new.pass c.write_word.new.pass c.in_ok-own.ensures.does c.write_word.ensures.does (inr c.requires.row) c.copy_links.new.pass copied c.requires.unmarked in
    let marks = mark_does r c.copy_links.new.pass c.mark.new.pass c.args.row copied.building here unmarked c.mark.ensures.pass c.mark.ensures.same c.mark.ensures.known c.mark.ensures.marked in
    copy_paid r c.args.row own c.args.pass.now c.take_row.new.pass c.write_word.new.pass c.in_ok-own.ensures.does c.write_word.ensures.does (inr c.requires.row) c.copy_links.new.pass c.mark.new.pass copied marks 0 c.requires.building c.requires.unmarked c.requires.read c.requires.paid

pub returns-clause-links : goal.returns-clause-links
returns-clause-links c kind links is first low few =
    let own = c.in_ok-own.own in
    let r = c.args.rows.now in
    let copied = c.copy_links.ensures.does in
    let here = copied_here r c.args.row own c.args.pass.now c.take_row.new.pass c.write_word.new.pass c.in_ok-own.ensures.does c.write_word.ensures.does (inr c.requires.row) c.copy_links.new.pass copied c.requires.row in
    let unmarked = copied_unmarked r c.args.row own c.args.pass.now c.take_row.new.pass c.write_word.new.pass c.in_ok-own.ensures.does c.write_word.ensures.does (inr c.requires.row) c.copy_links.new.pass copied c.requires.unmarked in
    let marks = mark_does r c.copy_links.new.pass c.mark.new.pass c.args.row copied.building here unmarked c.mark.ensures.pass c.mark.ensures.same c.mark.ensures.known c.mark.ensures.marked in
    let count : length links ≡ c.args.first / 4 = omega (arith, first, low) in
    copy_row c.args.rows.now c.args.row own c.args.pass.now c.take_row.new.pass c.write_word.new.pass c.in_ok-own.ensures.does c.write_word.ensures.does (inr c.requires.row) c.copy_links.new.pass c.mark.new.pass c.copy_links.ensures.does
    marks
    kind _ links (c.write_word.ensures.word ∙ ap Some first) c.copy_links.ensures.outside
    (c.copy_links.ensures.links links
    (copy_links_still c.args.rows.now c.args.row own c.args.pass.now c.take_row.new.pass c.write_word.new.pass c.in_ok-own.ensures.does c.write_word.ensures.does (inr c.requires.row) links is.linked) count)

pub returns-in_err-own-clause-only : goal.returns-in_err-own-clause-only
returns-in_err-own-clause-only c = only_any (c.args.row ∷ []) (known_of c.args.pass.now) (known_of c.take_row.new.pass) c.take_row.ensures.only

pub returns-clause-only : goal.returns-clause-only
returns-clause-only c =
    let r = c.args.rows.now in
    let own = c.in_ok-own.own in
    let row = c.args.row ∷ [] in
    let end = c.mark.new.pass in
    then_only r (own ∷ []) [] [] row c.args.pass.now c.take_row.new.pass end c.in_ok-own.ensures.does c.take_row.ensures.only
    (then_only r [] [] (own ∷ []) row c.take_row.new.pass c.write_word.new.pass end c.write_word.ensures.does c.write_word.ensures.only
    (only_then r [] [] (own ∷ []) row c.write_word.new.pass c.copy_links.new.pass end c.copy_links.ensures.does c.copy_links.ensures.only (only_list row c.copy_links.new.pass end c.mark.ensures.known)))
