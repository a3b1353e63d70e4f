use Rattle.std.proofs.Common.{◌≡◌, [], ◌∷◌, length, refl, sym, subst, ◌∙◌}
use Rattle.era_rows.specs.Known.{known_words}
use Rattle.era_rows.specs.Passes.{known_of}
use Rattle.nd_rows.specs.Layout.{IsBoxRow}
use Rattle.nd_update.specs.Ways.{touched_box}
use Rattle.nd_update.proofs.Building.{does_both, read_does}
use Rattle.nd_update.proofs.Lacking.{does_lacks}
use Rattle.nd_update.proofs.Paying.{still_read, paid_still}
use Rattle.nd_update.proofs.Touching.{node_still, corners_long}
use Rattle.nd_update.proofs.Owning.{match_none, node_readable, node_count, node_links, node_grown, own_fresh, own_does, own_node_is, owned_same, unmarked_still}
use Rattle.nd_update.proofs.Reading.{only_any, only_then}
use Rattle.nd_update.proofs.inserts.own_node.Goals as goal

pub read_word-first-requires-clause-row : goal.read_word-first-requires-clause-row
read_word-first-requires-clause-row c = node_readable c.args.rows.now.shape (known_of c.args.pass.now) c.args.row c.requires.node.0 c.requires.node.1

pub grown_box-range-requires-clause-node : goal.grown_box-range-requires-clause-node
grown_box-range-requires-clause-node c =
    let ms = c.requires.node.0 in
    let has = c.requires.node.1 in (
      ms,
      node_still c.args.rows.now [] [] [] c.args.pass.now c.read_word-first.new.pass c.read_word-first.ensures.does c.args.rows.now.shape c.args.row ms (λ x here. refl) has,
      node_count c.args.rows.now.shape (known_of c.args.pass.now) c.args.row ms c.read_word-first.result has c.read_word-first.ensures.word,
    )

pub own_row-requires-clause-paid : goal.own_row-requires-clause-paid
own_row-requires-clause-paid c =
    let r = c.args.rows.now in
    let read = does_both r [] [] [] [] [] [] c.args.pass.now c.read_word-first.new.pass c.grown_box-range.new.pass c.read_word-first.ensures.does c.grown_box-range.ensures.does in
    paid_still r 0 [] [] c.args.pass.now c.grown_box-range.new.pass c.requires.building read c.requires.paid

pub own_row-requires-clause-row : goal.own_row-requires-clause-row
own_row-requires-clause-row c =
    let r = c.args.rows.now in
    let ms = c.requires.node.0 in
    let read = does_both r [] [] [] [] [] [] c.args.pass.now c.read_word-first.new.pass c.grown_box-range.new.pass c.read_word-first.ensures.does c.grown_box-range.ensures.does in
    node_readable r.shape (known_of c.grown_box-range.new.pass) c.args.row ms (node_still r [] [] [] c.args.pass.now c.grown_box-range.new.pass read r.shape c.args.row ms (λ x here. refl) c.requires.node.1)

pub own_row-requires-clause-unmarked : goal.own_row-requires-clause-unmarked
own_row-requires-clause-unmarked c here =
    let r = c.args.rows.now in
    let read = does_both r [] [] [] [] [] [] c.args.pass.now c.read_word-first.new.pass c.grown_box-range.new.pass c.read_word-first.ensures.does c.grown_box-range.ensures.does in
    unmarked_still r c.args.pass.now c.grown_box-range.new.pass read c.args.row c.requires.unmarked here

pub own_row-requires-clause-read : goal.own_row-requires-clause-read
own_row-requires-clause-read c =
    still_read c.args.rows.now [] [] [] c.read_word-first.new.pass c.grown_box-range.new.pass c.read_word-first.ensures.does.building c.grown_box-range.ensures.does c.args.row c.read_word-first.ensures.read

pub own_row-requires-clause-links : goal.own_row-requires-clause-links
own_row-requires-clause-links c =
    let r = c.args.rows.now in
    let ms = c.requires.node.0 in
    let read = does_both r [] [] [] [] [] [] c.args.pass.now c.read_word-first.new.pass c.grown_box-range.new.pass c.read_word-first.ensures.does c.grown_box-range.ensures.does in
    node_links r.shape (known_of c.args.pass.now) (known_of c.grown_box-range.new.pass) c.args.row ms c.read_word-first.result c.requires.node.1 c.read_word-first.ensures.word
    (node_still r [] [] [] c.args.pass.now c.grown_box-range.new.pass read r.shape c.args.row ms (λ x here. refl) c.requires.node.1)

pub returns-in_err-own-clause-owned : goal.returns-in_err-own-clause-owned
returns-in_err-own-clause-owned c =
    let r = c.args.rows.now in
    let read = does_both r [] [] [] [] [] [] c.args.pass.now c.read_word-first.new.pass c.grown_box-range.new.pass c.read_word-first.ensures.does c.grown_box-range.ensures.does in
    match_none c.from_residual.result _ _ c.from_residual.ensures (does_lacks r [] [] [] c.args.pass.now c.grown_box-range.new.pass c.own_row.new.pass read c.in_err-own.ensures.owned)

pub write_box-requires-clause-fresh : goal.write_box-requires-clause-fresh
write_box-requires-clause-fresh c =
    let owned = c.in_ok-own.ensures.owned in
    own_fresh c.args.rows.now c.args.row c.in_ok-own.own owned.0 owned.1 c.grown_box-range.new.pass c.own_row.new.pass owned.2 owned.3

pub write_box-requires-clause-parts : goal.write_box-requires-clause-parts
write_box-requires-clause-parts c =
    let r = c.args.rows.now in
    let ms = c.requires.node.0 in
    let has = c.requires.node.1 in
    let still = node_still r [] [] [] c.args.pass.now c.read_word-first.new.pass c.read_word-first.ensures.does r.shape c.args.row ms (λ x here. refl) has in
    let is = c.grown_box-range.ensures.grown ms still (node_count r.shape (known_of c.args.pass.now) c.args.row ms c.read_word-first.result has c.read_word-first.ensures.word) in
    subst (λ b. (length b.ideal ≡ r.shape) × (length b.nadir ≡ r.shape)) (sym is) (corners_long (touched_box c.args.value.now ms) r.shape (node_grown r.shape (known_of c.args.pass.now) c.args.row ms c.args.value.now c.requires.parts has))

pub returns-clause-owned : goal.returns-clause-owned
returns-clause-owned c =
    let r = c.args.rows.now in
    let owned = c.in_ok-own.ensures.owned in
    let own = c.in_ok-own.own in
    let read = does_both r [] [] [] [] [] [] c.args.pass.now c.read_word-first.new.pass c.grown_box-range.new.pass c.read_word-first.ensures.does c.grown_box-range.ensures.does in (
      owned.0,
      owned.1,
      read_does r owned.0 owned.1 (own ∷ []) c.args.pass.now c.grown_box-range.new.pass c.write_box.new.pass read
          (own_does r c.args.row own owned.0 owned.1 c.grown_box-range.new.pass c.own_row.new.pass owned.2 owned.3 c.write_box.new.pass c.write_box.ensures.does),
      owned_same r c.args.pass.now c.grown_box-range.new.pass read c.args.row own owned.0 owned.1 owned.3,
    )

pub returns-clause-paid : goal.returns-clause-paid
returns-clause-paid c =
    paid_still c.args.rows.now 0 [] (c.in_ok-own.own ∷ []) c.own_row.new.pass c.write_box.new.pass c.in_ok-own.ensures.owned.2.building c.write_box.ensures.does c.in_ok-own.ensures.paid

pub returns-clause-node : goal.returns-clause-node
returns-clause-node c ms has =
    let r = c.args.rows.now in
    let owned = c.in_ok-own.ensures.owned in
    let own = c.in_ok-own.own in
    let first = node_still r [] [] [] c.args.pass.now c.read_word-first.new.pass c.read_word-first.ensures.does r.shape c.args.row ms (λ x here. refl) has in
    let still = node_still r [] [] [] c.read_word-first.new.pass c.grown_box-range.new.pass c.grown_box-range.ensures.does r.shape c.args.row ms (λ x here. refl) first in
    let read = does_both r [] [] [] [] [] [] c.args.pass.now c.read_word-first.new.pass c.grown_box-range.new.pass c.read_word-first.ensures.does c.grown_box-range.ensures.does in
    let is = c.grown_box-range.ensures.grown ms first (node_count r.shape (known_of c.args.pass.now) c.args.row ms c.read_word-first.result has c.read_word-first.ensures.word) in
    own_node_is r c.args.row own owned.0 owned.1 c.grown_box-range.new.pass c.own_row.new.pass owned.2 owned.3 c.write_box.new.pass c.write_box.ensures.does r.shape c.args.value.now ms c.requires.parts still
    (λ kind ls low few is. c.in_ok-own.ensures.links kind ls is (c.read_word-first.ensures.word _ (sym (read.elsewhere c.args.row 0 refl) ∙ is.first)) low few)
    c.write_box.ensures.outside (subst (IsBoxRow r.shape (known_words (known_of c.write_box.new.pass)) own) is c.write_box.ensures.boxed)

pub returns-clause-boxed : goal.returns-clause-boxed
returns-clause-boxed c ms has =
    let r = c.args.rows.now in
    let first = node_still r [] [] [] c.args.pass.now c.read_word-first.new.pass c.read_word-first.ensures.does r.shape c.args.row ms (λ x here. refl) has in
    let is = c.grown_box-range.ensures.grown ms first (node_count r.shape (known_of c.args.pass.now) c.args.row ms c.read_word-first.result has c.read_word-first.ensures.word) in
    subst (IsBoxRow r.shape (known_words (known_of c.write_box.new.pass)) c.in_ok-own.own) is c.write_box.ensures.boxed

pub returns-in_err-own-clause-only : goal.returns-in_err-own-clause-only
returns-in_err-own-clause-only c =
    let r = c.args.rows.now in
    let row = c.args.row ∷ [] in
    let end = c.own_row.new.pass in
    only_then r [] [] [] row c.args.pass.now c.read_word-first.new.pass end c.read_word-first.ensures.does c.read_word-first.ensures.only
    (only_then r [] [] [] row c.read_word-first.new.pass c.grown_box-range.new.pass end c.grown_box-range.ensures.does c.grown_box-range.ensures.only c.own_row.ensures.only)

pub returns-clause-only : goal.returns-clause-only
returns-clause-only c =
    let r = c.args.rows.now in
    let row = c.args.row ∷ [] in
    let owned = c.in_ok-own.ensures.owned in
    let end = c.write_box.new.pass in
    only_then r [] [] [] row c.args.pass.now c.read_word-first.new.pass end c.read_word-first.ensures.does c.read_word-first.ensures.only
    (only_then r [] [] [] row c.read_word-first.new.pass c.grown_box-range.new.pass end c.grown_box-range.ensures.does c.grown_box-range.ensures.only
    (only_then r owned.0 owned.1 owned.0 row c.grown_box-range.new.pass c.own_row.new.pass end owned.2 c.own_row.ensures.only (only_any row (known_of c.own_row.new.pass) (known_of end) c.write_box.ensures.only)))
