use Rattle.std.proofs.Common.{not, [], ◌∷◌, ◌++◌, length, set, sym, ap, ◌∙◌, arith}
use Rattle.std.proofs.lemmas.List.{length-set}
use Rattle.era_core.specs.Versions.{Copy}
use Rattle.era_rows.specs.Known.{pinned_copy}
use Rattle.era_rows.specs.Passes.{known_of, work_of}
use Rattle.nd_rows.specs.declared.layout.TheConstants.{FIRST_LINK}
use Rattle.nd_rows.specs.Layout.{HasWords}
use Rattle.nd_rows.proofs.Pending.{links_of, link_row, inner_links}
use Rattle.nd_update.specs.Left.{entry, next}
use Rattle.nd_update.proofs.Building.{looks_do, does_read}
use Rattle.nd_update.proofs.Removing.{row_still, stay_pinned}
use Rattle.nd_update.proofs.Listing.{plain_outer, leaf_told, inner_told, room_kids, stays_here, told_here, told_more}
use Rattle.nd_update.proofs.Reading.{only_then}
use Rattle.nd_update.proofs.Opening.{only_at, only_twice, only_kept}
use Rattle.nd_update.proofs.ListingNode.{looks_work_does, node_begin, node_row, node_only, node_small, node_first, node_few, node_links, node_row_there, node_under, node_over}
use Rattle.nd_update.proofs.removes.list_node.Goals as goal

pub overflow_cast-row : goal.overflow_cast-row
overflow_cast-row c =
    let n = c.requires.node in
    let small = node_small c.args.rows.now c.args.pass.now n.0 n.1 n.2 c.args.k c.work-row.result n.3 n.4 c.work-row.ensures in omega (arith, small)

pub sided-side-requires-clause-row : goal.sided-side-requires-clause-row
sided-side-requires-clause-row c = let n = c.requires.node in node_row c.args.rows.now c.args.pass.now n.0 n.1 n.2 c.args.k c.work-row.result n.3 n.4 c.work-row.ensures

pub returns-then-is_none-clause-does : goal.returns-then-is_none-clause-does
returns-then-is_none-clause-does c = looks_do c.args.rows.now (c.work-row.result ∷ []) c.args.pass.now c.sided-side.new.pass c.requires.building c.sided-side.ensures.looks

pub returns-then-is_none-clause-listed : goal.returns-then-is_none-clause-listed
returns-then-is_none-clause-listed c ns others formed lists at more =
    let r = c.args.rows.now in
    let p = c.args.pass.now in
    let row = c.work-row.result in
    let begin = node_begin r p ns others lists c.args.k row at more c.work-row.ensures in
    let under = node_under r p ns others lists c.args.k row at more c.work-row.ensures c.args.value.now c.requires.parts formed c.sided-side.result c.sided-side.ensures.answer (ap not (c.is_none.ensures ∙ ap not c.if-is_none.true)) in
    stays_here r.shape (pinned_copy (known_of p)) r.rows ns others (work_of p) lists c.args.k row at begin (entry c.args.value.now ns) (next c.args.value.now ns)
    (plain_outer c.args.value.now r.shape (pinned_copy (known_of p)) row ns begin under) (work_of c.sided-side.new.pass) c.sided-side.ensures.work

pub returns-then-is_none-clause-only : goal.returns-then-is_none-clause-only
returns-then-is_none-clause-only c ns others lists at more =
    let r = c.args.rows.now in
    let p = c.args.pass.now in
    let row = c.work-row.result in
    let q = c.sided-side.new.pass in
    node_only r p ns others lists c.args.k row at more c.work-row.ensures (known_of p) (known_of q) (only_at r (row ∷ []) p q c.requires.building c.sided-side.ensures.looks)

pub word-first-requires-clause-row : goal.word-first-requires-clause-row
word-first-requires-clause-row c =
    let n = c.requires.node in
    node_row_there c.args.rows.now c.args.pass.now n.0 n.1 n.2 c.args.k c.work-row.result n.3 n.4 c.work-row.ensures c.sided-side.new.pass c.sided-side.ensures.looks

pub overflow_cast-count : goal.overflow_cast-count
overflow_cast-count c =
    let n = c.requires.node in
    let few = node_few c.args.rows.now c.args.pass.now n.0 n.1 n.2 c.args.k c.work-row.result n.3 n.4 c.work-row.ensures c.sided-side.new.pass c.sided-side.ensures.looks c.word-first.result c.word-first.ensures.word in
    omega (arith, few)

pub returns-then-first-eq-LEAF-clause-does : goal.returns-then-first-eq-LEAF-clause-does
returns-then-first-eq-LEAF-clause-does c =
    let set = c.work_set.ensures in
    looks_work_does c.args.rows.now c.args.pass.now c.sided-side.new.pass c.word-first.new.pass c.work_set.new.self c.work-row.result c.requires.building c.sided-side.ensures.looks c.word-first.ensures.looks
    set.pass set.number set.known set.marks set.memory

pub returns-then-first-eq-LEAF-clause-listed : goal.returns-then-first-eq-LEAF-clause-listed
returns-then-first-eq-LEAF-clause-listed c ns others formed lists at more =
    let r = c.args.rows.now in
    let p = c.args.pass.now in
    let row = c.work-row.result in
    let begin = node_begin r p ns others lists c.args.k row at more c.work-row.ensures in
    let there = node_first r p ns others lists c.args.k row at more c.work-row.ensures c.sided-side.new.pass c.sided-side.ensures.looks c.word-first.result c.word-first.ensures.word in
    let over = node_over r p ns others lists c.args.k row at more c.work-row.ensures c.args.value.now c.requires.parts formed c.sided-side.result c.sided-side.ensures.answer (ap not (c.is_none.ensures ∙ ap not c.if-is_none.false)) in
    told_here r.shape (pinned_copy (known_of p)) r.rows ns others (work_of p) lists c.args.k row at begin c.told.result (entry c.args.value.now ns) (next c.args.value.now ns)
    (let told = leaf_told c.args.value.now r.shape (pinned_copy (known_of p)) row c.word-first.result ns begin there formed c.if-first-eq-LEAF.true over in (told.0 ∙ sym c.told.ensures, told.1))
    (work_of c.work_set.new.self) (c.work_set.ensures.work ∙ ap (λ ws. set ws c.args.k c.told.result) (c.word-first.ensures.work ∙ c.sided-side.ensures.work))

pub returns-then-first-eq-LEAF-clause-only : goal.returns-then-first-eq-LEAF-clause-only
returns-then-first-eq-LEAF-clause-only c ns others lists at more =
    let r = c.args.rows.now in
    let p = c.args.pass.now in
    let row = c.work-row.result in
    let s = c.word-first.new.pass in
    let t = c.work_set.new.self in
    node_only r p ns others lists c.args.k row at more c.work-row.ensures (known_of p) (known_of t)
    (only_kept (row ∷ []) (known_of p) s t c.work_set.ensures.known (only_twice r (row ∷ []) p c.sided-side.new.pass s c.requires.building c.sided-side.ensures.looks c.word-first.ensures.looks))

pub told-requires-2 : goal.told-requires-2
told-requires-2 c =
    let n = c.requires.node in
    let few = node_few c.args.rows.now c.args.pass.now n.0 n.1 n.2 c.args.k c.work-row.result n.3 n.4 c.work-row.ensures c.sided-side.new.pass c.sided-side.ensures.looks c.word-first.result c.word-first.ensures.word in omega (arith, few)

pub list_links-requires-clause-building : goal.list_links-requires-clause-building
list_links-requires-clause-building c =
    let set = c.work_set-2.ensures in
    (looks_work_does c.args.rows.now c.args.pass.now c.sided-side.new.pass c.word-first.new.pass c.work_set-2.new.self c.work-row.result c.requires.building c.sided-side.ensures.looks c.word-first.ensures.looks
    set.pass set.number set.known set.marks set.memory).building

pub list_links-requires-clause-row : goal.list_links-requires-clause-row
list_links-requires-clause-row c =
    let n = c.requires.node in
    let set = c.work_set-2.ensures in
    let p = c.args.pass.now in
    let does = looks_work_does c.args.rows.now p c.sided-side.new.pass c.word-first.new.pass c.work_set-2.new.self c.work-row.result c.requires.building c.sided-side.ensures.looks c.word-first.ensures.looks
    set.pass set.number set.known set.marks set.memory in
    row_still c.args.rows.now [] [] [] p c.work_set-2.new.self does c.work-row.result (node_row c.args.rows.now p n.0 n.1 n.2 c.args.k c.work-row.result n.3 n.4 c.work-row.ensures)

pub list_links-requires-clause-links : goal.list_links-requires-clause-links
list_links-requires-clause-links c =
    let n = c.requires.node in
    let set = c.work_set-2.ensures in
    let r = c.args.rows.now in
    let p = c.args.pass.now in
    let row = c.work-row.result in
    let does = looks_work_does r p c.sided-side.new.pass c.word-first.new.pass c.work_set-2.new.self row c.requires.building c.sided-side.ensures.looks c.word-first.ensures.looks
    set.pass set.number set.known set.marks set.memory in
    let begin = node_begin r p n.0 n.1 n.2 c.args.k row n.3 n.4 c.work-row.ensures in (
      links_of n.0,
      stay_pinned r (λ (x : Copy). HasWords x.cells row FIRST_LINK (links_of n.0)) [] [] [] p c.work_set-2.new.self does (link_row r.shape (pinned_copy (known_of p)) row n.0 begin).linked,
      node_links r p n.0 n.1 n.2 c.args.k row n.3 n.4 c.work-row.ensures c.sided-side.new.pass c.sided-side.ensures.looks c.word-first.result c.word-first.ensures.word,
    )

pub list_links-requires-clause-few : goal.list_links-requires-clause-few
list_links-requires-clause-few c =
    let n = c.requires.node in
    node_few c.args.rows.now c.args.pass.now n.0 n.1 n.2 c.args.k c.work-row.result n.3 n.4 c.work-row.ensures c.sided-side.new.pass c.sided-side.ensures.looks c.word-first.result c.word-first.ensures.word

pub list_links-requires-clause-room : goal.list_links-requires-clause-room
list_links-requires-clause-room c =
    let n = c.requires.node in
    let r = c.args.rows.now in
    let p = c.args.pass.now in
    let row = c.work-row.result in
    let begin = node_begin r p n.0 n.1 n.2 c.args.k row n.3 n.4 c.work-row.ensures in
    let there = node_first r p n.0 n.1 n.2 c.args.k row n.3 n.4 c.work-row.ensures c.sided-side.new.pass c.sided-side.ensures.looks c.word-first.result c.word-first.ensures.word in
    let links = node_links r p n.0 n.1 n.2 c.args.k row n.3 n.4 c.work-row.ensures c.sided-side.new.pass c.sided-side.ensures.looks c.word-first.result c.word-first.ensures.word in
    let room = room_kids r.shape (pinned_copy (known_of p)) r.rows n.0 n.1 (work_of p) n.2 c.args.k row n.3 begin in
    let kids = ap length (inner_links r.shape (pinned_copy (known_of p)) row n.0 c.word-first.result begin there c.if-first-eq-LEAF.false) in
    let len = ap length (c.work_set-2.ensures.work ∙ ap (λ ws. set ws c.args.k c.told-2.result) (c.word-first.ensures.work ∙ c.sided-side.ensures.work)) ∙ length-set (work_of p) c.args.k c.told-2.result in
    omega (arith, links, room, kids, len)

pub returns-clause-does : goal.returns-clause-does
returns-clause-does c =
    let set = c.work_set-2.ensures in
    let p = c.args.pass.now in
    let does = looks_work_does c.args.rows.now p c.sided-side.new.pass c.word-first.new.pass c.work_set-2.new.self c.work-row.result c.requires.building c.sided-side.ensures.looks c.word-first.ensures.looks
    set.pass set.number set.known set.marks set.memory in
    does_read c.args.rows.now [] [] [] p c.work_set-2.new.self c.list_links.new.pass does c.list_links.ensures.does

pub returns-clause-listed : goal.returns-clause-listed
returns-clause-listed c ns others formed lists at more =
    let r = c.args.rows.now in
    let p = c.args.pass.now in
    let row = c.work-row.result in
    let set_are = c.work_set-2.ensures in
    let does = looks_work_does r p c.sided-side.new.pass c.word-first.new.pass c.work_set-2.new.self row c.requires.building c.sided-side.ensures.looks c.word-first.ensures.looks
    set_are.pass set_are.number set_are.known set_are.marks set_are.memory in
    let begin = node_begin r p ns others lists c.args.k row at more c.work-row.ensures in
    let there = node_first r p ns others lists c.args.k row at more c.work-row.ensures c.sided-side.new.pass c.sided-side.ensures.looks c.word-first.result c.word-first.ensures.word in
    let links = node_links r p ns others lists c.args.k row at more c.work-row.ensures c.sided-side.new.pass c.sided-side.ensures.looks c.word-first.result c.word-first.ensures.word in
    let over = node_over r p ns others lists c.args.k row at more c.work-row.ensures c.args.value.now c.requires.parts formed c.sided-side.result c.sided-side.ensures.answer (ap not (c.is_none.ensures ∙ ap not c.if-is_none.false)) in
    let words = stay_pinned r (λ (x : Copy). HasWords x.cells row FIRST_LINK (links_of ns)) [] [] [] p c.work_set-2.new.self does (link_row r.shape (pinned_copy (known_of p)) row ns begin).linked in
    told_more r.shape (pinned_copy (known_of p)) r.rows ns others (work_of p) lists c.args.k row at begin c.told-2.result (entry c.args.value.now ns) (next c.args.value.now ns) (links_of ns)
    (let told = inner_told c.args.value.now r.shape (pinned_copy (known_of p)) row c.word-first.result ns begin there c.if-first-eq-LEAF.false over in (told.0 ∙ sym c.told-2.ensures, told.1))
    (work_of c.list_links.new.pass)
    (c.list_links.ensures.work (links_of ns) words links ∙ ap (λ ws. ws ++ links_of ns) (set_are.work ∙ ap (λ ws. set ws c.args.k c.told-2.result) (c.word-first.ensures.work ∙ c.sided-side.ensures.work)))

pub returns-clause-only : goal.returns-clause-only
returns-clause-only c ns others lists at more =
    let r = c.args.rows.now in
    let p = c.args.pass.now in
    let row = c.work-row.result in
    let s = c.word-first.new.pass in
    let t = c.work_set-2.new.self in
    let u = c.list_links.new.pass in
    let set = c.work_set-2.ensures in
    let does = looks_work_does r p c.sided-side.new.pass s t row c.requires.building c.sided-side.ensures.looks c.word-first.ensures.looks set.pass set.number set.known set.marks set.memory in
    node_only r p ns others lists c.args.k row at more c.work-row.ensures (known_of p) (known_of u)
    (only_then r [] [] [] (row ∷ []) p t u does (only_kept (row ∷ []) (known_of p) s t set.known (only_twice r (row ∷ []) p c.sided-side.new.pass s c.requires.building c.sided-side.ensures.looks c.word-first.ensures.looks)) c.list_links.ensures.only)
