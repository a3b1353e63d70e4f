use Rattle.std.proofs.Common.{[], length, ap, ◌∙◌, arith}
use Rattle.era_rows.specs.Known.{pinned_copy}
use Rattle.era_rows.specs.Passes.{known_of, work_of}
use Rattle.nd_rows.specs.Layout.{IsTreeOf}
use Rattle.nd_rows.specs.Nodes.{Nodes}
use Rattle.nd_update.specs.Needed.{opened}
use Rattle.nd_update.proofs.Building.{read_does}
use Rattle.nd_update.proofs.Reading.{only_then}
use Rattle.nd_update.proofs.RemovingAll.{IsRootRead, some_rows, root_among, root_read, root_formed, root_alone}
use Rattle.nd_update.proofs.removes.list_tree.Goals as goal
use Rattle.nd_update.proofs.removes.list_tree.Goals.{After-work_push}

pub word-first-requires-clause-row : goal.word-first-requires-clause-row
word-first-requires-clause-row c = root_among c.args.rows.now c.args.value.now c.args.pass.now c.requires.tree.0 c.args.root c.requires.tree.1 c.requires.root

pub work_push-requires : goal.work_push-requires
work_push-requires c =
    let tree = c.requires.tree in
    let some_row = some_rows c.args.rows.now c.args.pass.now tree.0 c.requires.building.is_pass tree.1 in
    let none = ap length (c.word-first.ensures.work ∙ c.requires.idle) in omega (arith, some_row, none)

-- the root's first word was read, and its row put on the list
read_root : (c : After-work_push) (t : Nodes) → IsTreeOf c.args.rows.now.shape (pinned_copy (known_of c.args.pass.now)) t
    → IsRootRead c.args.rows.now c.args.value.now c.args.pass.now c.work_push.new.self t c.args.root
read_root c t is =
    let word = c.word-first.ensures in
    let push = c.work_push.ensures in
    root_read c.args.rows.now c.args.value.now c.args.pass.now t c.args.root is c.requires.root c.word-first.new.pass c.work_push.new.self c.requires.building word.looks word.work c.requires.idle
    push.pass push.number push.known push.marks push.memory push.work

pub returns-then-first-eq0-clause-does : goal.returns-then-first-eq0-clause-does
returns-then-first-eq0-clause-does c = (read_root (goal.at.returns-then-first-eq0-clause-does c).After-work_push c.requires.tree.0 c.requires.tree.1).does

pub returns-then-first-eq0-clause-listed : goal.returns-then-first-eq0-clause-listed
returns-then-first-eq0-clause-listed c t is =
    root_alone c.args.rows.now c.args.value.now c.args.pass.now t c.args.root is c.requires.root c.word-first.result c.word-first.ensures.word c.if-first-eq0.true (work_of c.work_push.new.self)
    (read_root (goal.at.returns-then-first-eq0-clause-listed c).After-work_push t is).work

pub returns-then-first-eq0-clause-only : goal.returns-then-first-eq0-clause-only
returns-then-first-eq0-clause-only c t is = (read_root (goal.at.returns-then-first-eq0-clause-only c).After-work_push t is).only

pub list_nodes-requires-clause-building : goal.list_nodes-requires-clause-building
list_nodes-requires-clause-building c = (read_root (goal.at.list_nodes-requires-clause-building c).After-work_push c.requires.tree.0 c.requires.tree.1).does.building

pub list_nodes-requires-clause-tree : goal.list_nodes-requires-clause-tree
list_nodes-requires-clause-tree c =
    let tree = c.requires.tree in (
      tree.0,
      root_formed c.args.rows.now c.args.value.now c.args.pass.now tree.0 c.args.root tree.1 c.requires.root c.word-first.result c.word-first.ensures.word c.if-first-eq0.false,
      (read_root (goal.at.list_nodes-requires-clause-tree c).After-work_push tree.0 tree.1).lists,
    )

pub returns-clause-does : goal.returns-clause-does
returns-clause-does c =
    let read = read_root (goal.at.returns-clause-does c).After-work_push c.requires.tree.0 c.requires.tree.1 in
    read_does c.args.rows.now [] [] [] c.args.pass.now c.work_push.new.self c.list_nodes.new.pass read.does c.list_nodes.ensures.does

pub returns-clause-listed : goal.returns-clause-listed
returns-clause-listed c t is =
    c.list_nodes.ensures.listed t (root_formed c.args.rows.now c.args.value.now c.args.pass.now t c.args.root is c.requires.root c.word-first.result c.word-first.ensures.word c.if-first-eq0.false)
    (read_root (goal.at.returns-clause-listed c).After-work_push t is).lists

pub returns-clause-only : goal.returns-clause-only
returns-clause-only c t is =
    let r = c.args.rows.now in
    let p = c.args.pass.now in
    let v = c.args.value.now in
    let read = read_root (goal.at.returns-clause-only c).After-work_push t is in
    only_then r [] [] [] (opened v t) p c.work_push.new.self c.list_nodes.new.pass read.does read.only
    (c.list_nodes.ensures.only t (root_formed r v p t c.args.root is c.requires.root c.word-first.result c.word-first.ensures.word c.if-first-eq0.false) read.lists)
