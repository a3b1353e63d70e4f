use Rattle.std.proofs.Common.{◌≡◌, false, ◌++◌, refl, ◌∙◌, arith}
use Rattle.era_core.proofs.ListFacts.{in-append_left}
use Rattle.era_rows.specs.Known.{pinned_copy}
use Rattle.era_rows.specs.Passes.{known_of}
use Rattle.pls_archive.specs.Reply.{some_weakly_dominates}
use Rattle.nd_rows.specs.Layout.{IsTreeOf}
use Rattle.nd_rows.specs.Nodes.{Nodes, points_of}
use Rattle.nd_update.specs.Building.{Lacks}
use Rattle.nd_update.specs.Needed.{ReadsOnly, opened, on_way}
use Rattle.nd_update.specs.Removal.{without_dominated}
use Rattle.nd_update.proofs.Building.{builds_both, may_build}
use Rattle.nd_update.proofs.Going.{goes_does, goes_both}
use Rattle.nd_update.proofs.Lacking.{does_lacks}
use Rattle.nd_update.proofs.Reading.{only_more, only_append}
use Rattle.nd_update.proofs.Publishing.{may_be, may_on, may_update, still_may, publishable}
use Rattle.nd_update.proofs.builds.write_tree.Goals as goal
use Rattle.nd_update.proofs.builds.write_tree.Goals.{In_err-root, After-insert}

pub remove-requires-clause-building : goal.remove-requires-clause-building
remove-requires-clause-building c = may_build c.args.rows.now c.args.pass.now c.requires.tree.1.0.is_pass c.requires.counted

pub remove-requires-clause-pinned : goal.remove-requires-clause-pinned
remove-requires-clause-pinned c = (c.requires.tree.0, c.requires.tree.1.0.root, c.requires.tree.1.0.pinned)

pub remove-requires-clause-tree : goal.remove-requires-clause-tree
remove-requires-clause-tree c = (c.requires.tree.1.0.stands.0, c.requires.tree.1.0.stands.1)

pub remove-requires-clause-root : goal.remove-requires-clause-root
remove-requires-clause-root c = c.requires.tree.1.0.rooted ∙ c.requires.tree.1.1

pub returns-in_err-left-clause-goes : goal.returns-in_err-left-clause-goes
returns-in_err-left-clause-goes c = (c.in_err-left.ensures.lacks refl).goes

pub returns-in_err-left-clause-within : goal.returns-in_err-left-clause-within
returns-in_err-left-clause-within c = (c.in_err-left.ensures.lacks refl).within

pub returns-in_err-left-clause-lacks : goal.returns-in_err-left-clause-lacks
returns-in_err-left-clause-lacks c _ = c.in_err-left.ensures.lacks refl

pub returns-in_err-left-clause-full : goal.returns-in_err-left-clause-full
returns-in_err-left-clause-full c some = absurd (some c.from_residual.ensures)

pub returns-in_err-left-clause-only : goal.returns-in_err-left-clause-only
returns-in_err-left-clause-only c t is none =
    let v = c.args.point.now.value in
    let way = on_way v (without_dominated c.args.rows.now.rows v t) 0 in
    only_more (opened v t) (opened v t ++ way) (known_of c.args.pass.now) (known_of c.remove.new.pass) (λ x here. in-append_left x (opened v t) way here) (c.remove.ensures.only t is)

pub insert-requires-clause-building : goal.insert-requires-clause-building
insert-requires-clause-building c = c.in_ok-left.ensures.does.2.building

pub insert-requires-clause-pinned : goal.insert-requires-clause-pinned
insert-requires-clause-pinned c = (c.requires.tree.0, c.requires.tree.1.0.root, c.in_ok-left.ensures.does.2.builds.pinned ∙ c.requires.tree.1.0.pinned)

pub insert-requires-clause-paid : goal.insert-requires-clause-paid
insert-requires-clause-paid c = c.in_ok-left.ensures.paid

pub insert-requires-clause-left : goal.insert-requires-clause-left
insert-requires-clause-left c =
    let r = c.args.rows.now in
    let p = c.args.pass.now in
    let tree = c.requires.tree.1.0 in
    let len = c.len.ensures in
    let may = may_update r p c.requires.tree.0 tree c.args.point.now c.requires.parts (omega (arith, len.some, len.value, c.requires.parts)) (omega (arith, len.few, len.value, c.requires.parts)) c.requires.tree.1.2 in
    (tree.stands.0, still_may r p c.requires.tree.0 tree c.args.point.now may c.remove.new.pass c.in_ok-left.ensures.does.2.builds, (c.in_ok-left.left.removed, c.in_ok-left.ensures.left tree.stands.0 tree.stands.1))

-- a removal, and an insertion for which no row was free
lacked : (c : In_err-root) → Lacks c.args.rows.now c.args.pass.now c.insert.new.pass
lacked c =
    let removed = c.in_ok-left.ensures.does in
    does_lacks c.args.rows.now removed.0 removed.1 removed.0 c.args.pass.now c.remove.new.pass c.insert.new.pass removed.2 c.in_err-root.ensures.does

pub returns-in_err-root-clause-goes : goal.returns-in_err-root-clause-goes
returns-in_err-root-clause-goes c = (lacked (goal.at.returns-in_err-root-clause-goes c).In_err-root).goes

pub returns-in_err-root-clause-within : goal.returns-in_err-root-clause-within
returns-in_err-root-clause-within c = (lacked (goal.at.returns-in_err-root-clause-within c).In_err-root).within

pub returns-in_err-root-clause-lacks : goal.returns-in_err-root-clause-lacks
returns-in_err-root-clause-lacks c _ = lacked (goal.at.returns-in_err-root-clause-lacks c).In_err-root

pub returns-in_err-root-clause-full : goal.returns-in_err-root-clause-full
returns-in_err-root-clause-full c some = absurd (some c.from_residual-in_err-root.ensures)

-- what both read, in any tree that may be the pinned one
read_both : (c : After-insert) (t : Nodes) → IsTreeOf c.args.rows.now.shape (pinned_copy (known_of c.args.pass.now)) t → some_weakly_dominates (points_of t) c.args.point.now.value ≡ false
    → ReadsOnly (opened c.args.point.now.value t ++ on_way c.args.point.now.value (without_dominated c.args.rows.now.rows c.args.point.now.value t) 0) (known_of c.args.pass.now) (known_of c.insert.new.pass)
read_both c t is none =
    let r = c.args.rows.now in
    let p = c.args.pass.now in
    let q = c.remove.new.pass in
    let point = c.args.point.now in
    let v = point.value in
    let len = c.len.ensures in
    let may = may_be r p t point c.requires.tree.1.0.is_pass is c.requires.parts (omega (arith, len.some, len.value, c.requires.parts)) (omega (arith, len.few, len.value, c.requires.parts)) none in
    let builds = c.in_ok-left.ensures.does.2.builds in
    only_append (opened v t) (on_way v (without_dominated r.rows v t) 0) (known_of p) (known_of q) (known_of c.insert.new.pass) builds (c.remove.ensures.only t is)
    (c.insert.ensures.only t (may_on r p t point may q builds) c.in_ok-left.left.removed (c.in_ok-left.ensures.left t is))

pub returns-in_err-root-clause-only : goal.returns-in_err-root-clause-only
returns-in_err-root-clause-only c = read_both (goal.at.returns-in_err-root-clause-only c).After-insert

pub returns-clause-only : goal.returns-clause-only
returns-clause-only c = read_both (goal.at.returns-clause-only c).After-insert

pub returns-clause-goes : goal.returns-clause-goes
returns-clause-goes c =
    let r = c.args.rows.now in
    let p = c.args.pass.now in
    let q = c.remove.new.pass in
    let s = c.insert.new.pass in
    let removed = c.in_ok-left.ensures.does in
    let ins = c.in_ok-root.ensures.does in
    goes_both r p q s (goes_does r removed.0 removed.1 removed.0 p q removed.2) (goes_does r ins.0 ins.1 ins.2.0 q s ins.2.1)

pub returns-clause-within : goal.returns-clause-within
returns-clause-within c = c.in_ok-root.ensures.does.2.1.building.counted.within

pub returns-clause-full : goal.returns-clause-full
returns-clause-full c _ = c.in_ok-root.ensures.does.2.1.full ∙ c.in_ok-left.ensures.does.2.full

pub returns-clause-built : goal.returns-clause-built
returns-clause-built c n tree uncovered =
    let r = c.args.rows.now in
    let p = c.args.pass.now in
    let point = c.args.point.now in
    let len = c.len.ensures in
    let left = c.in_ok-left.ensures.left tree.stands.0 tree.stands.1 in
    let may = may_update r p n tree point c.requires.parts (omega (arith, len.some, len.value, c.requires.parts)) (omega (arith, len.few, len.value, c.requires.parts)) uncovered in
    let removed = c.in_ok-left.ensures.does.2 in
    let ins = c.in_ok-root.ensures.does.2.1 in
    publishable r p n tree point may c.insert.new.pass (builds_both (known_of p) (known_of c.remove.new.pass) (known_of c.insert.new.pass) removed.builds ins.builds) ins.building c.in_ok-root.root c.in_ok-left.left.removed
    (c.in_ok-root.ensures.inserted tree.stands.0 (still_may r p n tree point may c.remove.new.pass removed.builds) c.in_ok-left.left.removed left)
    left.settled.counted (ins.same_seen ∙ removed.same_seen)
