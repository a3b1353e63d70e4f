use Rattle.std.proofs.Common.{[], ◌∷◌, ◌++◌, ◌/◌, ◌≤◌, sym, subst, ◌∙◌, arith}
use Rattle.era_core.specs.declared.sizes.TheConstants.{KINDS}
use Rattle.era_core.specs.Versions.{Copy}
use Rattle.era_rows.specs.Passes.{known_of, marked_of}
use Rattle.nd_rows.specs.Nodes.{Nodes}
use Rattle.nd_update.specs.Building.{Does}
use Rattle.nd_update.specs.Needed.{ReadsOnly}
use Rattle.nd_update.specs.Updates.{MayUpdate}
use Rattle.nd_update.proofs.Beginning.{left_node, root_unmarked, begins, node_low}
use Rattle.nd_update.proofs.Building.{does_both, does_read, read_does, still_fresh, still_pinned}
use Rattle.nd_update.proofs.Descending.{IsAt}
use Rattle.nd_update.proofs.Focusing.{owned_fresh, count_low, leaf_has, child_has, stepped_fresh, stepped_on, ended}
use Rattle.nd_update.proofs.Lacking.{does_lacks}
use Rattle.nd_update.proofs.Landed.{landed_at}
use Rattle.nd_update.proofs.Paying.{paid_still}
use Rattle.nd_update.proofs.Owning.{match_none}
use Rattle.nd_update.proofs.OnWay.{way_left, only_leaf, only_inner, only_root}
use Rattle.nd_update.proofs.inserts.insert_below.Goals as goal
use Rattle.nd_update.proofs.inserts.insert_below.Goals.{After-read_word-first, After-step_down, After-insert_in_leaf}

pub own_node-requires-clause-node : goal.own_node-requires-clause-node
own_node-requires-clause-node c =
    let left = c.requires.left in
    let r = c.args.rows.now in
    (left.2.1.named, left_node r r.shape c.args.point.now c.args.pass.now c.requires.building left.0 left.1 left.2.0 c.args.root left.2.1)

pub own_node-requires-clause-unmarked : goal.own_node-requires-clause-unmarked
own_node-requires-clause-unmarked c =
    let left = c.requires.left in
    let r = c.args.rows.now in
    root_unmarked r r.shape c.args.point.now c.args.pass.now c.requires.building left.0 left.1 left.2.0 c.args.root left.2.1

pub returns-in_err-own-clause-does : goal.returns-in_err-own-clause-does
returns-in_err-own-clause-does c = match_none c.from_residual.result _ _ c.from_residual.ensures c.in_err-own.ensures.owned

pub loop-stepped-init : goal.loop-stepped-init
loop-stepped-init c =
    let r = c.args.rows.now in
    let p = c.args.pass.now in
    let q = c.own_node.new.pass in
    let own = c.in_ok-own.own in
    let owned = c.in_ok-own.ensures.owned in record {
      work = c.own_node.ensures.work;
      only = λ t may removed is_left. only_root r r.shape c.args.point.now t p q c.requires.building removed c.args.root is_left c.own_node.ensures.only;
      paid = c.in_ok-own.ensures.paid;
      mine = owned_fresh r c.args.root own owned.0 owned.1 (own ∷ []) p q owned.2 owned.3;
      does = (owned.0, owned.1, own ∷ [], owned.2);
      at = λ t may removed is_left.
          let has = left_node r r.shape c.args.point.now p c.requires.building t may removed c.args.root is_left in
          let node = c.in_ok-own.ensures.node is_left.named has in
          begins r r.shape c.args.point.now p c.requires.building t may removed c.args.root is_left q own owned.0 owned.1 owned.2 owned.3 node (c.in_ok-own.ensures.boxed is_left.named has) (node_low r q owned.2.building r.shape own _ node);
    }

-- a node has few links, so what the word counts fits
few_linked : (c : After-read_word-first) → c.read_word-first.result / KINDS ≤ 20
few_linked c =
    let left = c.requires.left in
    let r = c.args.rows.now in
    let at = c.loop-stepped.invariant.at left.0 left.1 left.2.0 left.2.1 in
    count_low r r.shape c.args.point.now left.0 c.loop-stepped.pass c.read_word-first.new.pass c.read_word-first.ensures.does c.loop-stepped.row c.in_ok-own.own c.loop-stepped.stepped c.read_word-first.result c.read_word-first.ensures.word at

-- what was done up to the look at the first word
done_so_far : (c : After-read_word-first) → Does c.args.rows.now c.loop-stepped.invariant.does.0 c.loop-stepped.invariant.does.1 c.loop-stepped.invariant.does.2 c.args.pass.now c.read_word-first.new.pass
done_so_far c =
    let so_far = c.loop-stepped.invariant.does in
    does_read c.args.rows.now so_far.0 so_far.1 so_far.2 c.args.pass.now c.loop-stepped.pass c.read_word-first.new.pass so_far.3 c.read_word-first.ensures.does

pub overflow_cast-count : goal.overflow_cast-count
overflow_cast-count c = let few = few_linked (goal.at.overflow_cast-count c).After-read_word-first in omega (arith, few)

pub insert_in_leaf-requires-clause-few : goal.insert_in_leaf-requires-clause-few
insert_in_leaf-requires-clause-few c = few_linked (goal.at.insert_in_leaf-requires-clause-few c).After-read_word-first

pub insert_in_leaf-requires-clause-linked : goal.insert_in_leaf-requires-clause-linked
insert_in_leaf-requires-clause-linked c =
    let left = c.requires.left in
    let r = c.args.rows.now in
    let at = c.loop-stepped.invariant.at left.0 left.1 left.2.0 left.2.1 in
    leaf_has r r.shape c.args.point.now left.0 c.loop-stepped.pass c.read_word-first.new.pass c.read_word-first.ensures.does c.loop-stepped.row c.in_ok-own.own c.loop-stepped.stepped c.read_word-first.result c.read_word-first.ensures.word at c.if-first-eq-LEAF.true

pub insert_in_leaf-requires-clause-paid : goal.insert_in_leaf-requires-clause-paid
insert_in_leaf-requires-clause-paid c =
    paid_still c.args.rows.now 0 [] [] c.loop-stepped.pass c.read_word-first.new.pass c.loop-stepped.invariant.does.3.building c.read_word-first.ensures.does c.loop-stepped.invariant.paid

pub returns-in_err-insert_in_leaf-clause-does : goal.returns-in_err-insert_in_leaf-clause-does
returns-in_err-insert_in_leaf-clause-does c =
    let so_far = c.loop-stepped.invariant.does in
    let done = done_so_far (goal.at.returns-in_err-insert_in_leaf-clause-does c).After-read_word-first in
    match_none c.from_residual-in_err-insert_in_leaf.result _ _ c.from_residual-in_err-insert_in_leaf.ensures (does_lacks c.args.rows.now so_far.0 so_far.1 so_far.2 c.args.pass.now c.read_word-first.new.pass c.insert_in_leaf.new.pass done c.in_err-insert_in_leaf.ensures.put)

pub returns-then-first-eq-LEAF-clause-does : goal.returns-then-first-eq-LEAF-clause-does
returns-then-first-eq-LEAF-clause-does c =
    let so_far = c.loop-stepped.invariant.does in
    let done = done_so_far (goal.at.returns-then-first-eq-LEAF-clause-does c).After-read_word-first in
    let put = c.in_ok-insert_in_leaf.ensures.put in
    let taken = put.0 ∷ put.1 in
    let changed = c.loop-stepped.row ∷ taken in
    (so_far.0 ++ taken, so_far.1 ++ [], (so_far.2 ++ changed, does_both c.args.rows.now so_far.0 so_far.1 so_far.2 taken [] changed c.args.pass.now c.read_word-first.new.pass c.insert_in_leaf.new.pass done put.2))

pub step_down-requires-clause-paid : goal.step_down-requires-clause-paid
step_down-requires-clause-paid c =
    paid_still c.args.rows.now 0 [] [] c.loop-stepped.pass c.read_word-first.new.pass c.loop-stepped.invariant.does.3.building c.read_word-first.ensures.does c.loop-stepped.invariant.paid

pub step_down-requires-clause-node : goal.step_down-requires-clause-node
step_down-requires-clause-node c =
    let left = c.requires.left in
    let r = c.args.rows.now in
    let so_far = c.loop-stepped.invariant.does in
    let at = c.loop-stepped.invariant.at left.0 left.1 left.2.0 left.2.1 in
    let read = c.read_word-first.ensures.does in
    let q = c.read_word-first.new.pass in
    let same = still_pinned r [] [] [] c.loop-stepped.pass q read ∙ still_pinned r so_far.0 so_far.1 so_far.2 c.args.pass.now c.loop-stepped.pass so_far.3 in
    child_has r r.shape c.args.point.now left.0 c.loop-stepped.pass q read c.loop-stepped.row c.in_ok-own.own c.loop-stepped.stepped c.read_word-first.result c.read_word-first.ensures.word at c.if-first-eq-LEAF.false read.building
    (subst (λ (y : Copy). MayUpdate r.shape r.rows c.args.point.now y left.0) (sym same) left.1)

pub returns-in_err-row-clause-does : goal.returns-in_err-row-clause-does
returns-in_err-row-clause-does c =
    let so_far = c.loop-stepped.invariant.does in
    let done = done_so_far (goal.at.returns-in_err-row-clause-does c).After-read_word-first in
    match_none c.from_residual-in_err-row.result _ _ c.from_residual-in_err-row.ensures (does_lacks c.args.rows.now so_far.0 so_far.1 so_far.2 c.args.pass.now c.read_word-first.new.pass c.step_down.new.pass done c.in_err-row.ensures.does)

-- the rows read on the way of a point through this node
read_through : (c : After-step_down) (t : Nodes) → ReadsOnly (way_left c.args.rows.now.rows c.args.point.now t) (known_of c.args.pass.now) (known_of c.loop-stepped.pass)
    → IsAt c.args.rows.now.shape c.args.rows.now.rows c.args.point.now t (known_of c.loop-stepped.pass) (marked_of c.loop-stepped.pass) c.loop-stepped.row c.in_ok-own.own c.loop-stepped.stepped
    → ReadsOnly (way_left c.args.rows.now.rows c.args.point.now t) (known_of c.args.pass.now) (known_of c.step_down.new.pass)
read_through c t only at =
    let r = c.args.rows.now in
    let so_far = c.loop-stepped.invariant.does in
    only_inner r r.shape c.args.point.now t c.args.pass.now c.loop-stepped.pass c.read_word-first.new.pass so_far.0 so_far.1 so_far.2 so_far.3 only c.read_word-first.ensures.does c.loop-stepped.row c.in_ok-own.own c.loop-stepped.stepped
    c.read_word-first.result c.read_word-first.ensures.word at c.loop-stepped.invariant.mine c.read_word-first.ensures.only c.step_down.new.pass c.if-first-eq-LEAF.false c.step_down.ensures.only

-- and into this leaf
read_into : (c : After-insert_in_leaf) (t : Nodes) → ReadsOnly (way_left c.args.rows.now.rows c.args.point.now t) (known_of c.args.pass.now) (known_of c.loop-stepped.pass)
    → IsAt c.args.rows.now.shape c.args.rows.now.rows c.args.point.now t (known_of c.loop-stepped.pass) (marked_of c.loop-stepped.pass) c.loop-stepped.row c.in_ok-own.own c.loop-stepped.stepped
    → ReadsOnly (way_left c.args.rows.now.rows c.args.point.now t) (known_of c.args.pass.now) (known_of c.insert_in_leaf.new.pass)
read_into c t only at =
    let r = c.args.rows.now in
    let so_far = c.loop-stepped.invariant.does in
    only_leaf r r.shape c.args.point.now t c.args.pass.now c.loop-stepped.pass c.read_word-first.new.pass so_far.0 so_far.1 so_far.2 so_far.3 only c.read_word-first.ensures.does c.loop-stepped.row c.in_ok-own.own c.loop-stepped.stepped
    c.read_word-first.result c.read_word-first.ensures.word at c.loop-stepped.invariant.mine c.read_word-first.ensures.only c.insert_in_leaf.new.pass c.if-first-eq-LEAF.true c.insert_in_leaf.ensures.only

pub loop-stepped-preserved : goal.loop-stepped-preserved
loop-stepped-preserved c =
    let left = c.requires.left in
    let r = c.args.rows.now in
    let so_far = c.loop-stepped.invariant.does in
    let p = c.loop-stepped.pass in
    let q = c.read_word-first.new.pass in
    let s = c.step_down.new.pass in
    let own = c.in_ok-row.row in
    let row = c.loop-stepped.row in
    let read = c.read_word-first.ensures.does in
    let did = c.in_ok-row.ensures.does in
    let mine = still_fresh r [] [] [] p q read row c.loop-stepped.invariant.mine in record {
      work = c.step_down.ensures.work ∙ c.read_word-first.ensures.work ∙ c.loop-stepped.invariant.work;
      only = λ t may removed is_left. read_through (goal.at.loop-stepped-preserved c).After-step_down t (c.loop-stepped.invariant.only t may removed is_left) (c.loop-stepped.invariant.at t may removed is_left);
      paid = c.in_ok-row.ensures.paid;
      mine =
          stepped_fresh r r.shape c.args.point.now left.0 p q read row c.in_ok-own.own c.loop-stepped.stepped c.read_word-first.result c.read_word-first.ensures.word (c.loop-stepped.invariant.at left.0 left.1 left.2.0 left.2.1) c.if-first-eq-LEAF.false s own did.0 did.1 did.2 did.3;
      does = (
        so_far.0 ++ did.0,
        so_far.1 ++ did.1,
        so_far.2 ++ own ∷ row ∷ [],
        does_both r so_far.0 so_far.1 so_far.2 did.0 did.1 (own ∷ row ∷ []) c.args.pass.now p s so_far.3 (read_does r did.0 did.1 (own ∷ row ∷ []) p q s read did.2),
      );
      at = λ t may removed is_left.
          stepped_on r r.shape c.args.point.now t p q read row c.in_ok-own.own c.loop-stepped.stepped c.read_word-first.result c.read_word-first.ensures.word (c.loop-stepped.invariant.at t may removed is_left) c.if-first-eq-LEAF.false s own did.0 did.1 did.2 read.building mine did.3;
    }

pub unreachable-requires : goal.unreachable-requires
unreachable-requires c =
    let left = c.requires.left in
    let r = c.args.rows.now in
    ended r.shape r.rows c.args.point.now left.0 (known_of c.loop-stepped.pass) _ c.loop-stepped.row c.in_ok-own.own c.loop-stepped.stepped (c.loop-stepped.invariant.at left.0 left.1 left.2.0 left.2.1) c.loop-stepped-test.false

pub returns-then-first-eq-LEAF-clause-inserted : goal.returns-then-first-eq-LEAF-clause-inserted
returns-then-first-eq-LEAF-clause-inserted c t may removed is_left =
    let r = c.args.rows.now in
    let put = c.in_ok-insert_in_leaf.ensures.put in
    landed_at r r.shape c.args.point.now t c.loop-stepped.pass c.read_word-first.new.pass c.read_word-first.ensures.does c.loop-stepped.row c.in_ok-own.own c.loop-stepped.stepped c.read_word-first.result c.read_word-first.ensures.word
    (c.loop-stepped.invariant.at t may removed is_left) c.if-first-eq-LEAF.true c.insert_in_leaf.new.pass put.0 put.1 put.2 may.some may.few may.parts put.3 c.in_ok-insert_in_leaf.ensures.kept

pub returns-in_err-own-clause-only : goal.returns-in_err-own-clause-only
returns-in_err-own-clause-only c t may removed is_left =
    let r = c.args.rows.now in only_root r r.shape c.args.point.now t c.args.pass.now c.own_node.new.pass c.requires.building removed c.args.root is_left c.own_node.ensures.only

pub returns-in_err-insert_in_leaf-clause-only : goal.returns-in_err-insert_in_leaf-clause-only
returns-in_err-insert_in_leaf-clause-only c t may removed is_left =
    read_into (goal.at.returns-in_err-insert_in_leaf-clause-only c).After-insert_in_leaf t (c.loop-stepped.invariant.only t may removed is_left) (c.loop-stepped.invariant.at t may removed is_left)

pub returns-then-first-eq-LEAF-clause-only : goal.returns-then-first-eq-LEAF-clause-only
returns-then-first-eq-LEAF-clause-only c t may removed is_left =
    read_into (goal.at.returns-then-first-eq-LEAF-clause-only c).After-insert_in_leaf t (c.loop-stepped.invariant.only t may removed is_left) (c.loop-stepped.invariant.at t may removed is_left)

pub returns-in_err-row-clause-only : goal.returns-in_err-row-clause-only
returns-in_err-row-clause-only c t may removed is_left =
    read_through (goal.at.returns-in_err-row-clause-only c).After-step_down t (c.loop-stepped.invariant.only t may removed is_left) (c.loop-stepped.invariant.at t may removed is_left)
