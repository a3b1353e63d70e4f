use Rattle.std.proofs.Common.{◌≡◌, ◌+◌, ◌<◌, Some, [], ◌∷◌, length, get_or, refl, sym, ap, subst, ◌∙◌, arith}
use Rattle.era_core.specs.Lists.{times, In}
use Rattle.era_core.proofs.ListFacts.{in_head, in_tail}
use Rattle.era_rows.specs.Known.{Known, pinned_copy}
use Rattle.era_rows.specs.Passes.{known_of, marked_of}
use Rattle.pls_vectors.specs.Box.{Box}
use Rattle.nd_rows.specs.declared.layout.TheConstants.{FIRST_LINK}
use Rattle.nd_rows.specs.Nodes.{Nodes, no_nodes, inner, heads}
use Rattle.nd_rows.proofs.Looks.{in_get}
use Rattle.nd_update.specs.Building.{Does}
use Rattle.nd_update.specs.Needed.{ReadsOnly}
use Rattle.nd_update.specs.Ways.{HasNode, IsOwned, at_node}
use Rattle.nd_update.proofs.Building.{does_both, read_does, still_fresh}
use Rattle.nd_update.proofs.FullLeaves.{readable_low}
use Rattle.nd_update.proofs.Choosing.{child_word, child_readable, child_node}
use Rattle.nd_update.proofs.Linking.{link_does, link_stepped}
use Rattle.nd_update.proofs.Lacking.{does_lacks}
use Rattle.nd_update.proofs.Paying.{paid_still}
use Rattle.nd_update.proofs.Owning.{match_none, unmarked_still, owned_same}
use Rattle.nd_update.proofs.Touching.{node_still}
use Rattle.nd_update.proofs.Reading.{only_both, only_row, only_still}
use Rattle.nd_update.proofs.inserts.step_down.Goals as goal
use Rattle.nd_update.proofs.inserts.step_down.Goals.{After-read_word-child, In_ok-own}

-- two looks at the node
read : (c : After-read_word-child) → Does c.args.rows.now [] [] [] c.args.pass.now c.read_word-child.new.pass
read c = does_both c.args.rows.now [] [] [] [] [] [] c.args.pass.now c.closest_child-place.new.pass c.read_word-child.new.pass c.closest_child-place.ensures.does c.read_word-child.ensures.does

-- the child that was chosen
module _ (c : After-read_word-child) (b : Box) (kids : Nodes) (has : HasNode c.args.rows.now.shape (known_of c.args.pass.now) c.args.row (inner c.args.row b kids no_nodes)) (long : length (heads kids) ≡ c.args.count) where
  low : c.closest_child-place.result < length (heads kids)
  low = omega (arith, long, c.closest_child-place.ensures.bound)

  child_is : c.read_word-child.result ≡ get_or (heads kids) c.closest_child-place.result 0
  child_is =
      let k = c.closest_child-place.result in
      c.read_word-child.ensures.word _ (c.closest_child-place.ensures.does.elsewhere c.args.row (FIRST_LINK + k) refl ∙ child_word c.args.rows.now.shape (known_of c.args.pass.now) c.args.row b kids has k low)

  child_has : HasNode c.args.rows.now.shape (known_of c.read_word-child.new.pass) c.read_word-child.result (at_node kids c.closest_child-place.result)
  child_has =
      let r = c.args.rows.now in
      let p = c.args.pass.now in
      let s = c.read_word-child.new.pass in
      let at = at_node kids c.closest_child-place.result in
      subst (λ x. HasNode r.shape (known_of s) x at) (sym child_is) (node_still r [] [] [] p s (read c) r.shape _ at (λ x here. refl) (child_node r.shape (known_of p) c.args.row b kids has c.closest_child-place.result low))

  -- what is read in it is of the node or of its children
  reads : (end : Known) → ReadsOnly (c.read_word-child.result ∷ []) (known_of c.read_word-child.new.pass) end → ReadsOnly (c.args.row ∷ heads kids) (known_of c.args.pass.now) end
  reads end only =
      let row = c.args.row in
      let all = row ∷ heads kids in
      let k = c.closest_child-place.result in
      let p = known_of c.args.pass.now in
      let q = known_of c.closest_child-place.new.pass in
      let s = known_of c.read_word-child.new.pass in
      only_both all p q end c.closest_child-place.ensures.does.builds (c.closest_child-place.ensures.only b kids has long)
      (only_both all q s end c.read_word-child.ensures.does.builds (only_row row all q s (in_head row (heads kids)) c.read_word-child.ensures.only)
      (only_row c.read_word-child.result all s end (subst (λ x. In x all) (sym child_is) (in_tail (get_or (heads kids) k 0) row (heads kids) (in_get (heads kids) k low))) only))

-- and a row of its own for the child
owns : (c : In_ok-own) → Does c.args.rows.now c.in_ok-own.ensures.owned.0 c.in_ok-own.ensures.owned.1 (c.in_ok-own.own ∷ []) c.args.pass.now c.own_node.new.pass
owns c =
    let owned = c.in_ok-own.ensures.owned in
    read_does c.args.rows.now owned.0 owned.1 (c.in_ok-own.own ∷ []) c.args.pass.now c.read_word-child.new.pass c.own_node.new.pass
    (does_both c.args.rows.now [] [] [] [] [] [] c.args.pass.now c.closest_child-place.new.pass c.read_word-child.new.pass c.closest_child-place.ensures.does c.read_word-child.ensures.does) owned.2

pub overflow_cast-child : goal.overflow_cast-child
overflow_cast-child c =
    let r = c.args.rows.now in
    let n = c.requires.node in
    let now = (goal.at.overflow_cast-child c).After-read_word-child in
    let is = child_is now n.0 n.1 n.2 n.3 in
    let few = readable_low r c.args.pass.now c.requires.building _ (child_readable r.shape (known_of c.args.pass.now) c.args.row n.0 n.1 n.2 c.closest_child-place.result (low now n.0 n.1 n.2 n.3)) in
    omega (arith, is, few)

pub own_node-requires-clause-paid : goal.own_node-requires-clause-paid
own_node-requires-clause-paid c =
    paid_still c.args.rows.now 0 [] [] c.args.pass.now c.read_word-child.new.pass c.requires.building (read (goal.at.own_node-requires-clause-paid c).After-read_word-child) c.requires.paid

pub own_node-requires-clause-node : goal.own_node-requires-clause-node
own_node-requires-clause-node c =
    let n = c.requires.node in (at_node n.1 c.closest_child-place.result, child_has (goal.at.own_node-requires-clause-node c).After-read_word-child n.0 n.1 n.2 n.3)

pub own_node-requires-clause-unmarked : goal.own_node-requires-clause-unmarked
own_node-requires-clause-unmarked c =
    let n = c.requires.node in
    let now = (goal.at.own_node-requires-clause-unmarked c).After-read_word-child in
    let child = child_is now n.0 n.1 n.2 n.3 ∙ ap (λ k. get_or (heads n.1) k 0) (c.closest_child-place.ensures.place n.0 n.1 n.2 n.3) in
    unmarked_still c.args.rows.now c.args.pass.now c.read_word-child.new.pass (read now) c.read_word-child.result
    (subst (λ x. In x (pinned_copy (known_of c.args.pass.now)).rows → times x (marked_of c.args.pass.now) ≡ 0) (sym child) n.4)

pub returns-in_err-own-clause-does : goal.returns-in_err-own-clause-does
returns-in_err-own-clause-does c =
    match_none c.from_residual.result _ _ c.from_residual.ensures
    (does_lacks c.args.rows.now [] [] [] c.args.pass.now c.read_word-child.new.pass c.own_node.new.pass (read (goal.at.returns-in_err-own-clause-does c).After-read_word-child) c.in_err-own.ensures.owned)

pub write_word-requires-clause-fresh : goal.write_word-requires-clause-fresh
write_word-requires-clause-fresh c =
    let owned = c.in_ok-own.ensures.owned in
    still_fresh c.args.rows.now owned.0 owned.1 (c.in_ok-own.own ∷ []) c.args.pass.now c.own_node.new.pass (owns (goal.at.write_word-requires-clause-fresh c).In_ok-own) c.args.row c.requires.fresh

pub returns-clause-does : goal.returns-clause-does
returns-clause-does c =
    let r = c.args.rows.now in
    let row = c.args.row in
    let own = c.in_ok-own.own in
    let k = c.closest_child-place.result in
    let p = c.args.pass.now in
    let s = c.read_word-child.new.pass in
    let owned = c.in_ok-own.ensures.owned in
    let now = (goal.at.returns-clause-does c).After-read_word-child in
    let one = owns (goal.at.returns-clause-does c).In_ok-own in
    let mine = owned_same r p s (read now) c.read_word-child.result own owned.0 owned.1 owned.3 in (
      owned.0,
      owned.1,
      link_does r row own owned.0 owned.1 p c.own_node.new.pass c.write_word.new.pass one c.write_word.ensures.does,
      λ b kids has long.
          let same = c.closest_child-place.ensures.place b kids has long in
          let got = subst (λ x. IsOwned (known_of p) x own owned.0 owned.1) (child_is now b kids has long) mine in (
            subst (λ n. IsOwned (known_of p) (get_or (heads kids) n 0) own owned.0 owned.1) same got,
            link_stepped r r.shape row own owned.0 owned.1 c.args.value.now p c.own_node.new.pass c.write_word.new.pass one c.write_word.ensures.does b kids has k (low now b kids has long) got c.write_word.ensures.outside
                (c.write_word.ensures.word ∙ ap Some c.from.ensures) same (c.in_ok-own.ensures.node (at_node kids k) (child_has now b kids has long)),
          ),
    )

pub returns-clause-paid : goal.returns-clause-paid
returns-clause-paid c =
    paid_still c.args.rows.now 0 [] (c.args.row ∷ []) c.own_node.new.pass c.write_word.new.pass c.in_ok-own.ensures.owned.2.building c.write_word.ensures.does c.in_ok-own.ensures.paid

pub returns-in_err-own-clause-only : goal.returns-in_err-own-clause-only
returns-in_err-own-clause-only c b kids has long = reads (goal.at.returns-in_err-own-clause-only c).After-read_word-child b kids has long (known_of c.own_node.new.pass) c.own_node.ensures.only

pub returns-clause-only : goal.returns-clause-only
returns-clause-only c b kids has long =
    let owned = c.in_ok-own.ensures.owned in
    only_still c.args.rows.now owned.0 owned.1 (c.in_ok-own.own ∷ []) (c.args.row ∷ heads kids) c.args.pass.now c.own_node.new.pass c.write_word.new.pass (owns (goal.at.returns-clause-only c).In_ok-own)
    (reads (goal.at.returns-clause-only c).After-read_word-child b kids has long (known_of c.own_node.new.pass) c.own_node.ensures.only) c.write_word.ensures.only
