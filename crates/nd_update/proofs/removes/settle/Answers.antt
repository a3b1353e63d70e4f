use Rattle.std.proofs.Common.{◌≡◌, ℕ, ◌+◌, ◌/◌, ◌%◌, ◌<◌, true, List, [], ◌∷◌, length, refl, sym, subst, arith}
use Rattle.era_core.specs.declared.sizes.TheConstants.{ROOT_ROWS}
use Rattle.era_rows.specs.Passes.{known_of}
use Rattle.pls_vectors.specs.Box.{Box}
use Rattle.pls_vectors.specs.Dominance.{weakly_dominates}
use Rattle.nd_rows.specs.Nodes.{Placed, Nodes, leaf, inner, heads, rows_with}
use Rattle.nd_update.specs.Left.{entry}
use Rattle.nd_update.specs.Needed.{ReadsOnly, opened}
use Rattle.nd_update.specs.Sweeps.{Settles, Sweeps}
use Rattle.nd_update.proofs.Building.{does_none}
use Rattle.nd_update.proofs.Reading.{only_none, only_more}
use Rattle.nd_update.proofs.Opening.{opened_leaf, opened_inner, word_opens}
use Rattle.nd_update.proofs.Settling.{map_some, found_is, found_place, stays_settled, is_leaf, is_inner, kids_few}
use Rattle.nd_update.proofs.removes.settle.Goals as goal
use Rattle.nd_update.proofs.removes.settle.Goals.{After-work-found}

pub work-found-requires : goal.work-found-requires
work-found-requires c =
    let n = c.requires.node in found_place c.args.rows.now c.args.pass.now c.requires.building c.args.value.now n.1 n.2 n.0 n.3 c.args.k n.4

-- what the word at the place says of the node there
module _ (c : After-work-found) (ns : Nodes) (others : List ℕ) (removed : ℕ) (can : Settles c.args.rows.now c.args.value.now ns others c.args.pass.now removed) (at : length others ≡ c.args.k) where
  word_is : c.work-found.result ≡ entry c.args.value.now ns
  word_is = found_is c.args.rows.now c.args.pass.now c.requires.building c.args.value.now others removed ns can c.args.k c.work-found.result at c.work-found.ensures

  leaf_is : c.work-found.result / ROOT_ROWS ≡ 3 → (b : Box) × (placed : List Placed) × (later : Nodes) × (ns ≡ leaf (c.work-found.result % ROOT_ROWS) b placed later) × (0 < length placed)
      × Settles c.args.rows.now c.args.value.now (leaf (c.work-found.result % ROOT_ROWS) b placed later) others c.args.pass.now removed
  leaf_is kind =
      let is = is_leaf c.args.rows.now c.args.pass.now c.requires.building c.args.value.now others removed ns can c.work-found.result word_is kind in
      (is.0, is.1, is.2, is.3, is.4, subst (λ ms. Settles c.args.rows.now c.args.value.now ms others c.args.pass.now removed) is.3 can)

  inner_is : (c.work-found.result / ROOT_ROWS ≡ 0 → ⊥) → (c.work-found.result / ROOT_ROWS ≡ 3 → ⊥) → (b : Box) × (kids later : Nodes) × (ns ≡ inner (c.work-found.result % ROOT_ROWS) b kids later) × (weakly_dominates c.args.value.now b.nadir ≡ true)
      × (c.work-found.result / ROOT_ROWS ≡ 4 + length (heads kids)) × Settles c.args.rows.now c.args.value.now (inner (c.work-found.result % ROOT_ROWS) b kids later) others c.args.pass.now removed
  inner_is changes linked =
      let is = is_inner c.args.rows.now c.args.pass.now c.requires.building c.args.value.now others removed ns can c.work-found.result word_is changes linked in
      (is.0, is.1, is.2, is.3, is.4, is.5, subst (λ ms. Settles c.args.rows.now c.args.value.now ms others c.args.pass.now removed) is.3 can)

pub returns-then-what-eq-STAYS-clause-does : goal.returns-then-what-eq-STAYS-clause-does
returns-then-what-eq-STAYS-clause-does c = ([], [], does_none c.args.rows.now c.args.pass.now c.requires.building)

pub returns-then-what-eq-STAYS-clause-paid : goal.returns-then-what-eq-STAYS-clause-paid
returns-then-what-eq-STAYS-clause-paid c = c.requires.paid

pub returns-then-what-eq-STAYS-clause-settled : goal.returns-then-what-eq-STAYS-clause-settled
returns-then-what-eq-STAYS-clause-settled c ns others removed can at =
    stays_settled c.args.rows.now c.args.pass.now c.requires.building c.args.value.now others removed ns can c.work-found.result
    (word_is (goal.at.returns-then-what-eq-STAYS-clause-settled c).After-work-found ns others removed can at) c.if-what-eq-STAYS.true

pub returns-then-what-eq-STAYS-clause-only : goal.returns-then-what-eq-STAYS-clause-only
returns-then-what-eq-STAYS-clause-only c ns others removed can at = only_none (opened c.args.value.now ns) (known_of c.args.pass.now)

pub settle_leaf-requires-clause-leaf : goal.settle_leaf-requires-clause-leaf
settle_leaf-requires-clause-leaf c =
    let n = c.requires.node in
    let is = leaf_is (goal.at.settle_leaf-requires-clause-leaf c).After-work-found n.0 n.1 n.2 n.3 n.4 c.if-what-eq-LEAVES.true in
    (is.0, is.1, is.2, n.1, n.2, is.5, n.4, is.4)

pub returns-then-what-eq-LEAVES-clause-settled : goal.returns-then-what-eq-LEAVES-clause-settled
returns-then-what-eq-LEAVES-clause-settled c =
    map_some c.settle_leaf.result _ _
    (λ more settled ns others removed can at.
    let is = leaf_is (goal.at.returns-then-what-eq-LEAVES-clause-settled c).After-work-found ns others removed can at c.if-what-eq-LEAVES.true in
    subst (λ ms. Sweeps c.args.rows.now c.args.value.now ms others c.settle_leaf.new.pass (removed + more)) (sym is.3) (settled is.0 is.1 is.2 others removed is.5 at is.4))
    c.settle_leaf.ensures.settled

pub returns-then-what-eq-LEAVES-clause-only : goal.returns-then-what-eq-LEAVES-clause-only
returns-then-what-eq-LEAVES-clause-only c ns others removed can at =
    let v = c.args.value.now in
    let p = c.args.pass.now in
    let q = c.settle_leaf.new.pass in
    let found = c.work-found.result in
    let row = found % ROOT_ROWS in
    let found_at = (goal.at.returns-then-what-eq-LEAVES-clause-only c).After-work-found in
    let is = leaf_is found_at ns others removed can at c.if-what-eq-LEAVES.true in
    subst (λ ms. ReadsOnly (opened v ms) (known_of p) (known_of q)) (sym is.3)
    (only_more (row ∷ rows_with is.1) (opened v (leaf row is.0 is.1 is.2)) (known_of p) (known_of q)
    (opened_leaf v row is.0 is.1 is.2 (word_opens v found is.0 is.1 is.2 (subst (λ ms. found ≡ entry v ms) is.3 (word_is found_at ns others removed can at)) c.if-what-eq-LEAVES.true))
    (c.settle_leaf.ensures.only is.0 is.1 is.2 others removed is.5 at is.4))

pub returns-then-what-eq-LEAVES-clause-lacks : goal.returns-then-what-eq-LEAVES-clause-lacks
returns-then-what-eq-LEAVES-clause-lacks c = c.settle_leaf.ensures.lacks

pub overflow_sub-what : goal.overflow_sub-what
overflow_sub-what c =
    let n = c.requires.node in
    let e = (inner_is (goal.at.overflow_sub-what c).After-work-found n.0 n.1 n.2 n.3 n.4 c.if-what-eq-STAYS.false c.if-what-eq-LEAVES.false).5 in omega (arith, e)

pub overflow_cast-what : goal.overflow_cast-what
overflow_cast-what c =
    let n = c.requires.node in
    let is = inner_is (goal.at.overflow_cast-what c).After-work-found n.0 n.1 n.2 n.3 n.4 c.if-what-eq-STAYS.false c.if-what-eq-LEAVES.false in
    let few = kids_few c.args.rows.now c.args.pass.now c.requires.building c.args.value.now n.1 n.2 (c.work-found.result % ROOT_ROWS) is.0 is.1 is.2 is.6 is.4 (length (heads is.1)) refl in
    let e = is.5 in omega (arith, e, few)

pub settle_inner-requires-clause-node : goal.settle_inner-requires-clause-node
settle_inner-requires-clause-node c =
    let n = c.requires.node in
    let is = inner_is (goal.at.settle_inner-requires-clause-node c).After-work-found n.0 n.1 n.2 n.3 n.4 c.if-what-eq-STAYS.false c.if-what-eq-LEAVES.false in
    (c.args.value.now, is.0, is.1, is.2, n.1, n.2, is.6, n.4, is.4, (let e = is.5 in omega (arith, e)))

pub returns-clause-settled : goal.returns-clause-settled
returns-clause-settled c ns others removed can at =
    let v = c.args.value.now in
    let is = inner_is (goal.at.returns-clause-settled c).After-work-found ns others removed can at c.if-what-eq-STAYS.false c.if-what-eq-LEAVES.false in
    subst (Sweeps c.args.rows.now v ns others c.settle_inner.new.pass) (let e : removed ≡ removed + 0 = omega arith in e)
    (subst (λ ms. Sweeps c.args.rows.now v ms others c.settle_inner.new.pass removed) (sym is.3)
    (c.in_ok-settle_inner.ensures.settled v is.0 is.1 is.2 others removed is.6 at is.4 (let e = is.5 in omega (arith, e))))

pub returns-in_err-settle_inner-clause-lacks : goal.returns-in_err-settle_inner-clause-lacks
returns-in_err-settle_inner-clause-lacks c _ = c.in_err-settle_inner.ensures.lacks refl

pub returns-clause-only : goal.returns-clause-only
returns-clause-only c ns others removed can at =
    let is = inner_is (goal.at.returns-clause-only c).After-work-found ns others removed can at c.if-what-eq-STAYS.false c.if-what-eq-LEAVES.false in
    opened_inner c.args.value.now ns (c.work-found.result % ROOT_ROWS) is.0 is.1 is.2 is.3 (known_of c.args.pass.now) (known_of c.settle_inner.new.pass) c.settle_inner.ensures.only

pub returns-in_err-settle_inner-clause-only : goal.returns-in_err-settle_inner-clause-only
returns-in_err-settle_inner-clause-only c ns others removed can at =
    let is = inner_is (goal.at.returns-in_err-settle_inner-clause-only c).After-work-found ns others removed can at c.if-what-eq-STAYS.false c.if-what-eq-LEAVES.false in
    opened_inner c.args.value.now ns (c.work-found.result % ROOT_ROWS) is.0 is.1 is.2 is.3 (known_of c.args.pass.now) (known_of c.settle_inner.new.pass) c.settle_inner.ensures.only
