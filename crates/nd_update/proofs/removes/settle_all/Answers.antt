use Rattle.std.proofs.Common.{◌≡◌, ℕ, ◌+◌, ◌-◌, [], ◌++◌, refl, subst, arith}
use Rattle.era_rows.specs.Known.{pinned_copy}
use Rattle.era_rows.specs.Passes.{known_of, work_of}
use Rattle.nd_rows.specs.Layout.{IsTreeOf}
use Rattle.nd_rows.specs.Nodes.{Nodes}
use Rattle.nd_update.specs.Left.{left, entries, AreAllListed}
use Rattle.nd_update.specs.Needed.{ReadsOnly, opened}
use Rattle.nd_update.specs.Sweeps.{Settles, Sweeps}
use Rattle.nd_update.proofs.Building.{does_none, does_both}
use Rattle.nd_update.proofs.Lacking.{does_lacks}
use Rattle.nd_update.proofs.Paying.{paid_none}
use Rattle.nd_update.proofs.Reading.{only_none, only_more, only_then}
use Rattle.nd_update.proofs.Opening.{opened_left}
use Rattle.nd_update.proofs.Listing.{length-entries}
use Rattle.nd_update.proofs.Settling.{pinned_still}
use Rattle.nd_update.proofs.RemovingAll.{all_length, swept_first, next_settles, removed_few}
use Rattle.nd_update.proofs.removes.settle_all.Goals as goal
use Rattle.nd_update.proofs.removes.settle_all.Goals.{After-settle}

pub loop-settled-init : goal.loop-settled-init
loop-settled-init c = (
  ([], [], does_none c.args.rows.now c.args.pass.now c.requires.building),
  λ t n is all low. swept_first c.args.rows.now c.args.value.now c.args.pass.now c.args.pass.now t n is all c.requires.no_fresh c.requires.no_marks (n - 0) (omega arith),
  paid_none 0 c.args.pass.now c.requires.no_fresh,
  λ t n is all. only_none (opened c.args.value.now t) (known_of c.args.pass.now),
)

pub settle-requires-clause-building : goal.settle-requires-clause-building
settle-requires-clause-building c = c.loop-settled.invariant.0.2.building

pub settle-requires-clause-pinned : goal.settle-requires-clause-pinned
settle-requires-clause-pinned c =
    let so_far = c.loop-settled.invariant.0 in pinned_still c.args.rows.now c.args.pass.now c.loop-settled.pass so_far.0 so_far.1 so_far.0 so_far.2 c.requires.pinned

pub settle-requires-clause-node : goal.settle-requires-clause-node
settle-requires-clause-node c =
    let r = c.args.rows.now in
    let v = c.args.value.now in
    let p = c.args.pass.now in
    let q = c.loop-settled.pass in
    let listed = c.requires.listed in
    let t = listed.0 in
    let n = listed.1 in
    let k = c.work_len-len.result - 1 - c.loop-settled.settled in
    let so_far = c.loop-settled.invariant.0 in
    let low = c.loop-settled-test.true in
    let len = c.work_len-len.ensures in
    let all = all_length r v p q t n listed.2 listed.3 in (
      left v k t,
      entries v k t,
      c.loop-settled.removed,
      next_settles r v p q t n listed.2 listed.3 so_far.0 so_far.1 so_far.0 so_far.2 k c.loop-settled.removed (n - c.loop-settled.settled) (omega (arith, low, len, all)) (omega (arith, low, len, all))
          (c.loop-settled.invariant.1 t n listed.2 listed.3 (omega (arith, low, len, all))),
      length-entries v k t,
    )

pub settle-requires-clause-paid : goal.settle-requires-clause-paid
settle-requires-clause-paid c = c.loop-settled.invariant.2

-- the node before the last one that was settled
module _ (c : After-settle) (t : Nodes) (n : ℕ) (is : IsTreeOf c.args.rows.now.shape (pinned_copy (known_of c.args.pass.now)) t) (all : AreAllListed c.args.value.now t n (work_of c.args.pass.now)) where
  settles : Settles c.args.rows.now c.args.value.now (left c.args.value.now (c.work_len-len.result - 1 - c.loop-settled.settled) t) (entries c.args.value.now (c.work_len-len.result - 1 - c.loop-settled.settled) t) c.loop-settled.pass c.loop-settled.removed
  settles =
      let so_far = c.loop-settled.invariant.0 in
      let low = c.loop-settled-test.true in
      let len = c.work_len-len.ensures in
      let same = all_length c.args.rows.now c.args.value.now c.args.pass.now c.loop-settled.pass t n is all in
      next_settles c.args.rows.now c.args.value.now c.args.pass.now c.loop-settled.pass t n is all so_far.0 so_far.1 so_far.0 so_far.2 (c.work_len-len.result - 1 - c.loop-settled.settled) c.loop-settled.removed (n - c.loop-settled.settled)
      (omega (arith, low, len, same)) (omega (arith, low, len, same)) (c.loop-settled.invariant.1 t n is all (omega (arith, low, len, same)))

  reads : ReadsOnly (opened c.args.value.now t) (known_of c.args.pass.now) (known_of c.settle.new.pass)
  reads =
      let v = c.args.value.now in
      let k = c.work_len-len.result - 1 - c.loop-settled.settled in
      let so_far = c.loop-settled.invariant.0 in
      only_then c.args.rows.now so_far.0 so_far.1 so_far.0 (opened v t) c.args.pass.now c.loop-settled.pass c.settle.new.pass so_far.2 (c.loop-settled.invariant.3 t n is all)
      (only_more (opened v (left v k t)) (opened v t) (known_of c.loop-settled.pass) (known_of c.settle.new.pass) (opened_left v k t) (c.settle.ensures.only (left v k t) (entries v k t) c.loop-settled.removed settles (length-entries v k t)))

pub overflow_add-removed : goal.overflow_add-removed
overflow_add-removed c =
    let v = c.args.value.now in
    let listed = c.requires.listed in
    let t = listed.0 in
    let k = c.work_len-len.result - 1 - c.loop-settled.settled in
    let few = removed_few c.args.rows.now v c.args.pass.now c.settle.new.pass t k (c.loop-settled.removed + c.in_ok-removed.field-0) c.requires.building.is_pass listed.2 (entries v k t)
    (c.in_ok-removed.ensures.settled (left v k t) (entries v k t) c.loop-settled.removed (settles (goal.at.overflow_add-removed c).After-settle t listed.1 listed.2 listed.3) (length-entries v k t)) in omega (arith, few)

pub loop-settled-preserved : goal.loop-settled-preserved
loop-settled-preserved c =
    let r = c.args.rows.now in
    let v = c.args.value.now in
    let p = c.args.pass.now in
    let q = c.loop-settled.pass in
    let s = c.settle.new.pass in
    let so_far = c.loop-settled.invariant.0 in
    let more = c.in_ok-removed.ensures.does in
    let now = (goal.at.loop-settled-preserved c).After-settle in
    let k = c.work_len-len.result - 1 - c.loop-settled.settled in (
      (so_far.0 ++ more.0, so_far.1 ++ more.1, does_both r so_far.0 so_far.1 so_far.0 more.0 more.1 more.0 p q s so_far.2 more.2),
      λ t n is all room.
          let low = c.loop-settled-test.true in
          let len = c.work_len-len.ensures in
          let same = all_length r v p q t n is all in
          subst (λ i. Sweeps r v (left v i t) (entries v i t) s (c.loop-settled.removed + c.in_ok-removed.field-0)) (let e : k ≡ n - (c.loop-settled.settled + 1) = omega (arith, low, len, same) in e)
          (c.in_ok-removed.ensures.settled (left v k t) (entries v k t) c.loop-settled.removed (settles now t n is all) (length-entries v k t)),
      c.in_ok-removed.ensures.paid,
      reads now,
    )

pub returns-clause-does : goal.returns-clause-does
returns-clause-does c = c.loop-settled.invariant.0

pub returns-clause-swept : goal.returns-clause-swept
returns-clause-swept c t n is all =
    let r = c.args.rows.now in
    let v = c.args.value.now in
    let same = all_length r v c.args.pass.now c.loop-settled.pass t n is all in
    let len = c.work_len-len.ensures in
    let high = c.loop-settled-test.false in
    let last = c.loop-settled.auto.settled-end in
    subst (λ i. Sweeps r v (left v i t) (entries v i t) c.loop-settled.pass c.loop-settled.removed) (let e : n - c.loop-settled.settled ≡ 0 = omega (arith, same, len, high) in e)
    (c.loop-settled.invariant.1 t n is all (omega (arith, same, len, last)))

pub returns-clause-paid : goal.returns-clause-paid
returns-clause-paid c = c.loop-settled.invariant.2

pub returns-in_err-removed-clause-lacks : goal.returns-in_err-removed-clause-lacks
returns-in_err-removed-clause-lacks c _ =
    let so_far = c.loop-settled.invariant.0 in does_lacks c.args.rows.now so_far.0 so_far.1 so_far.0 c.args.pass.now c.loop-settled.pass c.settle.new.pass so_far.2 (c.in_err-removed.ensures.lacks refl)

pub returns-clause-only : goal.returns-clause-only
returns-clause-only c t n is all = c.loop-settled.invariant.3 t n is all

pub returns-in_err-removed-clause-only : goal.returns-in_err-removed-clause-only
returns-in_err-removed-clause-only c = reads (goal.at.returns-in_err-removed-clause-only c).After-settle
