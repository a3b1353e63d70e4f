use Rattle.std.proofs.Common.{◌+◌, [], take, refl, sym, ◌∙◌, arith}
use Rattle.era_core.specs.Versions.{Copy}
use Rattle.era_rows.specs.Known.{pinned_copy}
use Rattle.era_rows.specs.Passes.{known_of, work_of}
use Rattle.nd_rows.specs.Nodes.{heads}
use Rattle.nd_update.specs.Left.{left, entries, AreListed}
use Rattle.nd_update.specs.Needed.{opened}
use Rattle.nd_update.proofs.Building.{does_none, read_does}
use Rattle.nd_update.proofs.Reading.{only_none, only_more, only_then}
use Rattle.nd_update.proofs.Opening.{opened_left, opened_first}
use Rattle.nd_update.proofs.Removing.{stay_pinned}
use Rattle.nd_update.proofs.Listing.{formed_left, length-entries, listed_len, listed_end, listed_some, listed_more, each_more}
use Rattle.nd_update.proofs.removes.list_nodes.Goals as goal

pub loop-k-init : goal.loop-k-init
loop-k-init c = (does_none c.args.rows.now c.args.pass.now c.requires.building, λ t formed lists. (lists, λ j low. absurd (omega (arith, low)), only_none (opened c.args.value.now t) (known_of c.args.pass.now)))

pub returns-then-k-work_len-clause-does : goal.returns-then-k-work_len-clause-does
returns-then-k-work_len-clause-does c = c.loop-k.invariant.0

pub returns-then-k-work_len-clause-listed : goal.returns-then-k-work_len-clause-listed
returns-then-k-work_len-clause-listed c t formed lists =
    let so_far = c.loop-k.invariant.1 t formed lists in
    listed_len c.args.value.now c.args.rows.now.shape (pinned_copy (known_of c.loop-k.pass)) c.args.rows.now.rows t c.loop-k.k (work_of c.loop-k.pass) so_far.0 so_far.1 (c.if-k-work_len.true ∙ c.work_len.ensures)

pub returns-then-k-work_len-clause-only : goal.returns-then-k-work_len-clause-only
returns-then-k-work_len-clause-only c t formed lists = (c.loop-k.invariant.1 t formed lists).2

pub list_node-requires-clause-building : goal.list_node-requires-clause-building
list_node-requires-clause-building c = c.loop-k.invariant.0.building

pub list_node-requires-clause-node : goal.list_node-requires-clause-node
list_node-requires-clause-node c =
    let v = c.args.value.now in
    let k = c.loop-k.k in
    let t = c.requires.tree.0 in
    let so_far = c.loop-k.invariant.1 t c.requires.tree.1 c.requires.tree.2 in (
      left v k t,
      entries v k t,
      so_far.0,
      length-entries v k t,
      listed_some v c.args.rows.now.shape (pinned_copy (known_of c.loop-k.pass)) c.args.rows.now.rows t k (work_of c.loop-k.pass) so_far.0 (λ e. c.if-k-work_len.false (e ∙ sym c.work_len.ensures)),
    )

pub loop-k-preserved : goal.loop-k-preserved
loop-k-preserved c =
    let r = c.args.rows.now in
    let p = c.args.pass.now in
    let q = c.loop-k.pass in
    let s = c.list_node.new.pass in
    let v = c.args.value.now in
    let k = c.loop-k.k in (
      read_does r [] [] [] p q s c.loop-k.invariant.0 c.list_node.ensures.does,
      λ t formed lists.
          let so_far = c.loop-k.invariant.1 t formed lists in
          let nonempty = listed_some v r.shape (pinned_copy (known_of q)) r.rows t k (work_of q) so_far.0 (λ e. c.if-k-work_len.false (e ∙ sym c.work_len.ensures)) in
          let now = c.list_node.ensures.listed (left v k t) (entries v k t) (formed_left v r.shape k t formed) so_far.0 (length-entries v k t) nonempty in (
            stay_pinned r (λ (x : Copy). AreListed r.shape x r.rows (left v (k + 1) t) (entries v (k + 1) t) (work_of s)) [] [] [] q s c.list_node.ensures.does
                (listed_more v r.shape (pinned_copy (known_of q)) r.rows t k (work_of q) so_far.0 nonempty (work_of s) now (k + 1) refl),
            each_more v r.shape (pinned_copy (known_of q)) r.rows t k (work_of q) so_far.0 so_far.1 nonempty (k + 1) refl,
            only_then r [] [] [] (opened v t) p q s c.loop-k.invariant.0 so_far.2
                (only_more (take 1 (heads (left v k t))) (opened v t) (known_of q) (known_of s) (λ x here. opened_left v k t x (opened_first v (left v k t) x here)) (c.list_node.ensures.only (left v k t) (entries v k t) so_far.0 (length-entries v k t) nonempty)),
          ),
    )

pub returns-clause-does : goal.returns-clause-does
returns-clause-does c = c.loop-k.invariant.0

pub returns-clause-listed : goal.returns-clause-listed
returns-clause-listed c t formed lists =
    let so_far = c.loop-k.invariant.1 t formed lists in
    listed_end c.args.value.now c.args.rows.now.shape (pinned_copy (known_of c.loop-k.pass)) c.args.rows.now.rows t c.loop-k.k (work_of c.loop-k.pass) so_far.0 so_far.1 (let l = c.loop-k-test.false in let few = c.args.rows.now.few_rows in omega (arith, l, few))

pub returns-clause-only : goal.returns-clause-only
returns-clause-only c t formed lists = (c.loop-k.invariant.1 t formed lists).2
