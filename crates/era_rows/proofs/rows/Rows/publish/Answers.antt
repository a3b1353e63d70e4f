use Rattle.std.proofs.Common.{◌≡◌, ℕ, ◌<◌, ◌∙◌, Some, [], ◌∷◌, refl, sym, ap, subst, arith}
use Rattle.std.proofs.lemmas.Option.{same_Some}
use Rattle.era_core.specs.Lists.{In}
use Rattle.era_core.specs.Words.{root_word}
use Rattle.era_core.specs.Views.{versions_of}
use Rattle.era_rows.specs.Known.{Known, publishing_tree}
use Rattle.era_rows.specs.Ring.{pairs_in}
use Rattle.era_rows.specs.Plays.{Publishes}
use Rattle.era_rows.specs.Rule.{knowing}
use Rattle.era_rows.specs.declared.views.Knows.{Knows}
use Rattle.era_rows.proofs.Tied.{tied_as, room_as, tied_row}
use Rattle.era_rows.proofs.Orders.{pairs_long}
use Rattle.era_rows.proofs.Retired.{batched_more}
use Rattle.era_rows.proofs.Published.{tied_lost, tied_published, retired_in_order, retired_room}
use Rattle.era_rows.specs.Lists.{IsPrefix}
use Rattle.era_rows.proofs.Remembering.{recalls_more}
use Rattle.era_rows.proofs.rows.Rows.publish.Goals as goal

pub exchange_root-found-requires-clause-root : goal.exchange_root-found-requires-clause-root
exchange_root-found-requires-clause-root g c =
    let low = tied_row c.args.pass.now.tied c.args.root c.requires.may.4.fresh_root in
    let sized = c.requires.pass.sized.rows_are in omega arith

pub exchange_root-found-requires-clause-last : goal.exchange_root-found-requires-clause-last
exchange_root-found-requires-clause-last g c =
    let pin = c.in-Some.pin in
    let low = c.args.pass.now.tied.pinned_low pin.0 pin.1 (sym c.args.pass.now.tied.pinned_is ∙ c.in-Some.is) in
    let other = c.if-pin-eq-LAST_VERSION.false in
    ((let few = low.0 in omega arith), low.1)

pub loosen-requires : goal.loosen-requires
loosen-requires g c =
    let reached = c.reach.ensures.reached.is_reached in
    record { inside = λ x here. (let low = tied_row c.args.pass.now.tied x (reached.are_fresh x here) in let counted = reached.counted in omega arith) }

pub invariant_of-pass-then-found-packed : goal.invariant_of-pass-then-found-packed
invariant_of-pass-then-found-packed g c =
    let pass = c.args.pass.now in
    let mid = c.reach.new.seat.me.0.view in
    let after = c.exchange_root-found.new.seat.me.0.view in
    let read = c.reach.ensures.read in
    let lost = c.exchange_root-found.ensures.lost (λ e. c.if-found-packed.true (e ∙ sym c.packed.ensures)) in
    let rows = ap (λ (z : Known). z.rows) lost.view_is ∙ ap (λ (z : Known). z.rows) read.now in
    let loosened = tied_lost pass.tied c.args.root mid read c.reach.new.loose.items c.reach.new.reached.items c.reach.ensures.reached
    c.exchange_root-found.result after.copies c.loosen.new.loose.items after lost.view_is lost.learns.copies_more c.loosen.ensures.len c.loosen.ensures.loose in
    record {
      tied = tied_as refl refl refl refl c.clear-then-found-packed.ensures.items refl loosened;
      recalls = recalls_more g.L.Law.lasts (ap (λ (z : Known). z.shape) lost.view_is ∙ ap (λ (z : Known). z.shape) read.now) (subst (λ xs. IsPrefix xs c.exchange_root-found.new.seat.me.0.seen) (ap (λ (x : Knows g.row.L-Entry.Denot). x.seen) c.reach.ensures.same.0) lost.learns.seen_more) pass.recalls;
      bare = c.exchange_root-found.ensures.slots ∙ c.reach.ensures.same.1 ∙ pass.bare;
      roomy = room_as rows refl c.reach.ensures.capacity c.clear-then-found-packed.ensures.capacity refl refl pass.roomy;
    }

pub retire-requires-clause-version : goal.retire-requires-clause-version
retire-requires-clause-version g c =
    let pin = c.in-Some.pin in
    (c.args.pass.now.tied.pinned_low pin.0 pin.1 (sym c.args.pass.now.tied.pinned_is ∙ c.in-Some.is)).0

pub retire-requires-clause-rows : goal.retire-requires-clause-rows
retire-requires-clause-rows g c r marked =
    let tied = c.args.pass.now.tied in
    let low = tied.marks_inside r marked in
    let few = tied.few in omega arith

pub retire-requires-clause-room : goal.retire-requires-clause-room
retire-requires-clause-room g c =
    let pass = c.args.pass.now in
    let k = pass.seat.me.0.view in
    let pin = c.in-Some.pin in
    let after = c.exchange_root-found.new.seat.me.0.view in
    let read = c.reach.ensures.read in
    let found : c.exchange_root-found.result ≡ root_word pin.0 pin.1 = c.if-found-packed.false ∙ c.packed.ensures in
    let won = c.exchange_root-found.ensures.won c.requires.may.2 c.requires.may.3 found in
    let now = ap (λ (x : Knows g.row.L-Entry.Denot). x.view) won.now ∙ ap (publishing_tree pin.0 pin.1 c.args.root) read.now in
    let few = retired_room k (pairs_in pass.retired.items) pin.0 c.args.root pass.marked.items after pass.tied.batched c.requires.marks won.holds (ap (λ (z : Known). z.core.retired) now) in
    let rows = ap (λ (z : Known). z.rows) now in
    let room = pass.roomy.3 in
    omega (arith, pairs_long pass.retired.items)

pub invariant_of-pass-2 : goal.invariant_of-pass-2
invariant_of-pass-2 g c =
    let pass = c.args.pass.now in
    let k = pass.seat.me.0.view in
    let pin = c.in-Some.pin in
    let mid = c.reach.new.seat.me.0.view in
    let after = c.exchange_root-found.new.seat.me.0.view in
    let read = c.reach.ensures.read in
    let found : c.exchange_root-found.result ≡ root_word pin.0 pin.1 = c.if-found-packed.false ∙ c.packed.ensures in
    let won = c.exchange_root-found.ensures.won c.requires.may.2 c.requires.may.3 found in
    let now = ap (λ (x : Knows g.row.L-Entry.Denot). x.view) won.now in
    let rows = ap (λ (z : Known). z.rows) now ∙ ap (λ (z : Known). z.rows) read.now in
    let published = tied_published pass.tied c.args.root mid read c.reach.new.loose.items c.reach.new.reached.items c.reach.ensures.reached
    pin.0 pin.1 _ after now won.holds
    (retired_in_order pass.tied pin.0 pass.marked.items (subst (λ (z : Known). (b : ℕ) → In b (versions_of z.core.retired) → b < pin.0) read.now won.older))
    (batched_more pin.0 pass.marked.items _ (pairs_in pass.retired.items) k.core.retired c.requires.marks pass.tied.batched) in
    record {
      tied = tied_as refl refl c.keep_loose.ensures.rows refl c.retire.ensures.marked c.retire.ensures.retired published;
      recalls = recalls_more g.L.Law.lasts (ap (λ (z : Known). z.shape) now ∙ ap (λ (z : Known). z.shape) read.now) (subst (λ xs. IsPrefix xs c.exchange_root-found.new.seat.me.0.seen) (ap (λ (x : Knows g.row.L-Entry.Denot). x.seen) c.reach.ensures.same.0) (c.requires.may.2 ∷ [], sym (ap (λ (x : Knows g.row.L-Entry.Denot). x.seen) won.now))) pass.recalls;
      bare = c.exchange_root-found.ensures.slots ∙ c.reach.ensures.same.1 ∙ pass.bare;
      roomy = room_as rows c.keep_loose.ensures.capacity c.reach.ensures.capacity c.retire.ensures.marked_capacity c.retire.ensures.retired_capacity refl pass.roomy;
    }

pub returns-clause-published : goal.returns-clause-published
returns-clause-published g c n p e pinned entry =
    let pass = c.args.pass.now in
    let pin = c.in-Some.pin in
    let is_pinned : pass.seat.me.0.view.core.pinned ≡ Some (pin.0, pin.1) = sym pass.tied.pinned_is ∙ c.in-Some.is in
    let same : pin ≡ (n, p) = same_Some (pin.0, pin.1) (n, p) (sym is_pinned ∙ pinned) in
    let version = ap (λ (x : ℕ × ℕ). x.0) same in
    let found : c.exchange_root-found.result ≡ root_word pin.0 pin.1 = c.if-found-packed.false ∙ c.packed.ensures in
    let won = c.exchange_root-found.ensures.won e entry found in
    let after = c.exchange_root-found.new.seat.me.0 in (
      omega arith,
      omega arith,
      (
        c.reach.new.seat.me.0.view,
        c.reach.ensures.read,
        subst (λ (x : ℕ × ℕ). Publishes g.L.Law.caller g.L.Law.stamp g.L.Law.accepted g.L.Law.lawful g.L.Law.stands g.L.Law.right x.0 x.1 c.args.root e
            (knowing pass.seat.me.0.seen pass.seat.me.0.lists c.reach.new.seat.me.0.view) after) same
            (subst (λ (x : Knows g.row.L-Entry.Denot). Publishes g.L.Law.caller g.L.Law.stamp g.L.Law.accepted g.L.Law.lawful g.L.Law.stands g.L.Law.right pin.0 pin.1 c.args.root e x after) c.reach.ensures.same.0 won),
      ),
    )
