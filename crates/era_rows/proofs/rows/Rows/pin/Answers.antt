use Rattle.std.proofs.Common.{◌≡◌, ◌/◌, ◌%◌, refl, ap, subst, ◌∙◌, arith}
use Rattle.era_core.specs.declared.sizes.TheConstants.{ROOT_ROWS}
use Rattle.era_core.specs.Words.{root_word}
use Rattle.era_core.proofs.ListFacts.{at_within}
use Rattle.era_rows.specs.Known.{noting_root, reserving, pinning_root}
use Rattle.era_rows.specs.Held.{HoldsTree}
use Rattle.era_rows.specs.Rule.{knowing}
use Rattle.era_rows.specs.Plays.{Pins}
use Rattle.era_rows.specs.declared.views.Knows.{Knows}
use Rattle.era_rows.proofs.Reading.{notes_root, announces_at, pins_root}
use Rattle.era_rows.proofs.Tied.{tied_as, room_as, tied_pinned}
use Rattle.era_rows.specs.Lists.{IsPrefix}
use Rattle.era_rows.proofs.Remembering.{recalls_more}
use Rattle.era_rows.proofs.rows.Rows.pin.Goals as goal

pub load-noted-requires : goal.load-noted-requires
load-noted-requires g c =
    let rows = c.args.self.now in
    let pass = c.args.pass.now in
    let key = rows.table.shared.key in (
      c.requires.pass.at_table,
      (let long = rows.long in omega arith),
      notes_root g.L.Law.caller g.L.Law.stamp g.L.Law.accepted g.L.Law.lawful g.L.Law.stands g.L.Law.right key rows.table.shared.table_id.slots pass.seat.id pass.number pass.seat.me pass.tied.numbered
          c.requires.unpinned (pass.tied.silent c.requires.unpinned),
    )

pub store-requires : goal.store-requires
store-requires g c =
    let rows = c.args.self.now in
    let pass = c.args.pass.now in
    let key = rows.table.shared.key in
    let seat = c.load-noted.new.seat in
    let now = c.load-noted.ensures.2.0 in
    let place = c.reservation_place-place.ensures in
    let sized = c.requires.pass.sized in
    let number = pass.tied.some_pass in (
      c.load-noted.ensures.0 ∙ c.requires.pass.at_table,
      (let long = rows.long in omega (arith, sized.passes_are)),
      announces_at g.L.Law.caller g.L.Law.stamp g.L.Law.accepted g.L.Law.lawful g.L.Law.stands g.L.Law.right key rows.table.shared.table_id.slots seat.id pass.number seat.me
          (ap (λ (x : Knows g.row.L-Entry.Denot). x.view.core.number) now ∙ pass.tied.numbered)
          (c.load-noted.result / ROOT_ROWS) _ _ place refl (ap (λ (x : Knows g.row.L-Entry.Denot). x.view.core.noted) now)
          (ap (λ (x : Knows g.row.L-Entry.Denot). x.view.reserves) now ∙ pass.tied.silent c.requires.unpinned),
    )

pub load-root-requires : goal.load-root-requires
load-root-requires g c =
    let rows = c.args.self.now in
    let pass = c.args.pass.now in
    let key = rows.table.shared.key in
    let seat = c.store.new.seat in
    let noted = c.load-noted.ensures.2.0 in
    let now = (c.store.ensures.2 (c.load-noted.result / ROOT_ROWS) refl).0 in (
      c.store.ensures.0 ∙ c.load-noted.ensures.0 ∙ c.requires.pass.at_table,
      (let long = rows.long in omega arith),
      pins_root g.L.Law.caller g.L.Law.stamp g.L.Law.accepted g.L.Law.lawful g.L.Law.stands g.L.Law.right key rows.table.shared.table_id.slots seat.id pass.number seat.me
          (ap (λ (x : Knows g.row.L-Entry.Denot). x.view.core.number) now ∙ ap (λ (x : Knows g.row.L-Entry.Denot). x.view.core.number) noted ∙ pass.tied.numbered)
          g.L.Law.fits
          (ap (λ (x : Knows g.row.L-Entry.Denot). x.view.core.pinned) now ∙ ap (λ (x : Knows g.row.L-Entry.Denot). x.view.core.pinned) noted ∙ c.requires.unpinned)
          (let is = ap (λ (x : Knows g.row.L-Entry.Denot). x.view.reserves) now in omega arith),
    )

pub invariant_of-pass : goal.invariant_of-pass
invariant_of-pass g c =
    let pass = c.args.pass.now in
    let n = c.load-noted.result / ROOT_ROWS in
    let w = c.load-root.result in
    let noted = c.load-noted.ensures.2 in
    let reserved = c.store.ensures.2 n refl in
    let told = c.load-root.ensures.2 in
    let mid : c.store.new.seat.me.0.view ≡ reserving n (noting_root c.load-noted.result pass.seat.me.0.view) =
    ap (λ (x : Knows g.row.L-Entry.Denot). x.view) reserved.0 ∙ ap (λ (x : Knows g.row.L-Entry.Denot). reserving n x.view) noted.0 in
    let copies = c.load-root.new.seat.me.0.view.copies in
    let now : c.load-root.new.seat.me.0.view ≡ pinning_root w copies (reserving n (noting_root c.load-noted.result pass.seat.me.0.view)) =
    told.0.view_is ∙ ap (pinning_root w copies) mid in
    record {
      tied = tied_as now refl refl refl refl refl
          (tied_pinned pass.tied n w c.load-noted.result copies (subst HoldsTree now told.0.tree) (at_within copies (w / ROOT_ROWS) _ told.0.there) c.load-root.type_inv);
      recalls = recalls_more g.L.Law.lasts (ap (λ k. k.shape) now) (subst (λ xs. IsPrefix xs c.load-root.new.seat.me.0.seen) (ap (λ (x : Knows g.row.L-Entry.Denot). x.seen) reserved.0 ∙ ap (λ (x : Knows g.row.L-Entry.Denot). x.seen) noted.0) told.0.learns.seen_more) pass.recalls;
      bare = told.1 ∙ reserved.1 ∙ noted.1 ∙ pass.bare;
      roomy = room_as (ap (λ k. k.rows) now) refl refl refl refl refl pass.roomy;
    }

pub returns-clause-pass : goal.returns-clause-pass
returns-clause-pass g c =
    let n = c.load-noted.result / ROOT_ROWS in
    let sized = c.requires.pass.sized in
    let noted = ap (λ (x : Knows g.row.L-Entry.Denot). x.view) c.load-noted.ensures.2.0 in
    let reserved = ap (λ (x : Knows g.row.L-Entry.Denot). x.view) (c.store.ensures.2 n refl).0 in
    let pinned = c.load-root.ensures.2.0.view_is in
    record {
      at_table = c.load-root.ensures.0 ∙ c.store.ensures.0 ∙ c.load-noted.ensures.0 ∙ c.requires.pass.at_table;
      sized = record {
        shape_is = ap (λ k. k.shape) pinned ∙ ap (λ k. k.shape) reserved ∙ ap (λ k. k.shape) noted ∙ sized.shape_is;
        rows_are = ap (λ k. k.rows) pinned ∙ ap (λ k. k.rows) reserved ∙ ap (λ k. k.rows) noted ∙ sized.rows_are;
        passes_are = ap (λ k. k.passes) pinned ∙ ap (λ k. k.passes) reserved ∙ ap (λ k. k.passes) noted ∙ sized.passes_are;
      };
    }

pub returns-clause-pinned : goal.returns-clause-pinned
returns-clause-pinned g c =
    let n = c.load-noted.result / ROOT_ROWS in
    let w = c.load-root.result in
    let after = c.load-root.new.seat.me.0 in
    let noted = c.load-noted.ensures.2.0 in
    let reserved = (c.store.ensures.2 n refl).0 in
    let before = c.args.pass.now.seat.me.0 in
    let start : Knows g.row.L-Entry.Denot = knowing before.seen before.lists (reserving n (noting_root c.load-noted.result before.view)) in
    let mid : c.store.new.seat.me.0 ≡ start =
    reserved ∙ ap (λ (x : Knows g.row.L-Entry.Denot). knowing x.seen x.lists (reserving n x.view)) noted in
    let whole : w ≡ root_word (w / ROOT_ROWS) (w % ROOT_ROWS) = omega arith in (
      c.load-noted.result,
      subst (λ x. Pins g.L.Law.caller g.L.Law.stamp g.L.Law.accepted g.L.Law.lawful g.L.Law.stands g.L.Law.right x start after) whole
          (subst (λ m. Pins g.L.Law.caller g.L.Law.stamp g.L.Law.accepted g.L.Law.lawful g.L.Law.stands g.L.Law.right w m after) mid c.load-root.ensures.2.0),
    )
