use Rattle.std.proofs.Common.{refl, sym, ap, ◌∙◌, arith}
use Rattle.era_rows.specs.declared.views.Knows.{Knows}
use Rattle.era_rows.proofs.Leaving.{leaves_at}
use Rattle.era_rows.proofs.Tied.{tied_as, room_as, tied_left}
use Rattle.era_rows.proofs.Remembering.{recalls_as}
use Rattle.era_rows.proofs.rows.Rows.unpin_as.Goals as goal

pub store-requires : goal.store-requires
store-requires g c =
    let rows = c.args.self.now in
    let pass = c.args.pass.now in
    let key = rows.table.shared.key in
    let place = c.reservation_place-place.ensures in
    let sized = c.requires.pass.sized in
    let number = pass.tied.some_pass in
    let pinned = c.requires.may in (
      c.requires.pass.at_table,
      (let long = rows.long in omega (arith, sized.passes_are)),
      leaves_at g.L.Law.caller g.L.Law.stamp g.L.Law.accepted g.L.Law.lawful g.L.Law.stands g.L.Law.right key rows.table.shared.table_id.slots pass.seat.id pass.number pass.seat.me pass.tied.numbered
          pinned.0 pinned.1 g.W.Said.entry pinned.2 (λ e same. pinned.3 e (sym c.requires.said ∙ same)) _ place,
    )

pub invariant_of-pass : goal.invariant_of-pass
invariant_of-pass g c =
    let pass = c.args.pass.now in
    let told = c.store.ensures.2 in
    let now = ap (λ (x : Knows g.row.L-Entry.Denot). x.view) told.0 in
    record {
      tied = tied_as now refl refl refl c.clear.ensures.items refl (tied_left pass.tied);
      recalls = recalls_as (ap (λ (x : Knows g.row.L-Entry.Denot). x.view.shape) told.0) (ap (λ (x : Knows g.row.L-Entry.Denot). x.seen) told.0) pass.recalls;
      bare = told.1 ∙ pass.bare;
      roomy = room_as (ap (λ x. x.rows) now) refl refl c.clear.ensures.capacity refl refl pass.roomy;
    }
