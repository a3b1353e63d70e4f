use Rattle.std.proofs.Common.{refl, ap, ◌∙◌, arith}
use Rattle.era_rows.specs.Known.{looking_at}
use Rattle.era_rows.specs.declared.views.Knows.{Knows}
use Rattle.era_rows.proofs.Looking.{looks_at}
use Rattle.era_rows.proofs.Tied.{tied_as, room_as, tied_same}
use Rattle.era_rows.proofs.Remembering.{recalls_as}
use Rattle.era_rows.proofs.rows.Rows.look.Goals as goal

pub load-requires : goal.load-requires
load-requires g c =
    let rows = c.args.self.now in
    let pass = c.args.pass.now in
    let key = rows.table.shared.key in
    let passes_are = ap (λ k. k.passes) rows.sized in
    let place = c.reservation_place-place.ensures in
    let low = c.requires.number in (
      c.requires.pass.at_table,
      (let long = rows.long in omega arith),
      looks_at g.L.Law.caller g.L.Law.stamp g.L.Law.accepted g.L.Law.lawful g.L.Law.stands g.L.Law.right key rows.table.shared.table_id.slots pass.seat.id pass.number pass.seat.me pass.tied.numbered
          c.args.number _ (omega arith) (omega (arith, passes_are)) c.requires.turn,
    )

pub invariant_of-pass : goal.invariant_of-pass
invariant_of-pass g c =
    let pass = c.args.pass.now in
    let k = pass.seat.me.0.view in
    let place = c.reservation_place-place.ensures in
    let told = (c.load.ensures.2 c.args.number (omega arith)).0 in
    let now = looking_at c.args.number c.load.result k in
    record {
      tied = tied_as (ap (λ (x : Knows g.row.L-Entry.Denot). x.view) told.0) refl refl refl refl refl (tied_same pass.tied now.core.scanned now.core.least now.core.last now.looks now.full);
      recalls = recalls_as (ap (λ (x : Knows g.row.L-Entry.Denot). x.view.shape) told.0) (ap (λ (x : Knows g.row.L-Entry.Denot). x.seen) told.0) pass.recalls;
      bare = told.1 ∙ pass.bare;
      roomy = room_as (ap (λ (x : Knows g.row.L-Entry.Denot). x.view.rows) told.0) refl refl refl refl refl pass.roomy;
    }

pub returns-clause-pass : goal.returns-clause-pass
returns-clause-pass g c =
    let sized = c.requires.pass.sized in
    let place = c.reservation_place-place.ensures in
    let told = (c.load.ensures.2 c.args.number (omega arith)).0 in
    record {
      at_table = c.load.ensures.0 ∙ c.requires.pass.at_table;
      sized = record {
        shape_is = ap (λ (k : Knows g.row.L-Entry.Denot). k.view.shape) told.0 ∙ sized.shape_is;
        rows_are = ap (λ (k : Knows g.row.L-Entry.Denot). k.view.rows) told.0 ∙ sized.rows_are;
        passes_are = ap (λ (k : Knows g.row.L-Entry.Denot). k.view.passes) told.0 ∙ sized.passes_are;
      };
    }

pub returns-clause-same : goal.returns-clause-same
returns-clause-same g c =
    let place = c.reservation_place-place.ensures in
    let told = (c.load.ensures.2 c.args.number (omega arith)).0 in
    record {
      same_pass = record { same_number = refl; same_work = refl; same_memory = refl };
      same_marks = refl;
      same_seen = ap (λ (k : Knows g.row.L-Entry.Denot). k.seen) told.0;
      same_lists = ap (λ (k : Knows g.row.L-Entry.Denot). k.lists) told.0;
    }

pub returns-clause-looked : goal.returns-clause-looked
returns-clause-looked g c =
    let place = c.reservation_place-place.ensures in
    ap (λ (k : Knows g.row.L-Entry.Denot). k.view) (c.load.ensures.2 c.args.number (omega arith)).0.0

pub returns-clause-own : goal.returns-clause-own
returns-clause-own g c =
    let place = c.reservation_place-place.ensures in
    (c.load.ensures.2 c.args.number (omega arith)).3
