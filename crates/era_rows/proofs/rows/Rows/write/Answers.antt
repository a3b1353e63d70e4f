use Rattle.std.proofs.Common.{rules, ◌≡◌, ◌<◌, refl, ap, ◌∙◌, arith}
use Rattle.era_rows.specs.declared.views.Knows.{Knows}
use Rattle.era_rows.proofs.Tied.{tied_as, room_as, tied_row, tied_written}
use Rattle.era_rows.proofs.Allowing.{writes_at}
use Rattle.era_rows.proofs.Remembering.{recalls_as}
use Rattle.era_rows.proofs.rows.Rows.write.Goals as goal

pub cell_place-at-requires : goal.cell_place-at-requires
cell_place-at-requires g c =
    let pass = c.args.pass.now in
    let low = tied_row pass.tied c.args.row c.requires.fresh in
    let sized = c.requires.pass.sized in (omega (arith, sized.rows_are), c.requires.place)

pub store-requires : goal.store-requires
store-requires g c =
    let rows = c.args.self.now in
    let pass = c.args.pass.now in
    let key = rows.table.shared.key in
    let place = c.cell_place-at.ensures in
    let sized = c.requires.pass.sized in
    let passes_are : key.passes ≡ rows.passes = ap (λ k. k.passes) rows.sized in
    let rows_are : key.rows ≡ rows.rows = ap (λ k. k.rows) rows.sized in
    let row : c.args.row < rows.rows = (let low = tied_row pass.tied c.args.row c.requires.fresh in omega (arith, sized.rows_are)) in (
      c.requires.pass.at_table,
      (let long = rows.long in let near = c.requires.place in omega arith),
      writes_at g.L.Law.caller g.L.Law.stamp g.L.Law.accepted g.L.Law.lawful g.L.Law.stands g.L.Law.right key rows.table.shared.table_id.slots pass.seat.id pass.number pass.seat.me pass.tied.numbered
          c.args.row c.args.place _ c.args.word (omega arith) c.requires.fresh c.requires.place,
    )

pub invariant_of-pass : goal.invariant_of-pass
invariant_of-pass g c =
    let pass = c.args.pass.now in
    let k = pass.seat.me.0.view in
    let place = c.cell_place-at.ensures in
    let sized = c.requires.pass.sized in
    let told = c.store.ensures.2 c.args.row c.args.place c.requires.place (omega (arith, sized.passes_are, sized.rows_are)) in
    let now = ap (λ (x : Knows g.row.L-Entry.Denot). x.view) told.0 in
    record {
      tied = tied_as now refl refl refl refl refl
          (tied_written pass.tied c.args.row c.args.place c.args.word c.requires.fresh);
      recalls = recalls_as (ap (λ (x : Knows g.row.L-Entry.Denot). x.view.shape) told.0) (ap (λ (x : Knows g.row.L-Entry.Denot). x.seen) told.0) pass.recalls;
      bare = told.1 ∙ pass.bare;
      roomy = room_as (ap (λ x. x.rows) now) refl refl refl refl refl pass.roomy;
    }

pub returns-clause-pass : goal.returns-clause-pass
returns-clause-pass g c =
    let place = c.cell_place-at.ensures in
    let sized = c.requires.pass.sized in
    let now = (c.store.ensures.2 c.args.row c.args.place c.requires.place (omega (arith, sized.passes_are, sized.rows_are))).0 in
    record {
      at_table = c.store.ensures.0 ∙ c.requires.pass.at_table;
      sized = record {
        shape_is = ap (λ k. k.view.shape) now ∙ sized.shape_is;
        rows_are = ap (λ k. k.view.rows) now ∙ sized.rows_are;
        passes_are = ap (λ k. k.view.passes) now ∙ sized.passes_are;
      };
    }

pub returns-clause-same : goal.returns-clause-same
returns-clause-same g c =
    let place = c.cell_place-at.ensures in
    let sized = c.requires.pass.sized in
    let now = (c.store.ensures.2 c.args.row c.args.place c.requires.place (omega (arith, sized.passes_are, sized.rows_are))).0 in
    record { same_pass = record { same_number = search rules; same_work = search rules; same_memory = search rules }; same_marks = search rules; same_seen = ap (λ k. k.seen) now; same_lists = ap (λ k. k.lists) now }
