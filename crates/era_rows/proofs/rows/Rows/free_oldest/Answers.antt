use Rattle.std.proofs.Common.{◌≡◌, ◌/◌, ◌%◌, true, refl, sym, ap, ◌∙◌, arith}
use Rattle.era_core.specs.declared.sizes.TheConstants.{ROOT_ROWS}
use Rattle.era_core.specs.Views.{clears}
use Rattle.era_rows.specs.Known.{Known}
use Rattle.era_rows.specs.Ring.{pairs_in, is_first_clear}
use Rattle.era_rows.specs.declared.views.Knows.{Knows}
use Rattle.era_rows.proofs.Looking.{frees_cleared_at}
use Rattle.era_rows.proofs.Tied.{tied_as, room_as}
use Rattle.era_rows.proofs.Freeing.{less_row, retired_inside, retired_cleared, freed_known, tied_freed}
use Rattle.era_rows.proofs.Remembering.{recalls_as}
use Rattle.era_rows.proofs.rows.Rows.free_oldest.Goals as goal

pub owner_place-place-requires : goal.owner_place-place-requires
owner_place-place-requires g c =
    let pass = c.args.pass.now in
    let sized = c.requires.pass.sized in
    let low = retired_inside (tied_as refl refl refl refl refl (sym (ap pairs_in c.in-Some.ensures.items)) pass.tied) in
    omega (arith, sized.rows_are)

pub store-requires : goal.store-requires
store-requires g c =
    let rows = c.args.self.now in
    let pass = c.args.pass.now in
    let k = pass.seat.me.0.view in
    let sized = c.requires.pass.sized in
    let word = c.in-Some.word in
    let tied = tied_as refl refl refl refl refl (sym (ap pairs_in c.in-Some.ensures.items)) pass.tied in
    let key = rows.table.shared.key in
    let passes_are = ap (λ x. x.passes) rows.sized in
    let place = c.owner_place-place.ensures in
    let low = retired_inside tied in
    let cleared : clears k.core.least (word / ROOT_ROWS) ≡ true = ap (is_first_clear k.core.least) (sym (ap pairs_in c.in-Some.ensures.items)) ∙ c.requires.cleared in (
      c.requires.pass.at_table,
      (let long = rows.long in omega (arith, sized.rows_are)),
      frees_cleared_at g.L.Law.caller g.L.Law.stamp g.L.Law.accepted g.L.Law.lawful g.L.Law.stands g.L.Law.right key rows.table.shared.table_id.slots pass.seat.id pass.number pass.seat.me pass.tied.numbered
          (word % ROOT_ROWS) _ (omega (arith, passes_are)) (c.requires.scanned ∙ sym passes_are) (retired_cleared tied k.core.least cleared),
    )

pub invariant_of-pass : goal.invariant_of-pass
invariant_of-pass g c =
    let pass = c.args.pass.now in
    let k = pass.seat.me.0.view in
    let sized = c.requires.pass.sized in
    let row = c.in-Some.word % ROOT_ROWS in
    let tied = tied_as refl refl refl refl refl (sym (ap pairs_in c.in-Some.ensures.items)) pass.tied in
    let place = c.owner_place-place.ensures in
    let told = c.store.ensures.2 row (omega (arith, sized.passes_are)) in
    let view_is : c.store.new.seat.me.0.view ≡ less_row row k = ap (λ (x : Knows g.row.L-Entry.Denot). x.view) told.0 ∙ freed_known tied in
    record {
      tied = tied_as view_is refl refl refl refl refl (tied_freed tied);
      recalls = recalls_as (ap (λ (x : Knows g.row.L-Entry.Denot). x.view.shape) told.0) (ap (λ (x : Knows g.row.L-Entry.Denot). x.seen) told.0) pass.recalls;
      bare = told.1 ∙ pass.bare;
      roomy = room_as (ap (λ (x : Known). x.rows) view_is) refl refl refl c.in-Some.ensures.capacity refl pass.roomy;
    }

pub returns-clause-pass : goal.returns-clause-pass
returns-clause-pass g c =
    let pass = c.args.pass.now in
    let k = pass.seat.me.0.view in
    let sized = c.requires.pass.sized in
    let row = c.in-Some.word % ROOT_ROWS in
    let tied = tied_as refl refl refl refl refl (sym (ap pairs_in c.in-Some.ensures.items)) pass.tied in
    let place = c.owner_place-place.ensures in
    let told = c.store.ensures.2 row (omega (arith, sized.passes_are)) in
    let view_is : c.store.new.seat.me.0.view ≡ less_row row k = ap (λ (x : Knows g.row.L-Entry.Denot). x.view) told.0 ∙ freed_known tied in
    record {
      at_table = c.store.ensures.0 ∙ c.requires.pass.at_table;
      sized = record {
        shape_is = ap (λ (x : Known). x.shape) view_is ∙ sized.shape_is;
        rows_are = ap (λ (x : Known). x.rows) view_is ∙ sized.rows_are;
        passes_are = ap (λ (x : Known). x.passes) view_is ∙ sized.passes_are;
      };
    }

pub returns-clause-same : goal.returns-clause-same
returns-clause-same g c =
    let sized = c.requires.pass.sized in
    let place = c.owner_place-place.ensures in
    let told = c.store.ensures.2 (c.in-Some.word % ROOT_ROWS) (omega (arith, sized.passes_are)) in
    record {
      same_pass = record { same_number = refl; same_work = refl; same_memory = refl };
      same_marks = refl;
      same_seen = ap (λ (x : Knows g.row.L-Entry.Denot). x.seen) told.0;
      same_lists = ap (λ (x : Knows g.row.L-Entry.Denot). x.lists) told.0;
    }

pub returns-clause-freed : goal.returns-clause-freed
returns-clause-freed g c =
    let pass = c.args.pass.now in
    let sized = c.requires.pass.sized in
    let word = c.in-Some.word in
    let tied = tied_as refl refl refl refl refl (sym (ap pairs_in c.in-Some.ensures.items)) pass.tied in
    let place = c.owner_place-place.ensures in
    let told = c.store.ensures.2 (word % ROOT_ROWS) (omega (arith, sized.passes_are)) in (
      (word / ROOT_ROWS, word % ROOT_ROWS),
      ap pairs_in c.in-Some.ensures.items,
      ap (λ (x : Knows g.row.L-Entry.Denot). x.view) told.0 ∙ freed_known tied,
    )
