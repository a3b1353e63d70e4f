use Rattle.std.proofs.Common.{rules, ◌<◌, ◌≡◌, refl, ap, ◌∙◌, arith}
use Rattle.era_rows.specs.Known.{finding, recording}
use Rattle.era_rows.specs.declared.views.Knows.{Knows}
use Rattle.era_rows.proofs.Allowing.{takes_at}
use Rattle.era_rows.proofs.Tied.{tied_as, room_as, tied_room, tied_same, tied_taken}
use Rattle.era_rows.proofs.Remembering.{recalls_as}
use Rattle.era_rows.proofs.rows.Rows.try_take.Goals as goal

pub compare_exchange-found-requires : goal.compare_exchange-found-requires
compare_exchange-found-requires g c =
    let rows = c.args.self.now in
    let pass = c.args.pass.now in
    let key = rows.table.shared.key in
    let place = c.owner_place-place.ensures in
    let passes_are : key.passes ≡ rows.passes = ap (λ k. k.passes) rows.sized in
    let rows_are : key.rows ≡ rows.rows = ap (λ k. k.rows) rows.sized in (
      c.requires.pass.at_table,
      (let long = rows.long in let row = c.requires.row in omega arith),
      takes_at g.L.Law.caller g.L.Law.stamp g.L.Law.accepted g.L.Law.lawful g.L.Law.stands g.L.Law.right key rows.table.shared.table_id.slots pass.seat.id pass.number pass.seat.me pass.tied.numbered
          g.M.Missing.full c.args.row _ _ (omega arith) (search rules) (let row = c.requires.row in omega arith),
    )

pub push_reserved-requires : goal.push_reserved-requires
push_reserved-requires g c =
    let pass = c.args.pass.now in
    let k = pass.seat.me.0.view in
    let sized = c.requires.pass.sized in
    let place = c.owner_place-place.ensures in
    let told = c.compare_exchange-found.ensures.2 c.args.row (omega (arith, sized.passes_are)) in
    let unread = (told.0 (search rules)).1 in
    let few = tied_room pass.tied c.args.row (let row = c.requires.row in omega (arith, sized.rows_are)) unread in
    (let roomy = pass.roomy.0 in omega arith)

pub invariant_of-pass : goal.invariant_of-pass
invariant_of-pass g c =
    let pass = c.args.pass.now in
    let k = pass.seat.me.0.view in
    let sized = c.requires.pass.sized in
    let place = c.owner_place-place.ensures in
    let told = c.compare_exchange-found.ensures.2 c.args.row (omega (arith, sized.passes_are)) in
    let now = (told.1 (search rules)).0 in
    let rows_are = ap (λ (x : Knows g.row.L-Entry.Denot). x.view.rows) now.0 in
    let looked = finding _ c.compare_exchange-found.result k in
    record {
      tied = tied_as (ap (λ (x : Knows g.row.L-Entry.Denot). x.view) now.0) refl refl refl refl refl
          (tied_same pass.tied k.core.scanned k.core.least k.core.last looked.looks (g.M.Missing.full looked));
      recalls = recalls_as (ap (λ (x : Knows g.row.L-Entry.Denot). x.view.shape) now.0) (ap (λ (x : Knows g.row.L-Entry.Denot). x.seen) now.0) pass.recalls;
      bare = now.1 ∙ pass.bare;
      roomy = room_as rows_are refl refl refl refl refl pass.roomy;
    }

pub returns-then-found-ne0-clause-busy : goal.returns-then-found-ne0-clause-busy
returns-then-found-ne0-clause-busy g c =
    let sized = c.requires.pass.sized in
    let place = c.owner_place-place.ensures in
    let told = c.compare_exchange-found.ensures.2 c.args.row (omega (arith, sized.passes_are)) in
    let now = (told.1 (search rules)).0 in
    λ busy. (c.compare_exchange-found.result, search rules, ap (λ (x : Knows g.row.L-Entry.Denot). x.view) now.0 ∙ ap (λ i. recording g.M.Missing.full (finding i c.compare_exchange-found.result c.args.pass.now.seat.me.0.view)) place)

pub returns-then-found-ne0-clause-alone : goal.returns-then-found-ne0-clause-alone
returns-then-found-ne0-clause-alone g c =
    let sized = c.requires.pass.sized in
    let place = c.owner_place-place.ensures in
    let told = c.compare_exchange-found.ensures.2 c.args.row (omega (arith, sized.passes_are)) in
    λ busy. (told.1 (search rules)).1

pub invariant_of-pass-2 : goal.invariant_of-pass-2
invariant_of-pass-2 g c =
    let pass = c.args.pass.now in
    let k = pass.seat.me.0.view in
    let sized = c.requires.pass.sized in
    let place = c.owner_place-place.ensures in
    let told = c.compare_exchange-found.ensures.2 c.args.row (omega (arith, sized.passes_are)) in
    let taken = told.0 (search rules) in
    let rows_are = ap (λ (x : Knows g.row.L-Entry.Denot). x.view.rows) taken.0.0 in
    let row : c.args.row < k.rows = (let low = c.requires.row in omega (arith, sized.rows_are)) in
    let items = c.push_reserved.ensures.items in
    record {
      tied = tied_as (ap (λ (x : Knows g.row.L-Entry.Denot). x.view) taken.0.0) refl items (search rules) refl refl
          (tied_taken pass.tied c.args.row row taken.1);
      recalls = recalls_as (ap (λ (x : Knows g.row.L-Entry.Denot). x.view.shape) taken.0.0) (ap (λ (x : Knows g.row.L-Entry.Denot). x.seen) taken.0.0) pass.recalls;
      bare = taken.0.1 ∙ pass.bare;
      roomy = room_as rows_are c.push_reserved.ensures.capacity refl refl refl refl pass.roomy;
    }
