use Rattle.std.proofs.Common.{rules, ◌≡◌, ◌<◌, [], ◌∷◌, refl, ap, ◌∙◌, arith}
use Rattle.era_core.specs.Lists.{times}
use Rattle.era_core.specs.Views.{rows_in}
use Rattle.era_core.proofs.ListFacts.{times-append}
use Rattle.era_rows.specs.Known.{of_others}
use Rattle.era_rows.specs.Passes.{known_of, giving_back}
use Rattle.era_rows.specs.declared.views.Knows.{Knows}
use Rattle.era_rows.proofs.Moves.{freeing_fresh}
use Rattle.era_rows.proofs.Tied.{tied_as, room_as, tied_row, tied_given_back}
use Rattle.era_rows.proofs.Allowing.{frees_at}
use Rattle.era_rows.proofs.Remembering.{recalls_as}
use Rattle.era_rows.proofs.rows.Rows.give_back.Goals as goal

pub owner_place-at-requires : goal.owner_place-at-requires
owner_place-at-requires g c =
    let pass = c.args.pass.now in
    let low = tied_row pass.tied c.args.row c.requires.fresh in
    let sized = c.requires.pass.sized in omega (arith, sized.rows_are)

pub store-requires : goal.store-requires
store-requires g c =
    let rows = c.args.self.now in
    let pass = c.args.pass.now in
    let key = rows.table.shared.key in
    let place = c.owner_place-at.ensures in
    let sized = c.requires.pass.sized in
    let passes_are : key.passes ≡ rows.passes = ap (λ k. k.passes) rows.sized in
    let rows_are : key.rows ≡ rows.rows = ap (λ k. k.rows) rows.sized in
    let row : c.args.row < rows.rows = (let low = tied_row pass.tied c.args.row c.requires.fresh in omega (arith, sized.rows_are)) in (
      c.requires.pass.at_table,
      (let long = rows.long in omega arith),
      frees_at g.L.Law.caller g.L.Law.stamp g.L.Law.accepted g.L.Law.lawful g.L.Law.stands g.L.Law.right key rows.table.shared.table_id.slots pass.seat.id pass.number pass.seat.me pass.tied.numbered
          c.args.row _ (omega arith) c.requires.fresh,
    )

pub invariant_of-pass : goal.invariant_of-pass
invariant_of-pass g c =
    let pass = c.args.pass.now in
    let k = pass.seat.me.0.view in
    let place = c.owner_place-at.ensures in
    let sized = c.requires.pass.sized in
    let told = c.store.ensures.2 c.args.row (omega (arith, sized.passes_are)) in
    let now : c.store.new.seat.me.0.view ≡ giving_back c.args.row k =
    ap (λ (x : Knows g.row.L-Entry.Denot). x.view) told.0
    ∙ ap (λ z. record k { core = z; written = of_others (c.args.row ∷ []) k.written }) (freeing_fresh c.args.row k.core c.requires.fresh) in
    record {
      tied = tied_as now refl c.drop_row.ensures.items (search rules) refl refl
          (tied_given_back pass.tied c.args.row c.requires.fresh);
      recalls = recalls_as (ap (λ (x : Knows g.row.L-Entry.Denot). x.view.shape) told.0) (ap (λ (x : Knows g.row.L-Entry.Denot). x.seen) told.0) pass.recalls;
      bare = told.1 ∙ pass.bare;
      roomy = room_as (ap (λ x. x.rows) now) c.drop_row.ensures.capacity refl refl refl refl pass.roomy;
    }

pub drop_row-requires : goal.drop_row-requires
drop_row-requires g c =
    let tied = c.args.pass.now.tied in
    let one = tied.holds.different c.args.row in
    record { once = (let parts = times-append c.args.row (known_of c.args.pass.now).core.fresh (rows_in (known_of c.args.pass.now).core.retired) in omega (arith, ap (times c.args.row) tied.fresh_are)) }

pub index_mut-requires : goal.index_mut-requires
index_mut-requires g c =
    let pass = c.args.pass.now in
    let low = tied_row pass.tied c.args.row c.requires.fresh in
    omega (arith, pass.tied.counted)
