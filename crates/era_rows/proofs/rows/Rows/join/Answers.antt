use Rattle.std.proofs.Common.{◌≡◌, Some, refl, inl, ap, ◌∙◌, arith}
use Rattle.atomic_table.specs.Table.{Me}
use Rattle.era_rows.specs.Known.{joining_known, looking_at}
use Rattle.era_rows.specs.Ring.{pairs_in}
use Rattle.era_rows.specs.declared.views.Knows.{Knows}
use Rattle.era_rows.proofs.Joining.{joins_seats}
use Rattle.era_rows.proofs.Looking.{looks_at}
use Rattle.era_rows.proofs.Orders.{pairs_long}
use Rattle.era_rows.proofs.Tied.{tied_as, room_as, tied_same}
use Rattle.era_rows.proofs.Tidying.{joined_room, joined_inside, tied_joined, looked_joined}
use Rattle.era_rows.proofs.Remembering.{recalls_none}
use Rattle.era_rows.proofs.rows.Rows.join.Goals as goal

pub join_seat-requires : goal.join_seat-requires
join_seat-requires g c =
    let rows = c.args.self.now in
    let pass = c.args.pass.now in
    let other = c.args.other in (
      c.requires.pass.at_table,
      c.requires.other.at_table,
      other.bare,
      (let long = rows.long in omega arith),
      joins_seats g.L.Law.caller g.L.Law.stamp g.L.Law.accepted g.L.Law.lawful g.L.Law.stands g.L.Law.right rows.table.shared.key pass.seat.id pass.number other.seat.id other.number
          pass.seat.me.0 other.seat.me.0 pass.tied.numbered other.tied.numbered c.requires.unpinned.0 c.requires.unpinned.1 pass.tied.settled other.tied.settled,
    )

pub load-requires : goal.load-requires
load-requires g c =
    let rows = c.args.self.now in
    let pass = c.args.pass.now in
    let key = rows.table.shared.key in
    let passes_are = ap (λ k. k.passes) rows.sized in
    let place = c.reservation_place-place.ensures in
    let mine : c.join_seat.new.seat.me.0.view.core.number ≡ Some pass.number = ap (λ (m : Me (Unit {0}) (Knows g.row.L-Entry.Denot)). m.0.view.core.number) c.join_seat.ensures.2 ∙ pass.tied.numbered in (
      c.join_seat.ensures.0 ∙ c.requires.pass.at_table,
      (let long = rows.long in let some_passes = rows.some_passes in omega arith),
      looks_at g.L.Law.caller g.L.Law.stamp g.L.Law.accepted g.L.Law.lawful g.L.Law.stands g.L.Law.right key rows.table.shared.table_id.slots c.join_seat.new.seat.id pass.number c.join_seat.new.seat.me mine
          0 _ (omega arith) (let some_passes = rows.some_passes in omega (arith, passes_are)) (inl refl),
    )

pub append-requires : goal.append-requires
append-requires g c =
    let rows = c.args.self.now in
    let pass = c.args.pass.now in
    let other = c.args.other in
    let place = c.reservation_place-place.ensures in
    let told = looked_joined pass.seat.me.0 other.seat.me.0 c.join_seat.new.seat.me c.load.new.seat.me pass.seat.me.1 c.load.result c.join_seat.ensures.2 (c.load.ensures.2 0 (omega arith)).0 (c.load.ensures.2 0 (omega arith)).1 in
    let few = (joined_room pass.tied other.tied told.1).0 in
    (let roomy = pass.roomy.0 in omega (arith, pass.fresh.ok.0, other.fresh.ok.0))

pub loosen-requires : goal.loosen-requires
loosen-requires g c =
    let rows = c.args.self.now in
    let pass = c.args.pass.now in
    let other = c.args.other in
    let place = c.reservation_place-place.ensures in
    let told = looked_joined pass.seat.me.0 other.seat.me.0 c.join_seat.new.seat.me c.load.new.seat.me pass.seat.me.1 c.load.result c.join_seat.ensures.2 (c.load.ensures.2 0 (omega arith)).0 (c.load.ensures.2 0 (omega arith)).1 in
    record { inside = λ r here. (let low = joined_inside pass.tied other.tied told.1 r here in omega (arith, pass.tied.counted)) }

pub merge-requires : goal.merge-requires
merge-requires g c =
    let rows = c.args.self.now in
    let pass = c.args.pass.now in
    let other = c.args.other in
    let place = c.reservation_place-place.ensures in
    let told = looked_joined pass.seat.me.0 other.seat.me.0 c.join_seat.new.seat.me c.load.new.seat.me pass.seat.me.1 c.load.result c.join_seat.ensures.2 (c.load.ensures.2 0 (omega arith)).0 (c.load.ensures.2 0 (omega arith)).1 in
    let few = (joined_room pass.tied other.tied told.1).1 in
    record {
      room = (let roomy = pass.roomy.3 in omega (arith, pairs_long pass.retired.items, pairs_long other.retired.items));
      in_order = (pass.tied.in_order, other.tied.in_order);
    }

pub invariant_of-pass : goal.invariant_of-pass
invariant_of-pass g c =
    let rows = c.args.self.now in
    let pass = c.args.pass.now in
    let other = c.args.other in
    let place = c.reservation_place-place.ensures in
    let told = looked_joined pass.seat.me.0 other.seat.me.0 c.join_seat.new.seat.me c.load.new.seat.me pass.seat.me.1 c.load.result c.join_seat.ensures.2 (c.load.ensures.2 0 (omega arith)).0 (c.load.ensures.2 0 (omega arith)).1 in
    let both = joining_known pass.seat.me.0.view other.seat.me.0.view in
    let now = looking_at 0 c.load.result both in
    let view_is = ap (λ (k : Knows g.row.L-Entry.Denot). k.view) told.0 in
    record {
      tied = tied_as view_is refl c.append.ensures.items refl refl refl
          (tied_same (tied_joined pass.tied other.tied told.1 c.loosen.new.loose.items (pairs_in c.merge.new.retired.items) c.requires.unpinned.0 (c.loosen.ensures.len ∙ pass.tied.counted) c.loosen.ensures.loose
          c.merge.ensures.in_order c.merge.ensures.all)
          now.core.scanned now.core.least now.core.last now.looks now.full);
      recalls = recalls_none;
      bare = told.2 ∙ pass.bare;
      roomy = room_as (ap (λ (k : Knows g.row.L-Entry.Denot). k.view.rows) told.0) c.append.ensures.capacity refl refl c.merge.ensures.capacity refl pass.roomy;
    }

pub returns-clause-pass : goal.returns-clause-pass
returns-clause-pass g c =
    let rows = c.args.self.now in
    let pass = c.args.pass.now in
    let other = c.args.other in
    let place = c.reservation_place-place.ensures in
    let told = looked_joined pass.seat.me.0 other.seat.me.0 c.join_seat.new.seat.me c.load.new.seat.me pass.seat.me.1 c.load.result c.join_seat.ensures.2 (c.load.ensures.2 0 (omega arith)).0 (c.load.ensures.2 0 (omega arith)).1 in
    let sized = c.requires.pass.sized in
    record {
      at_table = c.load.ensures.0 ∙ c.join_seat.ensures.0 ∙ c.requires.pass.at_table;
      sized = record {
        shape_is = ap (λ (k : Knows g.row.L-Entry.Denot). k.view.shape) told.0 ∙ sized.shape_is;
        rows_are = ap (λ (k : Knows g.row.L-Entry.Denot). k.view.rows) told.0 ∙ sized.rows_are;
        passes_are = ap (λ (k : Knows g.row.L-Entry.Denot). k.view.passes) told.0 ∙ sized.passes_are;
      };
    }

pub returns-clause-joined : goal.returns-clause-joined
returns-clause-joined g c =
    let rows = c.args.self.now in
    let pass = c.args.pass.now in
    let other = c.args.other in
    let place = c.reservation_place-place.ensures in
    let told = looked_joined pass.seat.me.0 other.seat.me.0 c.join_seat.new.seat.me c.load.new.seat.me pass.seat.me.1 c.load.result c.join_seat.ensures.2 (c.load.ensures.2 0 (omega arith)).0 (c.load.ensures.2 0 (omega arith)).1 in
    record { word = c.load.result; now = told.0 }

pub returns-clause-consistent : goal.returns-clause-consistent
returns-clause-consistent g c =
    let place = c.reservation_place-place.ensures in
    (c.load.ensures.2 0 (omega arith)).2
