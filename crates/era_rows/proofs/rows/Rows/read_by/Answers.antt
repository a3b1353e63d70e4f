use Rattle.std.proofs.Common.{◌≡◌, ap, arith}
use Rattle.era_rows.proofs.Reading.{reads_at}
use Rattle.era_rows.proofs.rows.Rows.read_by.Goals as goal

pub load-requires : goal.load-requires
load-requires g c =
    let rows = c.args.self.now in
    let seat = c.args.seat.now in
    let key = rows.table.shared.key in
    let place = c.cell_place-at.ensures in
    let places = c.requires.places in
    let number = c.requires.number in
    let passes_are : key.passes ≡ rows.passes = ap (λ k. k.passes) rows.sized in
    let rows_are : key.rows ≡ rows.rows = ap (λ k. k.rows) rows.sized in (
      c.requires.seat.at_table,
      (let long = rows.long in omega arith),
      reads_at g.L.Law.caller g.L.Law.stamp g.L.Law.accepted g.L.Law.lawful g.L.Law.stands g.L.Law.right key rows.table.shared.table_id.slots seat.id number.0 seat.me number.1
          c.args.row c.args.place _ (omega arith) places.1,
    )
