use Rattle.era_rows.proofs.Opening.{begins_consistent}
use Rattle.era_rows.proofs.laws.started_passes_are_consistent.Goals as goal

pub returns : goal.returns
returns g c =
    let rows = c.args.rows.now in
    let pass = c.args.pass.now in
    let started = c.requires.1 in
    begins_consistent g.L.Law.caller g.L.Law.stamp g.L.Law.accepted g.L.Law.lawful g.L.Law.stands g.L.Law.right (record { shape = rows.shape; rows = rows.rows; passes = rows.passes })
    g.L.Law.begins c.requires.0 pass.seat.me.0 started.nothing_seen started.no_entry started.knows
