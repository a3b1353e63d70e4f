use Rattle.era_rows.proofs.Moves.{unread}
use Rattle.era_rows.proofs.laws.free_rows_are_unused.Goals as goal

pub returns : goal.returns
returns g c key ws vs kept i j k at mine r row free = unread g.L.Law.caller g.L.Law.stamp g.L.Law.accepted g.L.Law.lawful g.L.Law.stands g.L.Law.right key ws vs kept i j k at mine r row free
