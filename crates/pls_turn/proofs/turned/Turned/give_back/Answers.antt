use Rattle.std.proofs.Common.{◌*◌, arith}
use Rattle.pls_turn.proofs.Exchanges.{gives_at}
use Rattle.pls_turn.proofs.turned.Turned.give_back.Goals as goal

pub store-requires : goal.store-requires
store-requires g c =
    let turned = c.args.self.now in
    let seat = c.args.seat.now in
    let counts = turned.counts.0 in
    let may = c.requires.may in
    let stamp = c.requires.stamp in (
      c.requires.table,
      omega arith,
      gives_at g.S.Law.Rule g.S.Single turned.table.shared.key turned.table.shared.table_id.slots seat.id seat.me
          g.W.Said.view may.0 (2 * c.args.stamp) may.2.terms_are may.1 may.2 (omega arith),
    )
