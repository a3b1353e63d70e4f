use Rattle.std.proofs.Common.{ap, sym, subst, ◌∙◌, arith}
use Rattle.pls_archive.specs.View.{View, IsConsistent}
use Rattle.pls_turn.specs.Passes.{terms_of}
use Rattle.pls_turn.proofs.Passing.{joins}
use Rattle.pls_turn.proofs.Exchanges.{looks_at}
use Rattle.pls_turn.proofs.turned.Turned.join.Goals as goal

pub join_seat-requires : goal.join_seat-requires
join_seat-requires g c =
    let seat = c.args.pass.now.seat in
    let other = c.args.other.seat in
    let counts = c.args.self.now.counts.0 in (
      c.requires.pass.at_table,
      c.requires.other.at_table,
      c.requires.other.bare,
      omega arith,
      λ s kept at apart there. (
        kept.0,
        kept.1,
        joins g.S.Law.Rule g.S.Single c.args.self.now.table.shared.key s kept.0 kept.1 kept.2 seat.id seat.me.0 at
            c.requires.pass.terms_are c.requires.pass.rests other.id other.me.0 there apart c.requires.other.terms_are c.requires.other.rests,
      ),
    )

pub load-requires : goal.load-requires
load-requires g c =
    let seat = c.join_seat.new.seat in
    let counts = c.args.self.now.counts.0 in (
      c.join_seat.ensures.0 ∙ c.requires.pass.at_table,
      omega arith,
      looks_at g.S.Law.Rule g.S.Single c.args.self.now.table.shared.key c.args.self.now.table.shared.table_id.slots seat.id
          seat.me (ap (λ m. m.0.terms) c.join_seat.ensures.2 ∙ c.requires.pass.terms_are),
    )

pub returns-clause-consistent : goal.returns-clause-consistent
returns-clause-consistent g c =
    subst (λ (v : View). IsConsistent (g.S.Law.Rule.reply (g.S.Single.number (terms_of c.args.self.now).single.value)) (terms_of c.args.self.now).passes v)
    (sym (ap (λ m. m.0.view) c.load.ensures.2.0))
    (c.load.ensures.2.1 (terms_of c.args.self.now) (ap (λ m. m.0.terms) c.join_seat.ensures.2 ∙ c.requires.pass.terms_are))
