use Rattle.std.proofs.Common.{◌+◌, ◌*◌, List, ◌∷◌, length, refl, ap, sym, subst, ◌∙◌, arith}
use Rattle.pls_archive.specs.declared.call.Entry.{Entry}
use Rattle.pls_archive.specs.Lists.{IsPrefix}
use Rattle.pls_archive.specs.View.{View}
use Rattle.pls_turn.specs.TurnRule.{IsArchiveAt, IsInTurn}
use Rattle.pls_turn.proofs.Exchanges.{takes_at}
use Rattle.pls_turn.proofs.turned.Turned.try_take.Goals as goal

pub compare_exchange-requires : goal.compare_exchange-requires
compare_exchange-requires g c =
    let turned = c.args.self.now in
    let seat = c.args.seat.now in
    let counts = turned.counts.0 in (
      c.requires.seat.at_table,
      omega arith,
      takes_at g.S.Law.Rule g.S.Single turned.table.shared.key turned.table.shared.table_id.slots seat.id seat.me
          c.args.guess (c.args.guess + 1) c.requires.seat.terms_are c.requires.even refl,
    )

pub returns-clause-taken : goal.returns-clause-taken
returns-clause-taken g c =
    let seat = c.args.seat.now in
    let made = c.compare_exchange.ensures in
    λ same.
    let took = (made.2 c.args.self.now.table.shared.key c.requires.seat.terms_are).1 same in
    let me_is = took.turn_is in
    let seen_is = ap (λ m. m.0.view.observed) me_is in (
      record {
        at_table = made.0 ∙ c.requires.seat.at_table;
        turn =
            subst (λ t. IsInTurn g.S.Law.Rule g.S.Single c.args.self.now.table.shared.key t)
            (sym (ap (λ m. m.0) me_is)) took.turn;
        view_is = ap (λ m. m.0.view) me_is ∙ ap {A = List Entry} {B = View} (λ l. record seat.me.0.view { observed = l }) (sym seen_is);
        further = subst (λ (l : List Entry). IsPrefix seat.me.0.view.observed l) (sym seen_is) took.further;
      },
      (
        took.archive,
        ap (λ m. m.1) me_is ∙ ap (λ rest. (0, took.archive) ∷ rest) c.requires.seat.bare,
        subst (λ (l : List Entry). IsArchiveAt g.S.Law.Rule g.S.Single c.args.self.now.table.shared.key l took.archive)
            (sym seen_is) took.members,
      ),
      sym same ∙ (took.count ∙ ap (λ (l : List Entry). 2 * length l) (sym seen_is)),
    )

pub returns-clause-missed : goal.returns-clause-missed
returns-clause-missed g c =
    let made = c.compare_exchange.ensures in
    λ apart.
    let same = (made.2 c.args.self.now.table.shared.key c.requires.seat.terms_are).0 apart in (
      record {
        at_table = made.0 ∙ c.requires.seat.at_table;
        terms_are = ap (λ m. m.0.terms) same ∙ c.requires.seat.terms_are;
        rests = ap (λ m. m.0.holds) same ∙ c.requires.seat.rests;
        bare = ap (λ m. m.1) same ∙ c.requires.seat.bare;
      },
      ap (λ m. m.0.view) same,
    )
