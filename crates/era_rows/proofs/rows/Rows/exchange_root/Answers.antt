use Rattle.std.proofs.Common.{◌≡◌, ⊎_elim, sym, ap, subst, ◌∙◌, arith}
use Rattle.std.proofs.lemmas.Bool.{cases_eq}
use Rattle.era_core.specs.Words.{root_word}
use Rattle.era_rows.specs.Known.{Known}
use Rattle.era_rows.specs.Rule.{HasSizes}
use Rattle.era_rows.specs.declared.views.Knows.{Knows}
use Rattle.era_rows.proofs.Publishing.{exchanges_at}
use Rattle.era_rows.proofs.rows.Rows.exchange_root.Goals as goal

pub compare_exchange-requires : goal.compare_exchange-requires
compare_exchange-requires g c =
    let rows = c.args.self.now in
    let seat = c.args.seat.now in
    let key = rows.table.shared.key in
    let may = c.requires.may in
    let rows_are : key.rows ≡ rows.rows = ap (λ k. k.rows) rows.sized in (
      c.requires.seat.at_table,
      (let long = rows.long in omega arith),
      exchanges_at g.L.Law.caller g.L.Law.stamp g.L.Law.accepted g.L.Law.lawful g.L.Law.stands g.L.Law.right key g.L.Law.fits rows.table.shared.table_id.slots seat.id seat.me
          g.W.Said.entry c.args.pin.0 c.args.pin.1 c.args.root may.0 (c.requires.said ∙ may.1) may.2 (let row = c.requires.root in omega arith) (let few = rows.few_rows in omega arith) _ _
          c.packed-old.ensures c.packed-new.ensures,
    )

pub returns-clause-seat : goal.returns-clause-seat
returns-clause-seat g c =
    let rows = c.args.self.now in
    let may = c.requires.may in
    let told = c.compare_exchange.ensures.2 c.args.pin.0 c.args.pin.1 c.args.root may.0 (c.requires.said ∙ may.1) may.2.pinned c.packed-new.ensures (let row = c.requires.root in let few = rows.few_rows in omega arith) in
    let sized = c.requires.seat.sized in
    record {
      at_table = c.compare_exchange.ensures.0 ∙ c.requires.seat.at_table;
      sized = ⊎_elim
          (λ hit. subst (λ (x : Knows g.row.L-Entry.Denot). HasSizes (record { shape = rows.shape; rows = rows.rows; passes = rows.passes }) x.view.shape x.view.rows x.view.passes) (sym (told.0 hit).now) sized)
          (λ miss. subst (λ (x : Known). HasSizes (record { shape = rows.shape; rows = rows.rows; passes = rows.passes }) x.shape x.rows x.passes) (sym {A = Known} (told.1 miss).view_is) sized)
          (cases_eq c.compare_exchange.result (root_word c.args.pin.0 c.args.pin.1));
    }

pub returns-clause-slots : goal.returns-clause-slots
returns-clause-slots g c =
    let may = c.requires.may in
    (c.compare_exchange.ensures.2 c.args.pin.0 c.args.pin.1 c.args.root may.0 (c.requires.said ∙ may.1) may.2.pinned c.packed-new.ensures
    (let row = c.requires.root in let few = c.args.self.now.few_rows in omega arith)).2

pub returns-clause-won : goal.returns-clause-won
returns-clause-won g c e is hit =
    (c.compare_exchange.ensures.2 c.args.pin.0 c.args.pin.1 c.args.root e (c.requires.said ∙ is) c.requires.may.2.pinned c.packed-new.ensures
    (let row = c.requires.root in let few = c.args.self.now.few_rows in omega arith)).0 hit

pub returns-clause-lost : goal.returns-clause-lost
returns-clause-lost g c miss =
    let may = c.requires.may in
    (c.compare_exchange.ensures.2 c.args.pin.0 c.args.pin.1 c.args.root may.0 (c.requires.said ∙ may.1) may.2.pinned c.packed-new.ensures
    (let row = c.requires.root in let few = c.args.self.now.few_rows in omega arith)).1 miss
