use Rattle.std.proofs.Common.{rules, ◌≡◌, [], ◌∷◌, List, sym, subst}
use Rattle.atomic_table.specs.Table.{opening}
use Rattle.pls_turn.specs.declared.terms.Terms.{Terms}
use Rattle.pls_turn.specs.Turns.{first_turn}
use Rattle.pls_turn.specs.TurnRule.{Holds}
use Rattle.pls_turn.proofs.Starting.{opens}
use Rattle.pls_turn.proofs.turned.Turned.lay.Goals as goal

pub new-requires : goal.new-requires
new-requires g c =
    let key : Terms _ = record { single = c.of.result; passes = c.args.passes } in
    let items : c.push.new.self.items ≡ c.args.single ∷ [] = search rules in
    subst (λ (xs : List _). Holds g.S.Law.Rule g.S.Single key (opening (0 ∷ []) xs (first_turn key))) (sym items)
    (opens g.S.Law.Rule g.S.Single g.S.Law.Rule.laws key c.args.single c.of.ensures c.requires.empty c.requires.passes)
