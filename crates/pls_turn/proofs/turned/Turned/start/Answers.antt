use Rattle.std.proofs.Common.{rules, ◌≡◌, ◌∷◌}
use Rattle.pls_turn.specs.Passes.{IsNewPass}
use Rattle.pls_turn.proofs.Lists.{each_before}
use Rattle.pls_turn.proofs.turned.Turned.start.Goals as goal

pub returns-clause-passes : goal.returns-clause-passes
returns-clause-passes g c =
    let items : c.insert.new.self.items ≡ c.seated-first.result ∷ c.in_ok-all.all.items = search rules in
    each_before (IsNewPass c.in_ok-turned.turned) c.seated-first.result c.in_ok-all.all.items c.insert.new.self.items items c.seated-first.ensures c.in_ok-all.ensures.others
