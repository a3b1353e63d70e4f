use Rattle.std.proofs.Common.{rules, ◌≡◌, ◌∷◌}
use Rattle.era_rows.specs.Passes.{IsStarted}
use Rattle.era_rows.proofs.Splitting.{each_started}
use Rattle.era_rows.proofs.rows.Rows.start.Goals as goal

pub returns-clause-passes : goal.returns-clause-passes
returns-clause-passes g c =
    let items : c.insert.new.self.items ≡ c.in_ok-first.first ∷ c.in_ok-seats.seats.items = search rules in
    each_started (IsStarted c.in_ok-all.all) c.in_ok-first.first c.in_ok-seats.seats.items c.insert.new.self.items items c.in_ok-first.ensures c.in_ok-seats.ensures.others
