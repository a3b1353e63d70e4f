use Rattle.std.proofs.Common.{None, arith}
use Rattle.era_rows.proofs.Remembering.{at_or, recalled}
use Rattle.era_rows.proofs.pass.Pass.remembered.Goals as goal

pub returns-clause-words : goal.returns-clause-words
returns-clause-words g c =
    let memory = c.args.self.now.memory in
    at_or memory c.args.place None (let places = c.args.self.now.recalls.places in let low = c.requires in omega arith)

pub returns-clause-says : goal.returns-clause-says
returns-clause-says g c =
    let pass = c.args.self.now in
    recalled pass.seat.me.0.view.shape pass.seat.me.0.seen pass.memory c.args.place _ pass.recalls (at_or pass.memory c.args.place None (let places = pass.recalls.places in let low = c.requires in omega arith))
