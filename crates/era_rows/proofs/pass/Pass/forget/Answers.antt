use Rattle.std.proofs.Common.{None}
use Rattle.std.proofs.lemmas.Option.{none-some}
use Rattle.era_rows.proofs.Remembering.{recalls_set}
use Rattle.era_rows.proofs.pass.Pass.forget.Goals as goal

pub invariant_of-self : goal.invariant_of-self
invariant_of-self g c =
    let pass = c.args.self.now in
    let k = pass.seat.me.0 in
    record {
      tied = pass.tied;
      recalls = recalls_set k.view.shape k.seen pass.memory c.args.place None (λ words is. absurd (none-some words is)) pass.recalls;
      bare = pass.bare;
      roomy = pass.roomy;
    }
