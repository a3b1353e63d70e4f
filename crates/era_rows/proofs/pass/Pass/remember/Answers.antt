use Rattle.std.proofs.Common.{◌≡◌, ℕ, true, Some, List, subst}
use Rattle.std.proofs.lemmas.Option.{same_Some}
use Rattle.era_rows.proofs.Remembering.{recalls_set}
use Rattle.era_rows.proofs.pass.Pass.remember.Goals as goal

pub invariant_of-self : goal.invariant_of-self
invariant_of-self g c =
    let pass = c.args.self.now in
    let k = pass.seat.me.0 in
    record {
      tied = pass.tied;
      recalls = recalls_set k.view.shape k.seen pass.memory c.args.place (Some c.args.words) (λ words is. subst (λ (ws : List ℕ). g.L.Law.says k.view.shape ws k.seen ≡ true) (same_Some c.args.words words is) c.requires.says) pass.recalls;
      bare = pass.bare;
      roomy = pass.roomy;
    }
