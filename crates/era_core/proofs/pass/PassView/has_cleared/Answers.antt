use Rattle.std.proofs.Common.{◌&&◌, sym, ◌∙◌, arith}
use Rattle.std.proofs.lemmas.Grind.{common_steps}
use Rattle.era_core.specs.Lists.{is_in}
use Rattle.era_core.specs.Views.{clears}
use Rattle.era_core.specs.Passes.{batch_of_rows}
use Rattle.era_core.proofs.Batches.{any-map}
use Rattle.era_core.proofs.pass.PassView.has_cleared.Goals as goal

pub returns-then-has_cleared : goal.returns-then-has_cleared
returns-then-has_cleared c =
    sym (any-map (λ b. is_in c.args.row b.1 && clears c.args.self.now.least b.0) batch_of_rows c.args.self.now.retired.items ∙ grind (arith, common_steps))

pub returns : goal.returns
returns c =
    sym (any-map (λ b. is_in c.args.row b.1 && clears c.args.self.now.least b.0) batch_of_rows c.args.self.now.retired.items ∙ grind (arith, common_steps))
