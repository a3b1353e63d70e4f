use Rattle.std.proofs.Common.{◌≡◌, ◌&&◌, false, take}
use Rattle.std.specs.List.{list_any}
use Rattle.era_core.specs.Lists.{is_in}
use Rattle.era_core.specs.Views.{clears}
use Rattle.era_core.proofs.pass.PassView.has_cleared.Given as goal

-- none of the batches so far
abbrev pub invariant-loop-batch : goal.invariant-loop-batch
invariant-loop-batch l = list_any (λ b. is_in l.row b.rows.items && clears l.self.least b.version) (take l.batch-index l.self.retired.items) ≡ false
