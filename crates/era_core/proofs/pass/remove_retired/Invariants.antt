use Rattle.std.proofs.Common.{◌≡◌, ◌∷◌, [], length}
use Rattle.era_core.specs.Lists.{without}
use Rattle.era_core.specs.Views.{Batch}
use Rattle.era_core.specs.Passes.{batches_of}
use Rattle.era_core.proofs.Batches.{changed}
use Rattle.era_core.proofs.pass.remove_retired.Given as goal

-- the row is removed from the batches so far
abbrev pub invariant-loop-index : goal.invariant-loop-index
invariant-loop-index l = record {
  so_far : batches_of l.batches.items ≡ changed (λ (b : Batch). (b.0, without (l.row ∷ []) b.1)) l.index (batches_of l.fn.batches.items);
  as_many : length l.batches.items ≡ length l.fn.batches.items;
}
