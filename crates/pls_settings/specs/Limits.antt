-- The ranges of settings.
use Rattle.std.specs.Prelude.{◌≡◌, ◌≤◌}
use Rattle.pls_problem.specs.Made.{IsWithinLimits}
use Rattle.pls_settings.specs.declared.choices.Mode.TheVariants.{Search}
use Rattle.pls_settings.specs.declared.choices.Settings.{Settings}

pub record HasLimits (s : Settings) : Type 0 where
  pub few_moves : s.moves ≤ 1000000000
  pub some_workers : 1 ≤ s.workers
  pub few_workers : s.workers ≤ 16
  pub some_starts : 1 ≤ s.starts
  pub few_starts : s.starts ≤ 64
  pub some_rows : 64 ≤ s.rows
  pub few_rows : s.rows ≤ 262144
  pub make : (s.mode ≡ Search → ⊥) → IsWithinLimits s.make
  pub same_seed : s.make.seed ≡ s.seed
