use Rattle.std.proofs.Common.{◌≡◌}
use Rattle.era_rows.specs.Passes.{known_of}
use Rattle.pls_archive.specs.View.{ObservesMore}
use Rattle.nd_shared.specs.Views.{IsReady, view_of}
use Rattle.nd_shared.proofs.shared_calls.TreeShared.update.Given as goal

abbrev pub invariant-loop : goal.invariant-loop
invariant-loop g l = IsReady l.self.rows l.pass × ObservesMore (view_of l.fn.pass) (view_of l.pass) × ((known_of l.pass).full ≡ (known_of l.fn.pass).full)
