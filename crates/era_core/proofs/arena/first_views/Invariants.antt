use Rattle.std.proofs.Common.{◌≡◌, ◌-◌, ◌++◌, map}
use Rattle.era_core.specs.Machine.{start_views}
use Rattle.era_core.specs.Passes.{view_of}
use Rattle.era_core.proofs.arena.first_views.Given as goal

-- the views so far, and those of the passes that are left
abbrev pub invariant-loop-number : goal.invariant-loop-number
invariant-loop-number l = map view_of l.views.items ++ start_views l.number (l.passes - l.number) ≡ start_views 0 l.passes
