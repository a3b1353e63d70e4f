use Rattle.std.proofs.Common.{◌≡◌, None, take}
use Rattle.era_core.specs.Machine.{start, play, first_refused}
use Rattle.era_core.proofs.arena.Core.play.Given as goal

-- the machine is as the events so far leave it, and each of them was allowed
abbrev pub invariant-loop-index : goal.invariant-loop-index
invariant-loop-index l = record {
  played : l.core ≡ play (take l.index l.events) (start l.rows l.passes);
  allowed : first_refused (take l.index l.events) (start l.rows l.passes) ≡ None;
}
