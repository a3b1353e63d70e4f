use Rattle.std.proofs.Common.{length}
use Rattle.era_rows.specs.Passes.{known_of}
use Rattle.nd_update.proofs.TakingRows.{GivesBack}
use Rattle.nd_update.proofs.takes.give_all_back.Given as goal

-- rows were given back, and nothing else was done
abbrev pub invariant-loop-pass : goal.invariant-loop-pass
invariant-loop-pass l = GivesBack l.rows l.fn.pass l.pass

abbrev pub decreases-loop-pass : goal.decreases-loop-pass
decreases-loop-pass l = length (known_of l.pass).core.fresh
