use Rattle.std.proofs.Common.{[], take}
use Rattle.era_rows.specs.Passes.{known_of}
use Rattle.nd_rows.specs.declared.layout.TheConstants.{SOL_WORDS, PARTS}
use Rattle.nd_update.specs.Needed.{ReadsOnly}
use Rattle.nd_update.proofs.Writing.{Writes}
use Rattle.nd_update.proofs.words.write_sol.Given as goal

-- the words before this place were written
abbrev pub invariant-loop-k : goal.invariant-loop-k
invariant-loop-k l = Writes l.rows l.row SOL_WORDS PARTS (take l.k l.sol.words) l.fn.pass l.pass × ReadsOnly [] (known_of l.fn.pass) (known_of l.pass)
