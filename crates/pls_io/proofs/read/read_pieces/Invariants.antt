use Rattle.std.proofs.Common.{◌≡◌, ◌-◌, ◌≤◌, vec_len}
use Rattle.pls_io.proofs.Transfers.{HasRead}
use Rattle.pls_io.proofs.read.read_pieces.Given as goal

abbrev pub invariant-loop-all : goal.invariant-loop-all
invariant-loop-all g l =
    record {
      read : HasRead l.all.items (g.S.Source.left l.fn.source) (g.S.Source.left l.source);
      within : vec_len l.all ≤ l.limit;
      steady : g.S.Source.faults l.source ≡ g.S.Source.faults l.fn.source;
    }

abbrev pub decreases-loop-all : goal.decreases-loop-all
decreases-loop-all g l = l.limit - vec_len l.all
