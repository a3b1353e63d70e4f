use Rattle.std.proofs.Common.{◌≡◌, ◌-◌, length}
use Rattle.pls_io.specs.Streams.{Writes}
use Rattle.pls_io.proofs.write.write_all.Given as goal

abbrev pub invariant-loop-done : goal.invariant-loop-done
invariant-loop-done g l =
    record {
      wrote : Writes l.done (g.K.Sink.written l.fn.sink) l.bytes (g.K.Sink.written l.sink);
      steady : g.K.Sink.faults l.sink ≡ g.K.Sink.faults l.fn.sink;
    }

abbrev pub decreases-loop-done : goal.decreases-loop-done
decreases-loop-done g l = length l.bytes - l.done
