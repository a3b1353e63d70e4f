use Rattle.std.proofs.Common.{[], length}
use Rattle.pls_problem.specs.Walk.{IsWalkOf, left}
use Rattle.pls_search.specs.Seats.{IsFresh, hands_of, StaysInOrder, Keeps}
use Rattle.pls_search.proofs.Keeping.{fine}
use Rattle.pls_search.proofs.Neighbourhoods.{Underway}
use Rattle.pls_search.proofs.worker.Search.submit_neighbours.Given as goal

abbrev pub invariant-loop-value : goal.invariant-loop-value
invariant-loop-value g l = record {
  walk : IsWalkOf l.self.instance.now l.walk;
  underway : Underway l.self.instance.now l.of (hands_of g.A.Shared g.P.Pool l.fn.worker) (hands_of g.A.Shared g.P.Pool l.worker) (left l.self.instance.now l.walk);
  keeps : Keeps g.A.Shared g.A.Law.Rule g.P.Pool l.self [] fine l.fn.worker l.worker;
  fresh : IsFresh l.worker.desk_seat;
  in_order : StaysInOrder g.A.Shared g.P.Pool l.self fine l.fn.worker l.worker;
}

abbrev pub decreases-loop-value : goal.decreases-loop-value
decreases-loop-value g l = length (left l.self.instance.now l.walk)
