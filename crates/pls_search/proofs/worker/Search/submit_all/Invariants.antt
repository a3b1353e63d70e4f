use Rattle.std.proofs.Common.{[], map, take}
use Rattle.pls_search.specs.Neighbours.{point_of}
use Rattle.pls_search.specs.Seats.{hands_of, StaysInOrder, Keeps}
use Rattle.pls_search.proofs.Beginning.{SoFar}
use Rattle.pls_search.proofs.Keeping.{fine}
use Rattle.pls_search.proofs.worker.Search.submit_all.Given as goal

abbrev pub invariant-loop-sol : goal.invariant-loop-sol
invariant-loop-sol g l =
    let i = l.self.instance.now in
    record {
      so_far : SoFar i (map (point_of i) (take l.sol-index l.starts)) (hands_of g.A.Shared g.P.Pool l.fn.worker) (hands_of g.A.Shared g.P.Pool l.worker);
      keeps : Keeps g.A.Shared g.A.Law.Rule g.P.Pool l.self [] fine l.fn.worker l.worker;
      in_order : StaysInOrder g.A.Shared g.P.Pool l.self fine l.fn.worker l.worker;
    }
