use Rattle.std.proofs.Common.{◌≡◌, false, []}
use Rattle.pls_search.specs.InLine.{ExploresInLine}
use Rattle.pls_search.specs.Onwards.{ExploresOn}
use Rattle.pls_search.specs.Seats.{IsFresh, hands_of, Keeps}
use Rattle.pls_search.proofs.Keeping.{fine}
use Rattle.pls_search.proofs.worker.Search.work.Given as goal

abbrev pub invariant-loop : goal.invariant-loop
invariant-loop g l =
    let before = hands_of g.A.Shared g.P.Pool l.fn.worker in
    let now = hands_of g.A.Shared g.P.Pool l.worker in
    record {
      explores : ExploresOn l.self.instance.now false false before now;
      keeps : Keeps g.A.Shared g.A.Law.Rule g.P.Pool l.self [] fine l.fn.worker l.worker;
      fresh : IsFresh l.worker.desk_seat;
      in_line : g.P.Pool.seats l.self.pool.now ≡ 1 → ExploresInLine l.self.instance.now before now false false;
    }
