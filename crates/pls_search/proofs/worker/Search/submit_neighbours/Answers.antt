use Rattle.std.proofs.Common.{[], rules, ◌≡◌, false, subst}
use Rattle.pls_archive.specs.declared.point.Point.{Point}
use Rattle.pls_problem.specs.Walk.{current}
use Rattle.pls_search.specs.Neighbours.{IsPointOf}
use Rattle.pls_search.specs.Steps.{UnlessMemory, SubmitsNeighbour, SubmitsNeighbours}
use Rattle.pls_search.specs.Seats.{hands_of, StaysInOrder, Keeps}
use Rattle.pls_search.proofs.Keeping.{fine, StaysInOrder-self, StaysInOrder-then, Keeps-self, Keeps-then}
use Rattle.pls_search.proofs.Neighbourhoods.{Underway-start, Underway-more, SubmitsNeighbours-cut}
use Rattle.pls_search.proofs.worker.Search.submit_neighbours.Goals as goal

pub loop-value-init : goal.loop-value-init
loop-value-init g c = record {
  walk = c.walk-walk.ensures.made;
  underway = Underway-start c.args.self.now.instance.now c.args.of.now (hands_of g.A.Shared g.P.Pool c.args.worker.now) _ c.walk-walk.ensures.left;
  keeps = Keeps-self g.A.Shared g.A.Law.Rule g.P.Pool c.args.self.now c.args.worker.now c.requires.seated;
  fresh = c.requires.fresh;
  in_order = StaysInOrder-self g.A.Shared g.P.Pool c.args.self.now c.args.worker.now;
}

pub loop-value-preserved : goal.loop-value-preserved
loop-value-preserved g c =
    let i = c.args.self.now.instance.now in
    let before = hands_of g.A.Shared g.P.Pool c.args.worker.now in
    let now = hands_of g.A.Shared g.P.Pool c.loop-value.worker in
    let after = hands_of g.A.Shared g.P.Pool c.submit_neighbour.new.worker in
    let so_far = c.loop-value.invariant in
    let v = c.in-Some.value in
    let s = current c.next_value.new.walk in
    let q : Point = record { value = v; sol = s } in
    let is : IsPointOf i q = record { feasible = c.in-Some.ensures.feasible; value = c.in-Some.ensures.value; parts = c.in-Some.ensures.parts } in
    let step : SubmitsNeighbour q now after false false = subst (λ t. SubmitsNeighbour (record { value = v; sol = t }) now after false false) c.solution.ensures c.in_ok-submit_neighbour.ensures.submits in
    record {
      walk = c.in-Some.ensures.made;
      underway = Underway-more i c.args.of.now before now after _ _ v s so_far.underway c.in-Some.ensures.step is step;
      keeps = Keeps-then g.A.Shared g.A.Law.Rule g.P.Pool c.args.self.now {causes = []} {end = fine} c.args.worker.now c.loop-value.worker c.submit_neighbour.new.worker so_far.keeps c.in_ok-submit_neighbour.ensures.keeps;
      fresh = search rules;
      in_order = StaysInOrder-then g.A.Shared g.P.Pool c.args.self.now {end = fine} c.args.worker.now c.loop-value.worker c.submit_neighbour.new.worker so_far.in_order c.in_ok-submit_neighbour.ensures.in_order;
    }

pub returns-in_err-submit_neighbour : goal.returns-in_err-submit_neighbour
returns-in_err-submit_neighbour g c =
    let i = c.args.self.now.instance.now in
    let before = hands_of g.A.Shared g.P.Pool c.args.worker.now in
    let now = hands_of g.A.Shared g.P.Pool c.loop-value.worker in
    let after = hands_of g.A.Shared g.P.Pool c.submit_neighbour.new.worker in
    let so_far = c.loop-value.invariant in
    let v = c.in-Some.value in
    let s = current c.next_value.new.walk in
    let q : Point = record { value = v; sol = s } in
    let end = c.submit_neighbour.result in
    let step : UnlessMemory end (SubmitsNeighbour q now after) = subst (λ t. UnlessMemory end (SubmitsNeighbour (record { value = v; sol = t }) now after)) c.solution.ensures c.submit_neighbour.ensures.submits in
    let same : end ≡ c.from_residual.result = search rules in
    let here = c.args.self.now in
    let last = c.submit_neighbour.new.worker in
    record {
      submits =
          subst (λ e. UnlessMemory e (SubmitsNeighbours i c.args.of.now before after)) same
          (SubmitsNeighbours-cut i c.args.of.now before now after _ _ v s so_far.underway c.in-Some.ensures.step end step _ c.in_err-submit_neighbour.was);
      keeps =
          subst (λ e. Keeps g.A.Shared g.A.Law.Rule g.P.Pool here [] e c.args.worker.now last) same
          (Keeps-then g.A.Shared g.A.Law.Rule g.P.Pool here {causes = []} {end = end} c.args.worker.now c.loop-value.worker last so_far.keeps c.submit_neighbour.ensures.keeps);
      fresh = search rules;
      in_order =
          subst (λ e. StaysInOrder g.A.Shared g.P.Pool here e c.args.worker.now last) same
          (StaysInOrder-then g.A.Shared g.P.Pool here {end = end} c.args.worker.now c.loop-value.worker last so_far.in_order c.submit_neighbour.ensures.in_order);
    }
