use Rattle.std.proofs.Common.{rules, ◌≡◌, ◌+◌, ℕ, ℤ, List, [], ◌∷◌, ◌++◌, length, map, take, ap, sym, subst, ◌∙◌, arith, add-one}
use Rattle.std.proofs.lemmas.List.{map-append, length-map, take-map}
use Rattle.std.proofs.Math.Seq.{take-suc}
use Rattle.pls_vectors.specs.Solution.{Solution}
use Rattle.pls_archive.specs.declared.point.Point.{Point}
use Rattle.pls_search.specs.Neighbours.{point_of, IsPointOf}
use Rattle.pls_search.specs.Steps.{UnlessMemory, SubmitsAll}
use Rattle.pls_search.specs.Seats.{hands_of, StaysInOrder, Keeps}
use Rattle.pls_search.proofs.Keeping.{fine, StaysInOrder-self, StaysInOrder-then, Keeps-self, Keeps-then}
use Rattle.pls_search.proofs.Beginning.{SoFar, SoFar-none, SoFar-more, SubmitsAll-whole, SubmitsAll-cut}
use Rattle.pls_search.proofs.worker.Search.submit_all.Goals as goal

pub loop-sol-init : goal.loop-sol-init
loop-sol-init g c = record {
  so_far = SoFar-none c.args.self.now.instance.now (hands_of g.A.Shared g.P.Pool c.args.worker.now);
  keeps = Keeps-self g.A.Shared g.A.Law.Rule g.P.Pool c.args.self.now c.args.worker.now c.requires.seated;
  in_order = StaysInOrder-self g.A.Shared g.P.Pool c.args.self.now c.args.worker.now;
}

pub loop-sol-preserved : goal.loop-sol-preserved
loop-sol-preserved g c =
    let i = c.args.self.now.instance.now in
    let before = hands_of g.A.Shared g.P.Pool c.args.worker.now in
    let now = hands_of g.A.Shared g.P.Pool c.loop-sol.worker in
    let after = hands_of g.A.Shared g.P.Pool c.submit.new.worker in
    let so_far = c.loop-sol.invariant in
    let sol = c.sol-item.result in
    let sols = c.args.starts.now in
    let k = c.loop-sol.sol-index in
    let p : Point = record { value = c.value.result; sol = sol } in
    let same : p ≡ point_of i sol = ap (λ (v : List ℤ). let q : Point = record { value = v; sol = sol } in q) c.value.ensures.value in
    let is : IsPointOf i p = record { feasible = search rules; value = c.value.ensures.value; parts = c.value.ensures.parts } in
    let here : take k sols ++ sol ∷ [] ≡ take (k + 1) sols =
    ap (λ (s : Solution). take k sols ++ s ∷ []) c.sol-item.is ∙ sym (take-suc sols k sol (omega arith)) ∙ ap (λ (n : ℕ). take n sols) (sym (add-one k)) in
    let points : map (point_of i) (take k sols) ++ p ∷ [] ≡ map (point_of i) (take (k + 1) sols) =
    ap (λ (q : Point). map (point_of i) (take k sols) ++ q ∷ []) same ∙ (sym (map-append (point_of i) (take k sols) (sol ∷ [])) ∙ ap (map (point_of i)) here) in
    record {
      so_far =
          subst (λ (ps : List Point). SoFar i ps before after) points
          (SoFar-more i (map (point_of i) (take k sols)) p before now after so_far.so_far is c.in_ok-submit.ensures.submits);
      keeps = Keeps-then g.A.Shared g.A.Law.Rule g.P.Pool c.args.self.now {causes = []} {end = fine} c.args.worker.now c.loop-sol.worker c.submit.new.worker so_far.keeps c.in_ok-submit.ensures.keeps;
      in_order = StaysInOrder-then g.A.Shared g.P.Pool c.args.self.now {end = fine} c.args.worker.now c.loop-sol.worker c.submit.new.worker so_far.in_order c.in_ok-submit.ensures.in_order;
    }

pub returns-in_err-submit : goal.returns-in_err-submit
returns-in_err-submit g c =
    let i = c.args.self.now.instance.now in
    let before = hands_of g.A.Shared g.P.Pool c.args.worker.now in
    let now = hands_of g.A.Shared g.P.Pool c.loop-sol.worker in
    let after = hands_of g.A.Shared g.P.Pool c.submit.new.worker in
    let sols = c.args.starts.now in
    let all = map (point_of i) sols in
    let k = c.loop-sol.sol-index in
    let long : length all ≡ length sols = length-map sols (point_of i) in
    let so_far = subst (λ (ps : List Point). SoFar i ps before now) (sym (take-map (point_of i) k sols)) c.loop-sol.invariant.so_far in
    let p : Point = record { value = c.value.result; sol = c.sol-item.result } in
    let end = c.submit.result in
    let same : end ≡ c.from_residual.result = search rules in
    let s = c.args.self.now in
    let last = c.submit.new.worker in
    record {
      submits =
          subst (λ e. UnlessMemory e (SubmitsAll i all before after)) same
          (SubmitsAll-cut i all k before now so_far p after end _ (omega (arith, long)) c.in_err-submit.was c.submit.ensures.submits);
      keeps =
          subst (λ e. Keeps g.A.Shared g.A.Law.Rule g.P.Pool s [] e c.args.worker.now last) same
          (Keeps-then g.A.Shared g.A.Law.Rule g.P.Pool s {causes = []} {end = c.submit.result} c.args.worker.now c.loop-sol.worker last c.loop-sol.invariant.keeps c.submit.ensures.keeps);
      in_order =
          subst (λ e. StaysInOrder g.A.Shared g.P.Pool s e c.args.worker.now last) same
          (StaysInOrder-then g.A.Shared g.P.Pool s {end = c.submit.result} c.args.worker.now c.loop-sol.worker last c.loop-sol.invariant.in_order c.submit.ensures.in_order);
    }

pub returns-clause-submits : goal.returns-clause-submits
returns-clause-submits g c =
    let i = c.args.self.now.instance.now in
    let before = hands_of g.A.Shared g.P.Pool c.args.worker.now in
    let now = hands_of g.A.Shared g.P.Pool c.loop-sol.worker in
    let sols = c.args.starts.now in
    let all = map (point_of i) sols in
    let k = c.loop-sol.sol-index in
    let long : length all ≡ length sols = length-map sols (point_of i) in
    let so_far = subst (λ (ps : List Point). SoFar i ps before now) (sym (take-map (point_of i) k sols)) c.loop-sol.invariant.so_far in
    SubmitsAll-whole i all k before now so_far (omega (arith, long))
