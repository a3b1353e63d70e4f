use Rattle.std.proofs.Common.{◌≡◌, ℕ, ◌+◌, suc, ◌<◌, ◌≤◌, ℤ, Bool, true, false, not, List, ◌++◌, length, take, drop, get_or, refl, ap, sym, subst, ◌∙◌, arith, rules}
use Rattle.pls_vectors.specs.Archive.{dominates}
use Rattle.pls_vectors.specs.Dominance.{weakly_dominates}
use Rattle.pls_vectors.specs.Solution.{Solution, no_items}
use Rattle.pls_archive.specs.declared.point.Point.{Point}
use Rattle.nd_tree.specs.Seen.{paired}
use Rattle.nd_tree.proofs.Filtered.{IsFilteredTo, filtered-begins, filtered-drops, filtered-keeps, filtered-ends}
use Rattle.nd_tree.proofs.Paired.{length-paired, paired-cut, test-paired, length-cut}
use Rattle.nd_tree.proofs.leaf.drop_dominated.Goals as goal

abbrev spared : List ℤ → Point → Bool
spared v q = not (dominates weakly_dominates v q.value)

pub loop-k-init : goal.loop-k-init
loop-k-init c =
    (filtered-begins (spared c.args.value.now) (paired c.args.values.now.items c.args.sols.now.items), c.requires, refl, refl, omega arith)

pub loop-k-preserved-then-dominates : goal.loop-k-preserved-then-dominates
loop-k-preserved-then-dominates c =
    let v = c.args.value.now in
    let vs = c.loop-k.values.items in
    let ss = c.loop-k.sols.items in
    let k = c.loop-k.k in
    let before = paired c.args.values.now.items c.args.sols.now.items in
    let lens = c.loop-k.invariant.1 in
    let w = c.index.result.now in
    let d : Point = record { value = w; sol = no_items 0 } in
    let below : k < length vs = search rules in
    let below' : k < length ss = omega arith in
    let at : get_or vs k w ≡ w = search rules in
    let long = length-paired vs ss lens in
    let goes : spared v d ≡ false = ap not (sym c.dominates.ensures ∙ c.if-dominates.true) in
    let fails = test-paired (λ u. not (dominates weakly_dominates v u)) vs ss k w d lens below at ∙ goes in
    let next : k + 1 ≡ suc k = omega arith in
    let cut = c.remove.ensures.by_index.2 ∙ ap (λ (n : ℕ). take k vs ++ drop n vs) next in
    let cut' = c.remove-then-dominates.ensures.by_index.2 ∙ ap (λ (n : ℕ). take k ss ++ drop n ss) next in
    let whole = ap (λ (xs : List (List ℤ)). paired xs c.remove-then-dominates.new.self.items) cut
    ∙ (ap (λ (ys : List Solution). paired (take k vs ++ drop (suc k) vs) ys) cut' ∙ paired-cut vs ss k lens below) in
    let shorter = length-cut vs k below in
    let shorter' = length-cut ss k below' in
    let lens' : length (take k vs ++ drop (suc k) vs) ≡ length (take k ss ++ drop (suc k) ss) = omega arith in
    let fewer = c.loop-k.invariant.4 in
    let less = c.remove.ensures.len in (
      subst (λ (ps : List Point). IsFilteredTo (spared v) before ps k) (sym whole)
          (filtered-drops (spared v) before (paired vs ss) k d (omega arith) c.loop-k.invariant.0 fails),
      ap length cut ∙ (lens' ∙ sym (ap length cut')),
      c.remove.ensures.capacity ∙ c.loop-k.invariant.2,
      c.remove-then-dominates.ensures.capacity ∙ c.loop-k.invariant.3,
      omega arith,
    )

pub loop-k-preserved : goal.loop-k-preserved
loop-k-preserved c =
    let v = c.args.value.now in
    let vs = c.loop-k.values.items in
    let ss = c.loop-k.sols.items in
    let k = c.loop-k.k in
    let lens = c.loop-k.invariant.1 in
    let w = c.index.result.now in
    let d : Point = record { value = w; sol = no_items 0 } in
    let below : k < length vs = search rules in
    let at : get_or vs k w ≡ w = search rules in
    let long = length-paired vs ss lens in
    let stays : spared v d ≡ true = ap not (sym c.dominates.ensures ∙ c.if-dominates.false) in
    let passes = test-paired (λ u. not (dominates weakly_dominates v u)) vs ss k w d lens below at ∙ stays in (
      filtered-keeps (spared v) (paired c.args.values.now.items c.args.sols.now.items) (paired vs ss) k d (omega arith) c.loop-k.invariant.0 passes,
      lens,
      c.loop-k.invariant.2,
      c.loop-k.invariant.3,
      c.loop-k.invariant.4,
    )

pub returns-clause-points : goal.returns-clause-points
returns-clause-points c =
    let vs = c.loop-k.values.items in
    let ss = c.loop-k.sols.items in
    let long = length-paired vs ss c.loop-k.invariant.1 in
    let past : length vs ≤ c.loop-k.k = search rules in
    filtered-ends (spared c.args.value.now) (paired c.args.values.now.items c.args.sols.now.items) (paired vs ss) c.loop-k.k (omega arith) c.loop-k.invariant.0
