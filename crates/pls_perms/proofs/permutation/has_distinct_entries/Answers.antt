use Rattle.std.proofs.Common.{◌≡◌, ◌==◌, ◌&&◌, [], ◌∷◌, ℕ, Bool, false, not, nat_lt, ap, sym, ◌∙◌, arith, rules, drop, List}
use Rattle.std.specs.List.{list_any}
use Rattle.std.proofs.lemmas.List.{drop_all, get_or-replicate}
use Rattle.pls_vectors.specs.Solution.{entries}
use Rattle.pls_perms.specs.Permutation.{no_repeated, are_distinct_below}
use Rattle.pls_perms.proofs.Permutations.{length-entries}
use Rattle.pls_perms.proofs.Distinct.{are_distinct-step, marked-step, drop-entries}
use Rattle.pls_perms.proofs.permutation.has_distinct_entries.Goals as goal

pub loop-i-init : goal.loop-i-init
unfolding no_repeated are_distinct_below
loop-i-init c =
    let s = c.args.sol.now in
    let long = length-entries s in
    let len = c.len-i.ensures.value in
    let few = c.len-i.ensures.few in
    let none : drop c.len-i.result (entries s) ≡ [] = drop_all c.len-i.result (entries s) (omega arith) in
    record {
      done = sym (ap (λ xs. are_distinct_below c.args.n xs) none);
      marked = λ x below. get_or-replicate {A = Bool} 256 x false false below ∙ sym (ap (λ xs. list_any (λ y. y == x) xs) none);
      long = search rules;
      within = omega arith;
      few = omega arith;
    }

pub loop-i-preserved : goal.loop-i-preserved
loop-i-preserved c =
    let s = c.args.sol.now in
    let w = c.loop-i.invariant in
    let some = c.loop-i-test.true in
    let within = w.within in
    let long = w.long in
    let small = c.entry-x.type_inv in
    let next = drop-entries s c.loop-i.i some (omega arith) in
    let rest : List ℕ = drop c.loop-i.i (entries s) in
    let further = ap (λ y. y ∷ rest) c.entry-x.ensures ∙ sym next in
    record {
      done = are_distinct-step c.args.n c.entry-x.result rest c.loop-i.all _ w.done
          (c.is_fresh-all.ensures ∙ ap (λ b. nat_lt c.entry-x.result c.args.n && not b) (w.marked c.entry-x.result small))
          ∙ ap (λ xs. are_distinct_below c.args.n xs) further;
      marked = λ y below. marked-step c.loop-i.seen c.entry-x.result y rest (omega arith) (w.marked y below)
          ∙ ap (λ xs. list_any (λ z. z == y) xs) further;
      long = search rules;
      within = omega arith;
      few = w.few;
    }
