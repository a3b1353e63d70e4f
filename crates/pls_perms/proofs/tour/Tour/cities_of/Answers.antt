use Rattle.std.proofs.Common.{◌≡◌, ◌%◌, ap, sym, ◌∙◌, inl, inr, arith}
use Rattle.std.proofs.Math.Nat.{mod_self, mod-eq_of_lt}
use Rattle.std.proofs.lemmas.Bool.{cases_lt}
use Rattle.pls_vectors.specs.Solution.{entry}
use Rattle.pls_perms.proofs.TourWalks.{feasible-len, feasible-parts}
use Rattle.pls_perms.proofs.tour.Tour.cities_of.Goals as goal

pub returns-clause-value : goal.returns-clause-value
returns-clause-value c = λ i below.
    let n = c.args.self.now.cities in
    let s = c.args.sol.now in
    let long = feasible-len c.args.self.now s c.requires in
    let few = c.len-i-end.ensures.few in
    let size = c.len-i-end.ensures.value in
    let tour = feasible-parts c.args.self.now s (omega arith) c.requires in
    elim (cases_lt i n) [
      | inl inner ↦ c.loop-i.invariant.done i (omega arith) ∙ ap (λ x. entry s x) (sym (mod-eq_of_lt inner))
      | inr past ↦
          let last : i ≡ n = omega arith in
          let place : i % n ≡ 0 = ap (λ x. x % n) last ∙ mod_self n in
          c.loop-i.invariant.ahead i (omega arith) ∙ sym (ap (λ x. entry s x) place ∙ tour.first)
    ]
