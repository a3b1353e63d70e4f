use Rattle.std.proofs.Common.{rules, ◌≡◌, ◌+◌, ◌<◌, ⊎_elim, [], ◌∷◌, ◌++◌, ap, subst, ◌∙◌, arith}
use Rattle.era_core.proofs.ListFacts.{at_push}
use Rattle.era_rows.specs.Known.{next_number}
use Rattle.era_rows.specs.Rule.{left_knows}
use Rattle.era_rows.specs.Passes.{IsStarted}
use Rattle.era_rows.proofs.Splitting.{splits}
use Rattle.era_rows.proofs.rows.Rows.split_others.Goals as goal
use mathlib.Core.Option.{some}
use lib.ListN.{get_elem?}

pub split_seat-other-requires : goal.split_seat-other-requires
split_seat-other-requires g c =
    let rows = c.args.self.now in
    let key = rows.table.shared.key in
    let seat = c.loop-number.seat in
    let first = ap (λ m. m.0) c.loop-number.invariant.1 in
    let passes_are : key.passes ≡ rows.passes = ap (λ k. k.passes) rows.sized in
    let next : next_number seat.me.0.view ≡ c.loop-number.number = ap (λ k. next_number k.view) first in (
      c.loop-number.invariant.0,
      (let long = rows.long in omega arith),
      λ s kept at. splits g.L.Law.caller g.L.Law.stamp g.L.Law.accepted g.L.Law.lawful g.L.Law.stands g.L.Law.right key s.words s.views kept seat.id seat.me.0 at
          (ap (λ k. k.view.core.number) first) (let low : c.loop-number.number < rows.passes = search rules in omega arith),
    )

pub loop-number-preserved : goal.loop-number-preserved
loop-number-preserved g c =
    let items : c.push.new.self.items ≡ c.loop-number.others.items ++ c.in_ok-seated.field-0 ∷ [] = search rules in
    let count = c.loop-number.invariant.2 in (
      search rules,
      c.split_seat-other.ensures.2 ∙ ap (λ m. (left_knows m.0, m.1)) c.loop-number.invariant.1,
      search rules,
      λ i p there.
          ⊎_elim
          (λ old. c.loop-number.invariant.3 i p old)
          (λ new.
          subst (λ q. IsStarted c.args.self.now (i + 1) q) new.1
          (subst (λ n. IsStarted c.args.self.now n c.in_ok-seated.field-0) (let at = new.0 in omega arith) c.in_ok-seated.ensures))
          (at_push c.loop-number.others.items c.in_ok-seated.field-0 p i (subst (λ xs. get_elem? xs i ≡ some p) items there)),
    )
