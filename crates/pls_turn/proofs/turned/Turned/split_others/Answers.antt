use Rattle.std.proofs.Common.{rules, ◌≡◌, ℕ, suc, ◌+◌, ◌-◌, ◌<◌, ⊎_elim, List, [], ◌∷◌, ◌++◌, length, drop, ap, subst, ◌∙◌, arith}
use Rattle.pls_archive.specs.declared.call.Entry.{Entry}
use Rattle.pls_archive.specs.View.{View}
use Rattle.pls_turn.specs.Turns.{view_with}
use Rattle.pls_turn.specs.Passes.{IsNewPass}
use Rattle.pls_turn.proofs.Lists.{at_push}
use Rattle.pls_turn.proofs.Starting.{no_calls_length, no_calls_rest, no_calls_first}
use Rattle.pls_turn.proofs.Passing.{splits}
use Rattle.pls_turn.proofs.turned.Turned.split_others.Goals as goal
use mathlib.Core.Option.{some}
use lib.ListN.{get_elem?}

pub split_seat-other-requires : goal.split_seat-other-requires
split_seat-other-requires g c =
    let turned = c.args.self.now in
    let seat = c.loop-number.seat in
    let is = c.loop-number.invariant.0 in
    let low : c.loop-number.number < c.args.passes = search rules in
    let many = ap (λ v. length v.others) c.loop-number.invariant.1 ∙ no_calls_length c.loop-number.number (c.args.passes - c.loop-number.number) in (
      is.at_table,
      (let counts = turned.counts.0 in omega arith),
      λ s kept at. (
        kept.0,
        kept.1,
        splits g.S.Law.Rule g.S.Single turned.table.shared.key s kept.0 kept.1 kept.2 seat.id seat.me.0 at
            is.terms_are is.rests (omega arith),
      ),
    )

pub seated-other-requires-clause-view : goal.seated-other-requires-clause-view
seated-other-requires-clause-view g c =
    let view = c.loop-number.invariant.1 in
    let made = c.split_seat-other.ensures in
    let low : c.loop-number.number < c.args.passes = search rules in
    let next : c.args.passes - c.loop-number.number ≡ suc (c.args.passes - (c.loop-number.number + 1)) = omega arith in
    ap (λ m. m.0.view) made.4
    ∙ (ap {A = View} {B = View} (λ v. view_with v.observed v.others) view
    ∙ no_calls_first c.loop-number.number (c.args.passes - c.loop-number.number) (c.args.passes - (c.loop-number.number + 1)) next)

pub loop-number-preserved : goal.loop-number-preserved
loop-number-preserved g c =
    let is = c.loop-number.invariant.0 in
    let view = c.loop-number.invariant.1 in
    let count = c.loop-number.invariant.2 in
    let made = c.split_seat-other.ensures in
    let low : c.loop-number.number < c.args.passes = search rules in
    let next : c.args.passes - c.loop-number.number ≡ suc (c.args.passes - (c.loop-number.number + 1)) = omega arith in
    let items : c.push.new.self.items ≡ c.loop-number.others.items ++ c.seated-other.result ∷ [] = search rules in (
      record {
        at_table = made.0 ∙ is.at_table;
        terms_are = ap (λ m. m.0.terms) made.2 ∙ is.terms_are;
        rests = ap (λ m. m.0.holds) made.2 ∙ is.rests;
        bare = ap (λ m. m.1) made.2 ∙ is.bare;
      },
      ap (λ m. m.0.view) made.2
          ∙ (ap {A = View} {B = View} (λ v. record v { others = drop 1 v.others }) view
          ∙ ap {A = List (ℕ × List Entry)} {B = View} (λ lists. record { number = 0; observed = []; own = []; others = lists })
          (no_calls_rest c.loop-number.number (c.args.passes - c.loop-number.number) (c.args.passes - (c.loop-number.number + 1)) next)),
      search rules,
      λ i p there.
          ⊎_elim
          (λ old. c.loop-number.invariant.3 i p old)
          (λ new.
          subst (λ q. IsNewPass c.args.self.now (i + 1) q) new.0
          (subst (λ n. IsNewPass c.args.self.now n c.seated-other.result) (let at = new.1 in omega arith) c.seated-other.ensures))
          (at_push c.loop-number.others.items c.seated-other.result p i (subst (λ xs. get_elem? xs i ≡ some p) items there)),
    )
