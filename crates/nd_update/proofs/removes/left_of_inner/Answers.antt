use Rattle.std.proofs.Common.{◌≡◌, ℕ, zero, suc, ◌+◌, ◌≤◌, [], ◌∷◌, length, drop, refl, sym, ap, subst, ◌∙◌, arith}
use Rattle.era_core.specs.Versions.{Copy}
use Rattle.era_core.proofs.ListFacts.{in_head}
use Rattle.era_rows.specs.Known.{known_words}
use Rattle.era_rows.specs.Passes.{known_of, marked_of, work_of}
use Rattle.nd_update.specs.Left.{alive, IsBoxed}
use Rattle.nd_update.proofs.Building.{does_none, does_both, now_fresh}
use Rattle.nd_update.proofs.Paying.{paid_more}
use Rattle.nd_update.proofs.Reading.{only_none, only_any, then_only}
use Rattle.nd_update.proofs.Removing.{stay_pinned, row_still}
use Rattle.nd_update.proofs.Sweeping.{nothing_stays}
use Rattle.nd_update.proofs.RemovingAll.{single}
use Rattle.nd_update.proofs.Settling.{taken_apart}
use Rattle.nd_update.proofs.InnerDone.{alive_heads, inner_few, inner_many}
use Rattle.nd_update.proofs.removes.left_of_inner.Goals as goal

pub returns-then-count-eq0-clause-does : goal.returns-then-count-eq0-clause-does
returns-then-count-eq0-clause-does c = ([], omega arith, λ some. absurd (omega (arith, some)), does_none c.args.rows.now c.args.pass.now c.requires.building)

pub returns-then-count-eq0-clause-left : goal.returns-then-count-eq0-clause-left
returns-then-count-eq0-clause-left c v b kids named boxed left =
    let r = c.args.rows.now in
    let p = c.args.pass.now in
    let words = drop c.args.from (work_of p) in (
      [],
      does_none r p c.requires.building,
      inner_few r.rows v r.shape words kids named (known_words (known_of p)) (known_of p).core.fresh left c.args.row b [] (nothing_stays (alive words) (sym c.count_left-count.ensures ∙ c.if-count-eq0.true)) (omega arith) c.told.result
          (let e = c.told.ensures in omega (arith, e)),
    )

pub returns-then-count-eq0-clause-only : goal.returns-then-count-eq0-clause-only
returns-then-count-eq0-clause-only c = only_none (c.args.row ∷ []) (known_of c.args.pass.now)

pub first_left-requires-clause-some : goal.first_left-requires-clause-some
first_left-requires-clause-some c = let n = c.count_left-count.ensures in let one = c.if-count-eq1.true in omega (arith, n, one)

pub returns-then-count-eq1-clause-does : goal.returns-then-count-eq1-clause-does
returns-then-count-eq1-clause-does c = ([], omega arith, λ some. absurd (omega (arith, some)), does_none c.args.rows.now c.args.pass.now c.requires.building)

pub returns-then-count-eq1-clause-left : goal.returns-then-count-eq1-clause-left
returns-then-count-eq1-clause-left c v b kids named boxed left =
    let r = c.args.rows.now in
    let p = c.args.pass.now in
    let words = drop c.args.from (work_of p) in
    let one = single (alive words) (sym c.count_left-count.ensures ∙ c.if-count-eq1.true) in (
      [],
      does_none r p c.requires.building,
      inner_few r.rows v r.shape words kids named (known_words (known_of p)) (known_of p).core.fresh left c.args.row b (one.0 ∷ []) one.1 (omega arith) c.told-then-count-eq1.result
          (let e = c.told-then-count-eq1.ensures in let x = c.first_left.ensures one.0 [] one.1 in omega (arith, e, x)),
    )

pub returns-then-count-eq1-clause-only : goal.returns-then-count-eq1-clause-only
returns-then-count-eq1-clause-only c = only_none (c.args.row ∷ []) (known_of c.args.pass.now)

pub take_row-requires-clause-paid : goal.take_row-requires-clause-paid
take_row-requires-clause-paid c =
    let p = c.args.pass.now in paid_more 0 (c.args.rows.now.shape + 2) (known_of p) (marked_of p) (omega arith) c.requires.paid

pub returns-in_err-own-clause-lacks : goal.returns-in_err-own-clause-lacks
returns-in_err-own-clause-lacks c _ = c.in_err-own.ensures.does

pub copy_inner-requires-clause-building : goal.copy_inner-requires-clause-building
copy_inner-requires-clause-building c = c.in_ok-own.ensures.does.building

pub copy_inner-requires-clause-row : goal.copy_inner-requires-clause-row
copy_inner-requires-clause-row c = row_still c.args.rows.now (c.in_ok-own.own ∷ []) [] [] c.args.pass.now c.take_row.new.pass c.in_ok-own.ensures.does c.args.row c.requires.row

pub copy_inner-requires-clause-own : goal.copy_inner-requires-clause-own
copy_inner-requires-clause-own c = now_fresh c.args.rows.now (c.in_ok-own.own ∷ []) [] [] c.args.pass.now c.take_row.new.pass c.in_ok-own.ensures.does c.in_ok-own.own (in_head c.in_ok-own.own [])

pub copy_inner-requires-clause-from : goal.copy_inner-requires-clause-from
copy_inner-requires-clause-from c = subst (λ ws. c.args.from ≤ length ws) (sym c.take_row.ensures.work) c.requires.from

pub copy_inner-requires-clause-few : goal.copy_inner-requires-clause-few
copy_inner-requires-clause-few c = subst (λ ws. length ws ≤ c.args.from + 20) (sym c.take_row.ensures.work) c.requires.few

pub copy_inner-requires-clause-boxed : goal.copy_inner-requires-clause-boxed
copy_inner-requires-clause-boxed c =
    let kids = c.requires.kids in
    let r = c.args.rows.now in
    (kids.1, stay_pinned r (λ (x : Copy). IsBoxed r.shape x c.args.row kids.1) (c.in_ok-own.own ∷ []) [] [] c.args.pass.now c.take_row.new.pass c.in_ok-own.ensures.does kids.4)

pub returns-clause-does : goal.returns-clause-does
returns-clause-does c =
    let own = c.in_ok-own.own in
    (own ∷ [], omega arith, λ _. c.copy_inner.ensures.read, does_both c.args.rows.now (own ∷ []) [] [] [] [] (own ∷ []) c.args.pass.now c.take_row.new.pass c.copy_inner.new.pass c.in_ok-own.ensures.does c.copy_inner.ensures.does)

pub returns-in_err-own-clause-only : goal.returns-in_err-own-clause-only
returns-in_err-own-clause-only c = only_any (c.args.row ∷ []) (known_of c.args.pass.now) (known_of c.take_row.new.pass) c.take_row.ensures.only

pub returns-clause-only : goal.returns-clause-only
returns-clause-only c =
    then_only c.args.rows.now (c.in_ok-own.own ∷ []) [] [] (c.args.row ∷ []) c.args.pass.now c.take_row.new.pass c.copy_inner.new.pass c.in_ok-own.ensures.does c.take_row.ensures.only c.copy_inner.ensures.only

pub returns-clause-left : goal.returns-clause-left
returns-clause-left c v b kids named boxed left =
    let r = c.args.rows.now in
    let p = c.args.pass.now in
    let q = c.take_row.new.pass in
    let s = c.copy_inner.new.pass in
    let own = c.in_ok-own.own in
    let took = c.in_ok-own.ensures.does in
    let words = drop c.args.from (work_of p) in
    let all = does_both r (own ∷ []) [] [] [] [] (own ∷ []) p q s took c.copy_inner.ensures.does in
    let there = stay_pinned r (λ (x : Copy). IsBoxed r.shape x c.args.row b) (own ∷ []) [] [] p q took boxed in
    let rows = ap (λ ws. alive (drop c.args.from ws)) c.take_row.ensures.work ∙ alive_heads r.rows v r.shape words kids named (known_words (known_of p)) (known_of p).core.fresh left in (
      own ∷ [],
      all,
      inner_many r.rows v r.shape words kids named (known_words (known_of p)) (known_of p).core.fresh left c.args.row b own (known_words (known_of s))
          (let n = c.count_left-count.ensures in let zero_not = c.if-count-eq0.false in let one_not = c.if-count-eq1.false in two (length (alive words)) (λ e. zero_not (n ∙ e)) (λ e. one_not (n ∙ e)))
          all.elsewhere (taken_apart r p s (own ∷ []) [] (own ∷ []) all) (c.copy_inner.ensures.inner b named there rows) c.told-2.result (let e = c.told-2.ensures in omega (arith, e)),
    )
  where
    two : (n : ℕ) → (n ≡ 0 → ⊥) → (n ≡ 1 → ⊥) → 2 ≤ n
    two zero h g = absurd (h refl)
    two (suc zero) h g = absurd (g refl)
    two (suc (suc n)) h g = omega arith
