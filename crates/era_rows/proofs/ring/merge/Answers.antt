use Rattle.std.proofs.Common.{◌≡◌, ℕ, ◌+◌, ◌<◌, Some, Option, [], ◌∷◌, ◌++◌, length, sym, ap, ◌∙◌, arith}
use Rattle.std.specs.VecDeque.{deque_capacity, deque_len}
use Rattle.std.specs.Option.{option_to_list}
use Rattle.std.proofs.lemmas.Bool.{eqb-true, eqb-false}
use Rattle.era_rows.proofs.Orders.{merging_as, merging_own, merging_more, merged_order, merged_all}
use Rattle.era_rows.proofs.ring.merge.Goals as goal
use Rattle.era_rows.proofs.ring.merge.Goals.{then-left-gt0, else-left-gt0+then-not-is_empty, then-is_own_first, else-is_own_first}

pub loop-left-preserved : goal.loop-left-preserved
loop-left-preserved c =
    let m = c.loop-left.invariant.0 in
    let word = c.in-Some.word in
    let more = c.loop-left.more in
    let some_left : 0 < c.loop-left.left + length more.items = elim c.if-left-gt0.branch [
      | then-left-gt0 w ↦ (let some_own = w.if-left-gt0.true in omega arith)
      | else-left-gt0+then-not-is_empty w ↦
          let some_more = eqb-false (deque_len more) 0 (sym w.is_empty.ensures ∙ w.if-not-is_empty.true) in
          omega (arith, some_more, more.ok.0)
    ] in (
      elim c.if-is_own_first.branch [
        | then-is_own_first w ↦
            let popped : w.pop_front-first.result ≡ Some word = sym w.first-is ∙ c.in-Some.is in
            merging_as w.left-is (c.push_back_reserved.ensures.items ∙ ap (λ q. q.items ++ word ∷ []) w.retired-is) (ap (λ q. q.items) w.more-is)
            (merging_own m word w.pop_front-first.new.self.items (sym c.is_own_first.ensures ∙ w.if-is_own_first.true) some_left
            (w.pop_front-first.ensures.items ∙ ap (λ (o : Option ℕ). option_to_list o ++ w.pop_front-first.new.self.items) popped))
        | else-is_own_first w ↦
            let popped : w.pop_front-first-else-is_own_first.result ≡ Some word = sym w.first-is ∙ c.in-Some.is in
            merging_as w.left-is (c.push_back_reserved.ensures.items ∙ ap (λ q. q.items ++ word ∷ []) w.retired-is) (ap (λ q. q.items) w.more-is)
            (merging_more m word w.pop_front-first-else-is_own_first.new.self.items (sym c.is_own_first.ensures ∙ w.if-is_own_first.false)
            (w.pop_front-first-else-is_own_first.ensures.items ∙ ap (λ (o : Option ℕ). option_to_list o ++ w.pop_front-first-else-is_own_first.new.self.items) popped))
      ],
      c.push_back_reserved.ensures.capacity
          ∙ elim c.if-is_own_first.branch [
            | then-is_own_first w ↦ ap (λ q. deque_capacity q) w.retired-is ∙ w.pop_front-first.ensures.capacity ∙ c.loop-left.invariant.1
            | else-is_own_first w ↦ ap (λ q. deque_capacity q) w.retired-is ∙ c.loop-left.invariant.1
          ],
    )

pub returns-clause-in_order : goal.returns-clause-in_order
returns-clause-in_order c =
    let more = c.loop-left.more in
    let none_left = c.if-left-gt0.false in
    let none_more = eqb-true (deque_len more) 0 (sym c.is_empty.ensures ∙ c.if-not-is_empty.false) in
    merged_order c.loop-left.invariant.0 (omega arith) (omega (arith, more.ok.0))

pub returns-clause-all : goal.returns-clause-all
returns-clause-all c =
    let more = c.loop-left.more in
    let none_left = c.if-left-gt0.false in
    let none_more = eqb-true (deque_len more) 0 (sym c.is_empty.ensures ∙ c.if-not-is_empty.false) in
    merged_all c.loop-left.invariant.0 (omega arith) (omega (arith, more.ok.0))
