use Rattle.std.proofs.Common.{◌+◌, ◌-◌, [], ◌∷◌, ◌++◌, set, sym, subst, ◌∙◌, length-append, arith}
use Rattle.std.specs.List.{range_with_len}
use Rattle.atomic_table.proofs.Lists.{at_index}
use Rattle.pls_pool.specs.Deals.{IsOpened}
use Rattle.pls_pool.proofs.DealMoves.{from_zero, new_owner, opened}
use Rattle.pls_pool.specs.declared.stealing.Reach.TheVariants.{Own}
use Rattle.pls_pool.proofs.stealing_starts.open.Goals as goal

pub deal-requires-clause-numbers : goal.deal-requires-clause-numbers
deal-requires-clause-numbers g c =
    let seats = c.len-seats.result in
    let number = c.args.number in
    let behind = range_with_len (number + 1) (seats - (number + 1)) in (
      seats,
      behind ++ number ∷ [],
      omega (arith, length-append behind (number ∷ [])),
      from_zero seats number (behind ++ number ∷ []) c.plan.ensures.planned,
    )

pub deal-requires-2-clause-numbers : goal.deal-requires-2-clause-numbers
deal-requires-2-clause-numbers g c =
    let seats = c.len-seats.result in
    let number = c.args.number in
    let behind = range_with_len (number + 1) (seats - (number + 1)) in (
      seats,
      number ∷ [],
      omega arith,
      (c.in_ok-deal.ensures.kept seats (behind ++ number ∷ []) (from_zero seats number (behind ++ number ∷ []) c.plan.ensures.planned)).0,
    )

pub deal-requires-2-clause-order : goal.deal-requires-2-clause-order
deal-requires-2-clause-order g c =
    let seats = c.len-seats.result in
    let number = c.args.number in
    let behind = range_with_len (number + 1) (seats - (number + 1)) in
    let first = (c.in_ok-deal.ensures.kept seats (behind ++ number ∷ []) (from_zero seats number (behind ++ number ∷ []) c.plan.ensures.planned)).1 in
    let count = first.0 in
    let len = c.len-seats.ensures in
    let low = c.requires in
    let was = c.args.all.now.ok.0 in
    let is = c.deal.new.all.ok.0 in ((omega arith), (omega arith))

pub index_mut-requires : goal.index_mut-requires
index_mut-requires g c =
    let seats = c.len-seats.result in
    let number = c.args.number in
    let behind = range_with_len (number + 1) (seats - (number + 1)) in
    let first = c.in_ok-deal.ensures.kept seats (behind ++ number ∷ []) (from_zero seats number (behind ++ number ∷ []) c.plan.ensures.planned) in
    let count = first.1.0 in
    let again = (c.in_ok-deal-2.ensures.kept seats (number ∷ []) first.0).1.0 in
    let low = c.requires in
    let was = c.args.all.now.ok.0 in
    let is = c.deal-2.new.all.ok.0 in omega arith

pub returns : goal.returns
returns g c =
    let number = c.args.number in
    let room = c.args.room in
    let seats = c.len-seats.result in
    let stealer = c.in_ok-stealer.stealer in
    let behind = range_with_len (number + 1) (seats - (number + 1)) in
    let w0 = c.plan.new.worker in
    let w1 = c.deal.new.worker in
    let w2 = c.deal-2.new.worker in
    let last = c.deal-2.new.all in
    let s = c.index_mut.result.now in
    let t = c.gain.new.seat in
    let made = c.in_ok-worker.ensures in
    let planned = c.plan.ensures.same in
    let first = c.in_ok-deal.ensures.kept seats (behind ++ number ∷ []) (from_zero seats number (behind ++ number ∷ []) c.plan.ensures.planned) in
    let same1 = c.deal.ensures.same in
    let second = c.in_ok-deal-2.ensures.kept seats (number ∷ []) first.0 in
    let same2 = c.deal-2.ensures.same in
    let all_are = c.len-seats.ensures in
    let low = c.requires in
    let was_long = c.args.all.now.ok.0 in
    let is_long = last.ok.0 in
    let count = first.1.0 in
    let again = second.1.0 in
    let at = at_index last.items number s (omega arith) c.index_mut.ensures.value in
    let own =
    new_owner seats room number stealer w2 (omega arith) (sym c.in_ok-stealer.ensures.0) (same2.0.1 ∙ same1.0.1 ∙ planned.0.1 ∙ made.1) (let a = made.0.1 in let b = planned.0.3 in let d = same1.0.3 in let e = same2.0.3 in omega arith)
    (same2.1 ∙ same1.1 ∙ planned.1 ∙ made.3) second.0 in
    subst (λ n. IsOpened n room number stealer c.args.all.now.items (set last.items number t)) c.len-seats.ensures
    (opened seats room number stealer w0 w1 c.args.all.now.items c.deal.new.all.items last.items s t (Own w2) first.1 second.1 (omega arith) (c.in_ok-stealer.ensures.0 ∙ same2.0.0 ∙ same1.0.0) (c.in_ok-stealer.ensures.0 ∙ same2.0.0)
    (c.in_ok-stealer.ensures.1 ∙ same2.0.1 ∙ same1.0.1 ∙ planned.0.1 ∙ made.1) at c.in_ok-gain.ensures own)
