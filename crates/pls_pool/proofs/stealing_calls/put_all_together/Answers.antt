use Rattle.std.proofs.Common.{rules, ◌≡◌, ℕ, ◌+◌, ◌<◌, ◌≤◌, [], ◌∷◌, length, ap, sym, subst, ◌∙◌, refl, set, arith, length-append}
use Rattle.std.proofs.lemmas.List.{length-set}
use Rattle.std.specs.Prelude.{slice_index_or}
use Rattle.atomic_table.proofs.Lists.{at_index}
use Rattle.pls_pool.specs.StealSeats.{AreJoined}
use mathlib.Core.Option.{some}
use lib.ListN.{get_elem?}
use Rattle.pls_pool.proofs.SeatMoves.{below, step_places, joined_step}
use Rattle.pls_pool.proofs.stealing_calls.put_all_together.Goals as goal

pub loop-init : goal.loop-init
loop-init g c = ((let e = c.requires.count in omega (arith, c.args.theirs.ok.0, c.args.mine.now.ok.0)), refl, (λ j u there. there), (λ j u there low. there), λ j u there high. absurd (let low = below c.args.mine.now.items j u there in let e = c.requires.count in omega (arith, c.args.theirs.ok.0, c.args.mine.now.ok.0)))

pub put_together-requires : goal.put_together-requires
put_together-requires g c =
    let rest = c.pop.new.self.items in
    let r = c.index_mut.result.now in
    let was = c.loop.invariant in
    let place : c.len.result ≡ length rest = search rules in
    let low : length rest < length c.loop.mine.items = (let a = ap length c.in-Some.ensures.items in let b = was.0 in let d = was.1 in omega (arith, length-append rest (c.in-Some.other ∷ []))) in
    let here = at_index c.loop.mine.items (length rest) r low (c.index_mut.ensures.value ∙ ap (λ k. slice_index_or c.loop.mine.items k r) place) in
    let at = step_places c.args.mine.now.items c.args.theirs.items c.loop.mine.items c.loop.theirs.items rest c.in-Some.other r c.in-Some.ensures.items here was.2 was.3 in
    let may = c.requires.join (length rest) r c.in-Some.other at.0 at.1 in
    record { one = may.0; apart = may.1; few = may.2 }

pub loop-preserved : goal.loop-preserved
loop-preserved g c =
    let rest = c.pop.new.self.items in
    let r = c.index_mut.result.now in
    let r' = c.put_together.new.mine in
    let other = c.in-Some.other in
    let was = c.loop.invariant in
    let place : c.len.result ≡ length rest = search rules in
    let count : length c.loop.theirs.items ≡ length rest + 1 = ap length c.in-Some.ensures.items ∙ length-append rest (other ∷ []) in
    let low : length rest < length c.loop.mine.items = (let a = count in let b = was.0 in let d = was.1 in omega arith) in
    let here = at_index c.loop.mine.items (length rest) r low (c.index_mut.ensures.value ∙ ap (λ k. slice_index_or c.loop.mine.items k r) place) in
    let step =
    joined_step c.args.mine.now.items c.args.theirs.items c.loop.mine.items c.loop.theirs.items rest other r r' c.in-Some.ensures.items was.1 here was.2 was.3 was.4 (c.put_together.ensures.reach, c.put_together.ensures.joined) in
    subst
    (λ k. (length rest + (c.loop.counter + 1) ≡ length c.args.mine.now.items)
    × (length (set c.loop.mine.items k r') ≡ length c.args.mine.now.items)
    × ((j : ℕ) (u : _) → get_elem? rest j ≡ some u → get_elem? c.args.theirs.items j ≡ some u)
    × ((j : ℕ) (u : _) → get_elem? (set c.loop.mine.items k r') j ≡ some u → j < length rest → get_elem? c.args.mine.now.items j ≡ some u)
    × ((j : ℕ) (u : _) → get_elem? (set c.loop.mine.items k r') j ≡ some u → length rest ≤ j → (a : _) × (b : _) × (get_elem? c.args.mine.now.items j ≡ some a) × (get_elem? c.args.theirs.items j ≡ some b) × AreJoined a b u))
    (sym place)
    ((let a = was.0 in omega arith), length-set c.loop.mine.items (length rest) r' ∙ was.1, step.0, step.1, step.2)
