use Rattle.std.proofs.Common.{◌≡◌, ◌+◌, ◌≤◌, min, length, drop, int_cmp, sym, ◌∙◌, arith, rules, length-drop}
use Rattle.pls_archive.proofs.ValueOrder.{slice_cmp-at, slice_cmp-end, ord_min-nat, then-unequal, then-equal}
use Rattle.pls_archive.proofs.point_list.lex.Goals as goal

pub returns-then-ne : goal.returns-then-ne
returns-then-ne c =
    let a = c.args.a.now in
    let b = c.args.b.now in
    let here = slice_cmp-at a b c.loop-k.k c.part.result c.part-in-loop-k.result c.part.ensures.value c.part-in-loop-k.ensures.value in
    let order : c.cmp-order.result ≡ int_cmp c.part.result c.part-in-loop-k.result = search rules in
    then-unequal _ _ _ _ c.if-ne.ensures order here ∙ c.loop-k.invariant

pub loop-k-preserved : goal.loop-k-preserved
loop-k-preserved c =
    let a = c.args.a.now in
    let b = c.args.b.now in
    let here = slice_cmp-at a b c.loop-k.k c.part.result c.part-in-loop-k.result c.part.ensures.value c.part-in-loop-k.ensures.value in
    let order : c.cmp-order.result ≡ int_cmp c.part.result c.part-in-loop-k.result = search rules in
    then-equal _ _ _ _ c.if-ne.ensures order here ∙ c.loop-k.invariant

pub returns : goal.returns
returns c =
    let a = c.args.a.now in
    let b = c.args.b.now in
    let least = c.min-k-end.ensures ∙ ord_min-nat c.len.result c.len-2.result in
    let m : length (drop c.loop-k.k a) + c.loop-k.k ≡ c.len-3.result = omega (arith, length-drop c.loop-k.k a) in
    let n : length (drop c.loop-k.k b) + c.loop-k.k ≡ c.len-4.result = omega (arith, length-drop c.loop-k.k b) in
    let past : min c.len-3.result c.len-4.result ≤ c.loop-k.k = omega arith in
    c.cmp.ensures ∙ sym (sym c.loop-k.invariant ∙ slice_cmp-end _ _ c.len-3.result c.len-4.result c.loop-k.k m n past)
