use Rattle.std.proofs.Common.{◌≡◌, ◌≤◌, ◌+◌, ◌-◌, [], ◌∷◌, ◌++◌, length, take, get_or, sym, ap, subst, ◌∙◌, arith}
use Rattle.std.proofs.Math.Seq.{take-length}
use Rattle.std.proofs.lemmas.List.{take_more}
use Rattle.era_core.specs.Lists.{times, without}
use Rattle.era_rows.proofs.Retired.{without_last}
use Rattle.era_rows.proofs.takes.drop_row.Goals as goal

pub returns-then-index-row-clause-items : goal.returns-then-index-row-clause-items
returns-then-index-row-clause-items c =
    let row = c.args.row in
    let xs = c.args.rows.now.items in
    let n = length xs - 1 in
    let within : n + 1 ≡ length xs = (let some_row = c.if-len-gt0.true in omega (arith, c.len-len.ensures, c.args.rows.now.ok.0)) in
    let place : c.len-len.result - 1 ≡ n = omega (arith, c.len-len.ensures, c.args.rows.now.ok.0) in
    let last : get_or xs n row ≡ row =
    ap (get_or xs n) (sym c.if-index-row.true) ∙ ap (λ m. get_or xs m c.index.result.now) (sym place) ∙ sym c.index.ensures ∙ c.if-index-row.true in
    let split : take n xs ++ row ∷ [] ≡ xs = ap (λ x. take n xs ++ x ∷ []) (sym last) ∙ sym (take_more xs n row (omega arith)) ∙ ap (λ m. take m xs) within ∙ take-length xs in
    let once : times row (take n xs ++ row ∷ []) ≤ 1 = subst (λ ys. times row ys ≤ 1) (sym split) c.requires.once in
    c.truncate.ensures.items ∙ ap (λ m. take m xs) place ∙ sym (without_last row (take n xs) once) ∙ ap (without (row ∷ [])) split
