use Rattle.std.proofs.Common.{rules, ◌≡◌, ◌∙◌, ◌==◌, ap, sym, get_or, arith, false, true≢false}
use Rattle.pls_settings.proofs.Numerals.{number-Ok, number-Err}
use Rattle.pls_settings.proofs.values.number.Goals as goal

pub returns-in-Ok-clause-value : goal.returns-in-Ok-clause-value
returns-in-Ok-clause-value c =
    let plus : false ≡ (get_or c.args.text.now 0 0 == 43) =
    sym c.if-starts_with.false ∙ c.starts_with.ensures.byte (omega arith) (omega arith) (λ w o h. h) in
    number-Ok c.args.least c.args.most c.in-Ok.n c.args.text.now c.parse.result
    (λ is. true≢false (sym (plus ∙ ap (λ b. b == 43) is))) c.if-text-gt-MOST_DIGITS.false c.parse.ensures.value.0 c.in-Ok.is c.if-least-n.true c.if-n-most.true

pub returns-in_default-3-clause-value : goal.returns-in_default-3-clause-value
returns-in_default-3-clause-value c =
    let plus : false ≡ (get_or c.args.text.now 0 0 == 43) =
    sym c.if-starts_with.false ∙ c.starts_with.ensures.byte (omega arith) (omega arith) (λ w o h. h) in
    number-Err c.args.least c.args.most c.args.text.now c.parse.result _
    (λ is. true≢false (sym (plus ∙ ap (λ b. b == 43) is))) (search rules) c.parse.ensures.value.0 c.in_default.is
