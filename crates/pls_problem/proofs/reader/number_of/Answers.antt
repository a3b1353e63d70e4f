use Rattle.std.proofs.Common.{◌≡◌, ◌+◌, ◌∙◌, get_or, true, sym, arith}
use Rattle.std.proofs.lemmas.Int.Digits.{digits_value_more}
use Rattle.std.proofs.lemmas.Str.{digit_value_digit}
use Rattle.std.specs.Char.{is_ascii_digit, digit_value}
use Rattle.pls_problem.proofs.ReadingDigits.{all_ascii_digits-stop, all_ascii_digits-more, digit_range}
use Rattle.pls_problem.proofs.reader.number_of.Goals as goal

pub returns-then-not-is_ascii_digit-clause-none : goal.returns-then-not-is_ascii_digit-clause-none
returns-then-not-is_ascii_digit-clause-none c =
    all_ascii_digits-stop c.args.text.now c.loop-byte.byte-index c.loop-byte-test.true
    (sym c.is_ascii_digit.ensures.value ∙ c.if-not-is_ascii_digit.true)

pub loop-byte-preserved : goal.loop-byte-preserved
loop-byte-preserved c =
    let text = c.args.text.now in
    let i = c.loop-byte.byte-index in
    let digit : is_ascii_digit (get_or text i 0) ≡ true = sym c.is_ascii_digit.ensures.value ∙ c.if-not-is_ascii_digit.false in
    record {
      digits = all_ascii_digits-more text i c.loop-byte-test.true digit ∙ c.loop-byte.invariant.digits;
      value =
          let more = digits_value_more 10 text i c.loop-byte-test.true in
          let value : digit_value (get_or text i 0) + 48 ≡ get_or text i 0 = digit_value_digit _ (digit_range _ digit) in
          omega arith;
    }
