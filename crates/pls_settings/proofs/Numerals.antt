-- A number that a text writes, as `parse` reads it.
use Rattle.std.proofs.Common.{◌≡◌, ◌≢◌, ◌≤◌, ◌<◌, ◌^◌, ◌&&◌, ℕ, Bool, length, get_or, true, false, Some, None, Result, Ok, Err, refl, arith, subst, nat_le, if◌then◌else◌}
use Rattle.std.proofs.lemmas.Bool.{and_parts, leb-true}
use Rattle.std.proofs.lemmas.Bool.Decides.{nat_tests}
use Rattle.std.proofs.lemmas.Str.Parse.{IsNumeralModel, numerals_by_value, tells_all_ascii_digits, parse_plain}
use Rattle.std.specs.Result.{OkIff}
use Rattle.std.specs.Str.{all_ascii_digits}
use Rattle.std.specs.Str.Parse.{ParsesUnsigned, digits_value}
use Rattle.pls_settings.specs.Line.{Text, is_numeral, number}

digits : IsNumeralModel (λ ds. all_ascii_digits ds ≡ true) (digits_value 10)
digits = numerals_by_value _ tells_all_ascii_digits

-- what `parse` reads: digits alone, at least one, of a number below 2^64
abbrev IsRead : Text → Type 0
IsRead text = (all_ascii_digits text ≡ true) × (0 < length text) × (digits_value 10 text < 2 ^ 64)

number-some :
    (least most : ℕ) (text : Text) → length text ≤ 20 → IsRead text → least ≤ digits_value 10 text
    → digits_value 10 text ≤ most → Some (digits_value 10 text) ≡ number least most text
number-some least most text short is above below = rw is.0 (grind (arith, nat_tests))

number-none : (least most : ℕ) (text : Text) → most < 2 ^ 64 → (IsRead text → ⊥) → None ≡ number least most text
number-none least most text fits not_read = go (is_numeral text && nat_le least (digits_value 10 text) && nat_le (digits_value 10 text) most) refl
  where
    go : (b : Bool) → is_numeral text && nat_le least (digits_value 10 text) && nat_le (digits_value 10 text) most ≡ b
        → None ≡ (if b then Some (digits_value 10 text) else None)
    go false e = refl
    go true e =
        let first = and_parts (is_numeral text && nat_le least (digits_value 10 text)) _ e in
        let numeral = and_parts (nat_le 1 (length text) && nat_le (length text) 20) _ (and_parts (is_numeral text) _ first.0).0 in
        absurd (not_read (numeral.1, leb-true _ _ (and_parts (nat_le 1 (length text)) _ numeral.0).0, omega (arith, leb-true _ most first.1)))

pub number-Ok :
    {E : Type 0} (least most n : ℕ) (text : Text) (r : Result ℕ E) → get_or text 0 0 ≢ 43 → length text ≤ 20
    → ParsesUnsigned 64 10 text r → r ≡ Ok n → least ≤ n → n ≤ most → Some n ≡ number least most text
number-Ok {E} least most n text r plain short parses is above below =
    let ok : OkIff {E = E} (Ok n) (IsRead text) (digits_value 10 text) =
    subst (λ (x : Result ℕ E). OkIff x (IsRead text) (digits_value 10 text)) is (parse_plain digits 64 text r parses plain) in
    rw ok.1 (number-some least most text short ok.0 (omega (arith, ok.1)) (omega (arith, ok.1)))

pub number-Err :
    {E : Type 0} (least most : ℕ) (text : Text) (r : Result ℕ E) (e : E) → get_or text 0 0 ≢ 43 → most < 2 ^ 64
    → ParsesUnsigned 64 10 text r → r ≡ Err e → None ≡ number least most text
number-Err {E} least most text r e plain fits parses is =
    number-none least most text fits
    (subst (λ (x : Result ℕ E). OkIff x (IsRead text) (digits_value 10 text)) is (parse_plain digits 64 text r parses plain))
