-- The digits of a word, read one after another.
use Rattle.std.proofs.Common.{◌≡◌, ℕ, ◌+◌, ◌<◌, Bool, true, false, ◌&&◌, List, [], ◌∷◌, length, get_or, take, zero, suc, leb, refl, ap, arith, add-one}
use Rattle.std.proofs.lemmas.Bool.{and_parts, leb-true}
use Rattle.std.specs.Char.{is_ascii_digit}
use Rattle.std.specs.Int.{IsInRange}
use Rattle.std.specs.Str.{all_ascii_digits}

no_digit_then : (b : Bool) → b && false ≡ false
no_digit_then true = refl
no_digit_then false = refl

pub all_ascii_digits-stop :
    (bs : List ℕ) (i : ℕ) → i < length bs → is_ascii_digit (get_or bs i 0) ≡ false → all_ascii_digits bs ≡ false
all_ascii_digits-stop [] i inside other = absurd (omega arith)
all_ascii_digits-stop (b ∷ bs) zero inside other = rw other refl
all_ascii_digits-stop (b ∷ bs) (suc i) inside other =
    rw (all_ascii_digits-stop bs i (omega arith) other) (no_digit_then (is_ascii_digit b))

all_ascii_digits-suc :
    (bs : List ℕ) (i : ℕ) → i < length bs → is_ascii_digit (get_or bs i 0) ≡ true
    → all_ascii_digits (take (suc i) bs) ≡ all_ascii_digits (take i bs)
all_ascii_digits-suc [] i inside digit = absurd (omega arith)
all_ascii_digits-suc (b ∷ bs) zero inside digit = rw digit refl
all_ascii_digits-suc (b ∷ bs) (suc i) inside digit =
    ap (λ (t : Bool). is_ascii_digit b && t) (all_ascii_digits-suc bs i (omega arith) digit)

-- one more digit
pub all_ascii_digits-more :
    (bs : List ℕ) (i : ℕ) → i < length bs → is_ascii_digit (get_or bs i 0) ≡ true
    → all_ascii_digits (take (i + 1) bs) ≡ all_ascii_digits (take i bs)
all_ascii_digits-more bs i inside digit = rw add-one (all_ascii_digits-suc bs i inside digit)

pub digit_range : (b : ℕ) → is_ascii_digit b ≡ true → IsInRange 48 57 b
digit_range b digit =
    let parts = and_parts (leb 48 b) (leb b 57) digit in (leb-true 48 b parts.0, leb-true b 57 parts.1)
