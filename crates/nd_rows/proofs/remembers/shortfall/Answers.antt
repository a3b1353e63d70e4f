use Rattle.std.proofs.Common.{◌≡◌, ℕ, ◌+◌, ◌-◌, ◌/◌, ◌%◌, ◌^◌, ◌<◌, ◌≤◌, bit_and, inl, inr, ap, ◌∙◌, arith}
use Rattle.std.proofs.lemmas.Bool.{cases_lt}
use Rattle.std.proofs.lemmas.Bool.Decides.{nat_tests}
use Rattle.std.proofs.lemmas.Nat.{and_shr, and_mask}
use lib.Bits.{and_zero_r}
use Rattle.nd_rows.proofs.remembers.shortfall.Goals as goal

-- the highest bit stands in an and where it stands in both words
highest-set : (a b : ℕ) → 2 ^ 63 ≤ b → b < 2 ^ 64 → bit_and a b / 2 ^ 63 ≡ a / 2 ^ 63 % 2
highest-set a b high fits = and_shr a b 63 ∙ ap (bit_and (a / 2 ^ 63)) (let e : b / 2 ^ 63 ≡ 1 = omega arith in e) ∙ and_mask (a / 2 ^ 63) 1

highest-clear : (a b : ℕ) → b < 2 ^ 63 → bit_and a b / 2 ^ 63 ≡ 0
highest-clear a b low = and_shr a b 63 ∙ ap (bit_and (a / 2 ^ 63)) (let e : b / 2 ^ 63 ≡ 0 = omega arith in e) ∙ and_zero_r (a / 2 ^ 63)

pub returns : goal.returns
returns c low =
    let held = c.args.held in
    let difference = (held + (2 ^ 64 - c.args.wanted)) % 2 ^ 64 in
    elim (cases_lt held (2 ^ 63)) [
      | inl less ↦ grind (arith, nat_tests, highest-set difference (2 ^ 64 - 1 - held) (omega arith) (omega arith))
      | inr more ↦ grind (arith, nat_tests, highest-clear difference (2 ^ 64 - 1 - held) (omega (arith, c.ranges.held.fits)))
    ]
