-- One item of a stored solution, set or cleared.
use Rattle.std.proofs.Common.{◌≡◌, ◌≢◌, ℕ, ◌-◌, ◌/◌, ◌%◌, ◌^◌, ◌<◌, ◌==◌, inl, inr, Bool, true, false, length, slice_index, refl, ap, arith, get_or-set_same, get_or-set_other}
use Rattle.std.specs.Int.{bit_at}
use Rattle.std.proofs.Math.Pow.{pow-lt}
use Rattle.std.proofs.lemmas.Bool.{cases_eq}
use Rattle.std.proofs.lemmas.Nat.Bits.{bit_at_or, bit_at_and, bit_at_not, bit_at-lt, bit_at-pow_same, bit_at-pow_other}
use Rattle.pls_vectors.specs.Solution.{Solution, chosen, with_bit, with_item}
use mir.Syntax.{w64}

-- the word of all bits but bit k
bit_at-others : (k i : ℕ) → k < 64 → i < 64 → bit_at (2 ^ 64 - 1 - 2 ^ k) i ≡ 1 - bit_at (2 ^ k) i
bit_at-others k i h g = bit_at_not w64 (2 ^ k) i (pow-lt h) g

-- bit k of a word after it is set or cleared, and another bit
bit_at-with_bit_same : (word k : ℕ) (on : Bool) → k < 64 → (bit_at (with_bit word k on) k == 1) ≡ on
bit_at-with_bit_same word k true h =
    ap (λ b. b == 1) {y = 1} (omega (arith, bit_at_or word (2 ^ k) k, bit_at-pow_same k, bit_at-lt word k))
bit_at-with_bit_same word k false h =
    ap (λ b. b == 1) {y = 0} (omega (arith, bit_at_and word (2 ^ 64 - 1 - 2 ^ k) k, bit_at-others k k h h, bit_at-pow_same k))

bit_at-with_bit_other : (word k i : ℕ) (on : Bool) → k < 64 → i < 64 → i ≢ k → bit_at (with_bit word k on) i ≡ bit_at word i
bit_at-with_bit_other word k i true h g other =
    omega (arith, bit_at_or word (2 ^ k) i, bit_at-pow_other k i other, bit_at-lt word i)
bit_at-with_bit_other word k i false h g other =
    omega (arith, bit_at_and word (2 ^ 64 - 1 - 2 ^ k) i, bit_at-others k i h g, bit_at-pow_other k i other, bit_at-lt word i)

pub chosen-with_item_same : (s : Solution) (i : ℕ) (on : Bool) → i / 64 < length s.words → chosen (with_item s i on) i ≡ on
chosen-with_item_same s i on within =
    let bit = bit_at-with_bit_same (slice_index s.words (i / 64)) (i % 64) on (omega arith) in
    rw get_or-set_same bit

pub chosen-with_item_other :
    (s : Solution) (i j : ℕ) (on : Bool) → i / 64 < length s.words → j ≢ i → chosen (with_item s i on) j ≡ chosen s j
chosen-with_item_other s i j on within other =
    elim (cases_eq (j / 64) (i / 64)) [
      | inl same ↦
          let word = slice_index s.words (i / 64) in
          let bit = bit_at-with_bit_other word (i % 64) (j % 64) on (omega arith) (omega arith) (λ e. other (omega arith)) in
          rw (same, get_or-set_same) (ap (λ b. b == 1) bit)
      | inr apart ↦ rw get_or-set_other refl
    ]
