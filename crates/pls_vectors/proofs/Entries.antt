-- Bytes of words, and entries of permutations: what one of them is after another is written, and that they
-- determine the solution.
use Rattle.std.proofs.Common.{◌≡◌, ◌≢◌, inl, inr, ℕ, zero, suc, ◌+◌, ◌*◌, ◌/◌, ◌%◌, ◌^◌, ◌<◌, ◌≤◌, List, length, slice_index, refl, ap, sym, ◌∙◌, arith, get_or-set_same, get_or-set_other}
use Rattle.std.proofs.Math.Nat.{div-div-eq-div-mul, pow-succ', mul_left_comm, mul-le-mul_right, div-mul-le_self}
use Rattle.std.proofs.lemmas.Bool.{cases_eq}
use Rattle.std.proofs.lemmas.List.{ext_get_or, length-set}
use Rattle.std.proofs.lemmas.Nat.{pow-add}
use Rattle.pls_vectors.specs.Solution.{Solution, byte, with_byte, entry, with_entry}

-- a shift by whole bytes
pub shift-bytes : (k : ℕ) → 2 ^ (8 * k) ≡ 256 ^ k
shift-bytes zero = refl
shift-bytes (suc k) =
    let eight : 8 * suc k ≡ 8 + 8 * k = omega arith in
    ap (λ e. 2 ^ e) eight ∙ (pow-add 2 8 (8 * k) ∙ (ap (λ p. 256 * p) (shift-bytes k) ∙ sym (pow-succ' 256 k)))

-- a byte further on is a byte of the word without its first
byte-suc : (w k : ℕ) → byte w (suc k) ≡ byte (w / 256) k
unfolding byte
byte-suc w k = ap (λ q. q % 256) (ap (λ d. w / d) (pow-succ' 256 k) ∙ sym (div-div-eq-div-mul w 256 (256 ^ k)))

pub byte-below : (w k : ℕ) → byte w k < 256
unfolding byte
byte-below w k = omega arith

byte-first : (w : ℕ) → byte w 0 ≡ w % 256
unfolding byte
byte-first w = omega arith

pub byte-within : (w k : ℕ) → byte w k * 256 ^ k ≤ w
unfolding byte
byte-within w k =
    let less : w / 256 ^ k % 256 ≤ w / 256 ^ k = omega arith in
    let wide = mul-le-mul_right (256 ^ k) less in
    let all = div-mul-le_self w (256 ^ k) in
    omega arith

with_byte-zero : (w x : ℕ) → with_byte w 0 x ≡ w / 256 * 256 + x
unfolding byte with_byte
with_byte-zero w x = omega arith

with_byte-suc : (w k x : ℕ) → with_byte w (suc k) x ≡ with_byte (w / 256) k x * 256 + w % 256
unfolding with_byte
with_byte-suc w k x =
    let scaled = λ (a : ℕ). ap (λ p. a * p) (pow-succ' 256 k) ∙ mul_left_comm a 256 (256 ^ k) in
    let old : byte w (suc k) * 256 ^ suc k ≡ 256 * (byte (w / 256) k * 256 ^ k) =
    scaled (byte w (suc k)) ∙ ap (λ b. 256 * (b * 256 ^ k)) (byte-suc w k) in
    let new : x * 256 ^ suc k ≡ 256 * (x * 256 ^ k) = scaled x in
    let within = byte-within (w / 256) k in
    omega arith

-- a byte after it is written, and another one
pub byte-with_byte_same : (w k x : ℕ) → x < 256 → byte (with_byte w k x) k ≡ x
byte-with_byte_same w zero x small =
    let is = with_byte-zero w x in
    let first = byte-first (with_byte w 0 x) in
    omega arith
byte-with_byte_same w (suc k) x small =
    let rest : with_byte w (suc k) x / 256 ≡ with_byte (w / 256) k x = (let is = with_byte-suc w k x in omega arith) in
    byte-suc (with_byte w (suc k) x) k ∙ (ap (λ v. byte v k) rest ∙ byte-with_byte_same (w / 256) k x small)

pub byte-with_byte_other : (w k m x : ℕ) → x < 256 → m ≢ k → byte (with_byte w k x) m ≡ byte w m
byte-with_byte_other w zero zero x small other = absurd (other refl)
byte-with_byte_other w zero (suc m) x small other =
    let rest : with_byte w 0 x / 256 ≡ w / 256 = (let is = with_byte-zero w x in omega arith) in
    byte-suc (with_byte w 0 x) m ∙ (ap (λ v. byte v m) rest ∙ sym (byte-suc w m))
byte-with_byte_other w (suc k) zero x small other =
    let is = with_byte-suc w k x in
    let rest : with_byte w (suc k) x % 256 ≡ w % 256 = omega arith in
    byte-first (with_byte w (suc k) x) ∙ (rest ∙ sym (byte-first w))
byte-with_byte_other w (suc k) (suc m) x small other =
    let rest : with_byte w (suc k) x / 256 ≡ with_byte (w / 256) k x = (let is = with_byte-suc w k x in omega arith) in
    byte-suc (with_byte w (suc k) x) m
    ∙ (ap (λ v. byte v m) rest ∙ (byte-with_byte_other (w / 256) k m x small (λ e. other (ap suc e)) ∙ sym (byte-suc w m)))

-- a word of n bytes stays one
pub with_byte-fits : (n w k x : ℕ) → k < n → x < 256 → w < 256 ^ n → with_byte w k x < 256 ^ n
with_byte-fits zero w k x within small fits = absurd (omega arith)
with_byte-fits (suc n) w zero x within small fits =
    let power = pow-succ' 256 n in
    let is = with_byte-zero w x in
    omega arith
with_byte-fits (suc n) w (suc k) x within small fits =
    let power = pow-succ' 256 n in
    let rest = with_byte-fits n (w / 256) k x (omega arith) small (omega arith) in
    let is = with_byte-suc w k x in
    omega arith

-- words with the same bytes
bytes_same : (n v w : ℕ) → v < 256 ^ n → w < 256 ^ n → ((k : ℕ) → k < n → byte v k ≡ byte w k) → v ≡ w
bytes_same zero v w fits_v fits_w same = omega arith
bytes_same (suc n) v w fits_v fits_w same =
    let power = pow-succ' 256 n in
    let rest : v / 256 ≡ w / 256 =
    bytes_same n (v / 256) (w / 256) (omega arith) (omega arith)
    (λ k below. sym (byte-suc v k) ∙ (same (suc k) (omega arith) ∙ byte-suc w k)) in
    let first : v % 256 ≡ w % 256 = sym (byte-first v) ∙ (same 0 (omega arith) ∙ byte-first w) in
    omega arith

-- what holds of each solution: 32 words of 64 bits
pub record HasWords (s : Solution) : Type 0 where
  pub many : length s.words ≡ 32
  pub fit : (k : ℕ) → slice_index s.words k < 2 ^ 64

pub entry-below : (s : Solution) (i : ℕ) → entry s i < 256
unfolding entry
entry-below s i = byte-below _ _

pub words-with_entry : (s : Solution) (i x : ℕ) → length s.words ≡ 32 → length (with_entry s i x).words ≡ 32
unfolding with_entry
words-with_entry s i x many = length-set _ _ _ ∙ many

pub HasWords-with_entry : (s : Solution) (i x : ℕ) → HasWords s → i < 256 → x < 256 → HasWords (with_entry s i x)
unfolding with_entry
HasWords-with_entry s i x has within small =
    let many = has.many in
    let at : i / 8 < length s.words = omega arith in
    let new : with_byte (slice_index s.words (i / 8)) (i % 8) x < 2 ^ 64 =
    with_byte-fits 8 (slice_index s.words (i / 8)) (i % 8) x (omega arith) small (has.fit (i / 8)) in
    record {
      many = words-with_entry s i x many;
      fit = λ k.
          elim (cases_eq k (i / 8)) [
            | inl same ↦ rw (same, get_or-set_same) new
            | inr other ↦ rw get_or-set_other (has.fit k)
          ];
    }

-- an entry after it is written, and another one
pub entry-with_entry_same : (s : Solution) (i x : ℕ) → length s.words ≡ 32 → i < 256 → x < 256 → entry (with_entry s i x) i ≡ x
unfolding entry with_entry
entry-with_entry_same s i x many within small =
    let at : i / 8 < length s.words = omega arith in
    rw get_or-set_same (byte-with_byte_same _ (i % 8) x small)

pub entry-with_entry_other :
    (s : Solution) (i j x : ℕ) → length s.words ≡ 32 → i < 256 → x < 256 → j ≢ i → entry (with_entry s i x) j ≡ entry s j
unfolding entry with_entry
entry-with_entry_other s i j x many within small other =
    let at : i / 8 < length s.words = omega arith in
    elim (cases_eq (j / 8) (i / 8)) [
      | inl same ↦
          rw (same, get_or-set_same) (byte-with_byte_other _ (i % 8) (j % 8) x small (λ e. other (omega arith)))
      | inr apart ↦ rw get_or-set_other refl
    ]

-- solutions of one length with the same entries
pub solutions_same :
    (s t : Solution) → HasWords s → HasWords t → s.len ≡ t.len → ((i : ℕ) → i < 256 → entry s i ≡ entry t i) → s ≡ t
unfolding entry
solutions_same s t has_s has_t len same =
    let many_s = has_s.many in
    let many_t = has_t.many in
    let words : s.words ≡ t.words =
    ext_get_or 0 s.words t.words (omega arith)
    (λ j below.
    bytes_same 8 (slice_index s.words j) (slice_index t.words j) (has_s.fit j) (has_t.fit j)
    (λ k small.
    let word : (8 * j + k) / 8 ≡ j = omega arith in
    let place : (8 * j + k) % 8 ≡ k = omega arith in
    rw (word, place) at (same (8 * j + k) (omega arith)))) in
    ap (λ (n : ℕ). record s { len = n }) len ∙ ap (λ (ws : List ℕ). record t { words = ws }) words
