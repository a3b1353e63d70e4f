-- The words of a text, byte by byte.
use Rattle.std.proofs.Common.{◌≡◌, ℕ, ◌+◌, ◌-◌, ◌<◌, ◌≤◌, Bool, true, false, List, [], ◌∷◌, ◌++◌, length, drop, get_or, sym, ap, subst, ◌∙◌, refl, arith, eq-eqb, ne_eqb, eqb-true, ⊎_elim, slice_range}
use Rattle.std.specs.Prelude.{if◌then◌else◌, ◌==◌}
use Rattle.std.specs.List.{list_all}
use Rattle.std.proofs.lemmas.Bool.{and_parts, and_left, and_from, or_from, or_parts, or_cases, or_right, not-true, not-false, not_from_false, cond-true, cond-false, both_ways, cases_lt}
use Rattle.std.proofs.lemmas.List.{drop_more, drop_all, drop-drop, take-append-drop}
use Rattle.std.proofs.lemmas.List.Edits.{length-between}
use Rattle.pls_io.specs.Words.{PlacedWord, is_space, is_word_byte, is_in_comment, uncommented, joined, with_byte, words_from, words_at}

-- one byte, where it is known whether it is in a comment
step : (place : ℕ) (inside : Bool) (b : ℕ) (bs : List ℕ) (now : Bool) → is_in_comment inside b ≡ now → words_from place (uncommented inside (b ∷ bs)) ≡ with_byte place (if now then 32 else b) (words_from (place + 1) (uncommented now bs))
step place inside b bs now e =
    ap (λ v. with_byte place (if v then 32 else b) (words_from (place + 1) (uncommented v bs))) e

no_comment : (b : ℕ) → (b == 35) ≡ false → is_in_comment false b ≡ false
no_comment b h = and_left _ _ (or_from _ _ h refl)

in_comment : (b : ℕ) → (b == 10) ≡ false → is_in_comment true b ≡ true
in_comment b h = and_from _ _ (or_right (b == 35) true refl) (not_from_false _ h)

-- what a word's byte is not
not_blank : (b : ℕ) → is_word_byte b ≡ true → (is_space b ≡ false) × ((b == 35) ≡ false)
not_blank b h = or_parts (is_space b) (b == 35) (not-true _ h)

-- a byte in a comment
words-comment : (place b : ℕ) (bs : List ℕ) → (b == 10) ≡ false → words_from place (uncommented true (b ∷ bs)) ≡ words_from (place + 1) (uncommented true bs)
words-comment place b bs h = step place true b bs true (in_comment b h)

-- a `#` begins one
words-hash : (place b : ℕ) (bs : List ℕ) → b ≡ 35 → words_from place (uncommented false (b ∷ bs)) ≡ words_from place (uncommented true (b ∷ bs))
words-hash place b bs e =
    subst (λ (x : ℕ). words_from place (uncommented false (x ∷ bs)) ≡ words_from place (uncommented true (x ∷ bs))) (sym e) refl

-- a space
words-space : (place b : ℕ) (bs : List ℕ) → (b == 35) ≡ false → is_word_byte b ≡ false → words_from place (uncommented false (b ∷ bs)) ≡ words_from (place + 1) (uncommented false bs)
words-space place b bs hash h =
    let sp : is_space b ≡ true = ⊎_elim (λ e. e) (λ e. absurd (both_ways _ hash e)) (or_cases (is_space b) (b == 35) (not-false _ h)) in
    step place false b bs false (no_comment b hash) ∙ cond-true _ _ _ sp

-- a byte of a word
words-word_byte : (place b : ℕ) (bs : List ℕ) → is_word_byte b ≡ true → words_from place (uncommented false (b ∷ bs)) ≡ joined place b (words_from (place + 1) (uncommented false bs))
words-word_byte place b bs h =
    step place false b bs false (no_comment b (not_blank b h).1) ∙ cond-false _ _ _ (not_blank b h).0

-- the first word begins after this place
BeginsAfter : ℕ → List PlacedWord → Type 0
BeginsAfter p [] = Unit {0}
BeginsAfter p (w ∷ ws) = p < w.place

joined-after : (p place b : ℕ) (ws : List PlacedWord) → p < place → BeginsAfter p (joined place b ws)
unfolding BeginsAfter
joined-after p place b [] h = h
joined-after p place b (w ∷ ws) h =
    elim (w.place == place + 1) as (λ v. BeginsAfter p (if v then record { place = place; text = b ∷ w.text } ∷ ws else record { place = place; text = b ∷ [] } ∷ w ∷ ws)) [ true ↦ h | false ↦ h ]

with_byte-after : (p place b : ℕ) (ws : List PlacedWord) → p < place → BeginsAfter p ws → BeginsAfter p (with_byte place b ws)
with_byte-after p place b ws h after =
    elim (is_space b) as (λ v. BeginsAfter p (if v then ws else joined place b ws)) [ true ↦ after | false ↦ joined-after p place b ws h ]

words_from-after : (p place : ℕ) (bs : List ℕ) → p < place → BeginsAfter p (words_from place bs)
unfolding BeginsAfter
words_from-after p place [] h = tt
words_from-after p place (b ∷ bs) h =
    with_byte-after p place b _ h (words_from-after p (place + 1) bs (omega arith))

-- behind a word there is a space or a comment, so that the next word does not begin there
next-after : (place b : ℕ) (bs : List ℕ) → is_word_byte b ≡ false → BeginsAfter place (words_from place (uncommented false (b ∷ bs)))
next-after place b bs h =
    elim (b == 35) as (λ v. (b == 35) ≡ v → BeginsAfter place (words_from place (uncommented false (b ∷ bs)))) [
      | true ↦ λ e. subst (BeginsAfter place) (sym (words-hash place b bs (eqb-true b 35 e) ∙ words-comment place b bs (subst (λ (x : ℕ). (x == 10) ≡ false) (sym (eqb-true b 35 e)) refl))) (words_from-after place (place + 1) (uncommented true bs) (omega arith))
      | false ↦ λ e. subst (BeginsAfter place) (sym (words-space place b bs e h)) (words_from-after place (place + 1) (uncommented false bs) (omega arith))
    ] refl

joined-alone : (place b : ℕ) (ws : List PlacedWord) → BeginsAfter (place + 1) ws → joined place b ws ≡ record { place = place; text = b ∷ [] } ∷ ws
unfolding BeginsAfter
joined-alone place b [] h = refl
joined-alone place b (w ∷ ws) h =
    cond-false _ _ _ (ne_eqb w.place (place + 1) (λ e. omega arith))

joined-more : (place b : ℕ) (text : List ℕ) (ws : List PlacedWord) → joined place b (record { place = place + 1; text = text } ∷ ws) ≡ record { place = place; text = b ∷ text } ∷ ws
joined-more place b text ws = cond-true _ _ _ (eq-eqb (place + 1) (place + 1) refl)

-- a run of word bytes, up to a place at which no word begins, is a word
words-run : (place : ℕ) (run rest : List ℕ) → list_all is_word_byte run ≡ true → 0 < length run → BeginsAfter (place + length run) (words_from (place + length run) (uncommented false rest)) → words_from place (uncommented false (run ++ rest)) ≡ record { place = place; text = run } ∷ words_from (place + length run) (uncommented false rest)
words-run place [] rest all some after = absurd (omega arith)
words-run place (b ∷ []) rest all some after =
    words-word_byte place b rest (and_parts _ _ all).0 ∙ joined-alone place b _ after
words-run place (b ∷ (c ∷ run)) rest all some after =
    let both = and_parts (is_word_byte b) (list_all is_word_byte (c ∷ run)) all in
    let e : place + length (b ∷ (c ∷ run)) ≡ place + 1 + length (c ∷ run) = omega arith in
    let later = words-run (place + 1) (c ∷ run) rest both.1 (omega arith) (subst (λ (n : ℕ). BeginsAfter n (words_from n (uncommented false rest))) e after) in
    words-word_byte place b ((c ∷ run) ++ rest) both.0 ∙ ap (joined place b) later ∙ joined-more place b (c ∷ run) _ ∙ ap (λ (n : ℕ). record { place = place; text = b ∷ (c ∷ run) } ∷ words_from n (uncommented false rest)) (sym e)

-- a run of word bytes and a space behind it
pub words-word :
    (place : ℕ) (run : List ℕ) (b : ℕ) (rest : List ℕ) → list_all is_word_byte run ≡ true → 0 < length run
    → (b == 35) ≡ false → is_word_byte b ≡ false
    → words_from place (uncommented false (run ++ b ∷ rest))
    ≡ record { place = place; text = run } ∷ words_from (place + length run + 1) (uncommented false rest)
words-word place run b rest all some hash blank =
    words-run place run (b ∷ rest) all some (next-after (place + length run) b rest blank)
    ∙ ap (λ ws. record { place = place; text = run } ∷ ws) (words-space (place + length run) b rest hash blank)

-- the same in a text: at a place past all words there is none
words_at-end : (text : List ℕ) (at : ℕ) → length text ≤ at → words_at false text at ≡ []
words_at-end text at h = ap (λ bs. words_from at (uncommented false bs)) (drop_all at text h)

next-after-at : (text : List ℕ) (end : ℕ) → (end < length text → is_word_byte (get_or text end 0) ≡ false) → BeginsAfter end (words_at false text end)
unfolding BeginsAfter
next-after-at text end stops =
    ⊎_elim (λ h. subst (λ bs. BeginsAfter end (words_from end (uncommented false bs))) (sym (drop_more text end 0 h)) (next-after end (get_or text end 0) (drop (end + 1) text) (stops h))) (λ h. subst (λ ws. BeginsAfter end ws) (sym (words_at-end text end h)) tt) (cases_lt end (length text))

-- and where word bytes end, a word does
pub words_at-word : (text : List ℕ) (start end : ℕ) → start < end → end ≤ length text → list_all is_word_byte (slice_range text start end) ≡ true → (end < length text → is_word_byte (get_or text end 0) ≡ false) → words_at false text start ≡ record { place = start; text = slice_range text start end } ∷ words_at false text end
words_at-word text start end some within all stops =
    let run = slice_range text start end in
    let e0 : start + (end - start) ≡ end = omega arith in
    let parts : drop start text ≡ run ++ drop end text = sym (take-append-drop (end - start) (drop start text)) ∙ ap (λ bs. run ++ bs) (drop-drop (end - start) start text ∙ ap (λ n. drop n text) e0) in
    let e : end ≡ start + length run = omega (arith, length-between text start end within) in
    let found = words-run start run (drop end text) all (omega arith) (subst (λ (n : ℕ). BeginsAfter n (words_from n (uncommented false (drop end text)))) e (next-after-at text end stops)) in
    ap (λ bs. words_from start (uncommented false bs)) parts ∙ found ∙ ap (λ (n : ℕ). record { place = start; text = run } ∷ words_from n (uncommented false (drop end text))) (sym e)
