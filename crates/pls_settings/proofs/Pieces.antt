-- A word put at the end of a command line's buffer.
use Rattle.std.proofs.Common.{◌≡◌, ◌≤◌, ◌<◌, ◌+◌, ◌-◌, ℕ, List, [], ◌∷◌, ◌++◌, length, get_or, take, drop, map, Result, Ok, Err, refl, ap, sym, subst, ◌∙◌, arith, length-append}
use Rattle.std.proofs.lemmas.List.{take-append-le, drop_more, drop-take}
use Rattle.std.proofs.Math.Seq.{drop-append_seam, take-length}
use Rattle.std.specs.Str.{IsUtf8}
use Rattle.std.specs.Result.{MatchResult, IsOk}
use Rattle.std.specs.Borrow.{Bor}
use Rattle.pls_settings.specs.Words.{pieces, AreEnds}

-- all ends lie within the text
pub ends_within : (from : ℕ) (text ends : List ℕ) → AreEnds from text ends → from ≤ length text
ends_within from text [] at_end = omega arith
ends_within from text (end ∷ ends) rise = omega (arith, ends_within end text ends rise.2)

-- the last piece is the word
last_piece : (text word : List ℕ) → drop (length text) (take (length (text ++ word)) (text ++ word)) ≡ word
last_piece text word = ap (drop (length text)) (take-length (text ++ word)) ∙ drop-append_seam text word

pub AreEnds-push :
    (from : ℕ) (text ends word : List ℕ) → IsUtf8 word → AreEnds from text ends
    → AreEnds from (text ++ word) (ends ++ length (text ++ word) ∷ [])
AreEnds-push from text [] word utf8 at_end =
    (omega (arith, length-append text word), rw at_end (subst IsUtf8 (sym (last_piece text word)) utf8), refl)
AreEnds-push from text (end ∷ ends) word utf8 rise =
    let inside : end ≤ length text = ends_within end text ends rise.2 in
    (rise.0, rw (take-append-le) rise.1, AreEnds-push end text ends word utf8 rise.2)

pub pieces-push :
    (from : ℕ) (text ends word : List ℕ) → AreEnds from text ends
    → pieces from (text ++ word) (ends ++ length (text ++ word) ∷ []) ≡ pieces from text ends ++ word ∷ []
pieces-push from text [] word at_end = rw at_end (ap (λ (w : List ℕ). w ∷ []) (last_piece text word))
pieces-push from text (end ∷ ends) word rise =
    let inside : end ≤ length text = ends_within end text ends rise.2 in
    rw (take-append-le) (ap (λ (ps : List (List ℕ)). drop from (take end text) ∷ ps) (pieces-push end text ends word rise.2))

-- The next piece with what follows it, where the list of ends was read: as the body cuts the text.
pub record IsNext (from : ℕ) (text ends : List ℕ) (i end : ℕ) : Type 0 where
  pub rises : from ≤ end
  pub utf8 : IsUtf8 (take (end - from) (drop from text))
  pub left : AreEnds end text (drop (i + 1) ends)
  pub pieces : pieces from text (drop i ends) ≡ take (end - from) (drop from text) ∷ pieces end text (drop (i + 1) ends)

part : (from end : ℕ) (text : List ℕ) → from ≤ end → drop from (take end text) ≡ take (end - from) (drop from text)
part from end text rises =
    let sum : end ≡ from + (end - from) = omega arith in
    ap (λ n. drop from (take n text)) sum ∙ drop-take from (end - from) text

pub next :
    (from : ℕ) (text ends read : List ℕ) (i : ℕ) → read ≡ ends → i < length read → AreEnds from text (drop i ends)
    → IsNext from text ends i (get_or read i 0)
next from text ends read i is inside are =
    let more = drop_more ends i 0 (omega (arith, ap length is)) in
    let here = subst (AreEnds from text) more are in
    rw is (record {
      rises = here.0;
      utf8 = subst IsUtf8 (part from _ text here.0) here.1;
      left = here.2;
      pieces = ap (pieces from text) more ∙ ap (λ (p : List ℕ). p ∷ pieces (get_or ends i 0) text (drop (i + 1) ends)) (part from _ text here.0);
    })

pub length-pieces : (from : ℕ) (text ends : List ℕ) → length (pieces from text ends) ≡ length ends
length-pieces from text [] = refl
length-pieces from text (end ∷ ends) = simp (length-pieces end text ends)

-- the buffer after a word was put at its end
pub AreEnds-pushed :
    (text ends word text' ends' : List ℕ) (n : ℕ) → IsUtf8 word → AreEnds 0 text ends → text' ≡ text ++ word
    → ends' ≡ ends ++ n ∷ [] → n ≡ length text' → AreEnds 0 text' ends'
AreEnds-pushed text ends word text' ends' n utf8 are e f g = rw (f, g, e) (AreEnds-push 0 text ends word utf8 are)

pub pieces-pushed :
    (text ends word text' ends' : List ℕ) (n : ℕ) → AreEnds 0 text ends → text' ≡ text ++ word → ends' ≡ ends ++ n ∷ []
    → n ≡ length text' → pieces 0 text' ends' ≡ pieces 0 text ends ++ word ∷ []
pieces-pushed text ends word text' ends' n are e f g = rw (f, g, e) (pieces-push 0 text ends word are)

-- one more piece is read
pub pieces-more :
    (all here next : List (List ℕ)) (before after : List (Bor (List ℕ))) (read : Bor (List ℕ)) (piece : List ℕ)
    → all ≡ map (λ t. t.now) before ++ here → here ≡ piece ∷ next → read.now ≡ piece → after ≡ before ++ read ∷ []
    → all ≡ map (λ t. t.now) after ++ next
pieces-more all here next before after read piece done is same more =
    done ∙ ap (λ (ps : List (List ℕ)). map (λ t. t.now) before ++ ps) (is ∙ ap (λ (p : List ℕ). p ∷ next) (sym same))
    ∙ sym (ap (λ (ts : List (Bor (List ℕ))). map (λ t. t.now) ts ++ next) more ∙ map-append-cons before)
  where
    map-append-cons : (ts : List (Bor (List ℕ))) → map (λ t. t.now) (ts ++ read ∷ []) ++ next ≡ map (λ t. t.now) ts ++ read.now ∷ next
    map-append-cons [] = refl
    map-append-cons (t ∷ ts) = ap (λ (ps : List (List ℕ)). t.now ∷ ps) (map-append-cons ts)

pub is_ok-unless :
    {T E : Type 0} (r : Result T E) (P : T → Type 0) (Q : E → Type 0) → MatchResult r P Q → ((e : E) → Q e → ⊥) → IsOk r
is_ok-unless (Ok x) P Q h never = refl
is_ok-unless (Err e) P Q h never = absurd (never e h)
