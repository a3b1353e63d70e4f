-- The parser reads just what the words give.
use Rattle.std.proofs.Common.{◌≡◌, ◌∙◌, ◌==◌, ◌&&◌, ◌||◌, ◌⊎◌, inl, inr, ⊎_elim, ℕ, Bool, true, false, not, List, [], ◌∷◌, ◌++◌, map, Option, Some, None, option_and_then, codes, refl, ap, sym, true≢false, if◌then◌else◌}
use Rattle.std.proofs.lemmas.Bool.{and_right, false_from_ne_true, or_right}
use Rattle.std.proofs.lemmas.Bool.Decides.{Decides-eqb}
use Rattle.std.proofs.lemmas.Slice.Eq.{bytes_eq-Decides}
use Rattle.std.specs.Option.{option_map_or}
use Rattle.std.specs.Str.{bytes_eq}
use Rattle.clap.specs.Faults.{long_fault, positional_fault, settle_fault, step_fault, use_fault, walk_fault, word_fault}
use Rattle.clap.specs.Kinds.{Kinds, or_else}
use Rattle.clap.specs.Lexer.{long_of, long_of_rest, strip_byte}
use Rattle.clap.specs.Walk.{Held, Row, Rule, Step, Text, after_flag, after_step, arg_by_long, idle, is_pending, long_met, next, option, option_word, plain_word, pushed, settled, used, value, walk_from, nothing_held, word_met}
use Rattle.clap.specs.declared.error.kind.ErrorKind.TheVariants.{UnknownArgument}
use Rattle.pls_settings.specs.Line.{Given, and_given, are_once, as_mode, given_by, has_name, is_option, name_in, value_in}
use Rattle.pls_settings.proofs.ParserEndings.{Reader, Reads, mode_name, more, more-and, more-hyphen, more-not_once, read-end}
use Rattle.pls_settings.proofs.Rows.{bytes_eq-sym, has_name-append, names_in, same, are_once-add, are_once-before}
use Rattle.pls_settings.proofs.Rules.{IsKnown, arg_by_index-stray, arg_by_long-is, known-mode, known-option, mode_built, option_built, rules, top}
use Rattle.pls_settings.proofs.Settled.{Holds, IsRefused, at_rest, holds-one, holds-rest, no_value, one_use, pending_at, unless_refused}
use Rattle.pls_settings.proofs.Steps.{IsHyphened, at, read, read-step, word-hyphens, word-long, word-plain}

-- ---- words

-- a word is an option by the parser's measure where it is one by ours
split_word :
    (word : Text) → bytes_eq word (codes "--") ≡ false
    → ((long_of word ≡ Some (name_in word, value_in word)) × (is_option word ≡ true) × IsHyphened word)
    ⊎ ((long_of word ≡ None) × (is_option word ≡ false))
split_word [] other = inr (refl, refl)
split_word (x ∷ []) other = inr (go (x == 45))
  where
    go : (b : Bool) → (option_and_then long_of_rest (option_and_then (strip_byte 45) (if b then Some [] else None)) ≡ None) × (b && false ≡ false)
    go true = (refl, refl)
    go false = (refl, refl)
split_word (x ∷ y ∷ []) other = inr (go (x == 45) (y == 45), other)
  where
    second : (b : Bool) → option_and_then long_of_rest (if b then Some [] else None) ≡ None
    second true = refl
    second false = refl

    go : (a b : Bool) → option_and_then long_of_rest (option_and_then (λ (t : Text). strip_byte 45 t) (if a then Some (y ∷ []) else None)) ≡ None
    go true b = second (y == 45)
    go false b = refl
split_word (x ∷ y ∷ z ∷ rest) other = go (x == 45) (Decides-eqb x 45).0
  where
    Split : Option (Text × Option Text) → Bool → Type 0
    Split long is =
        ((long ≡ Some (name_in (x ∷ y ∷ z ∷ rest), value_in (x ∷ y ∷ z ∷ rest))) × (is ≡ true) × IsHyphened (x ∷ y ∷ z ∷ rest))
        ⊎ ((long ≡ None) × (is ≡ false))

    second : IsHyphened (x ∷ y ∷ z ∷ rest) → (b : Bool) → Split (option_and_then long_of_rest (if b then Some (z ∷ rest) else None)) (b && true)
    second hyphened false = inr (refl, refl)
    second hyphened true = inl (refl, refl, hyphened)

    go : (a : Bool) → (a ≡ true → x ≡ 45)
        → Split (option_and_then long_of_rest (option_and_then (strip_byte 45) (if a then Some (y ∷ z ∷ rest) else None))) (a && ((y == 45) && true))
    go false is = inr (refl, refl)
    go true is = second (y ∷ z ∷ rest, ap (λ (c : ℕ). c ∷ y ∷ z ∷ rest) (is refl)) (y == 45)

-- ---- where the mode stands

-- the next positional of the command, by what was given
abbrev place : List Given → ℕ
place seen = if has_name (names_in seen) mode_name then 2 else 1

or-false : (b : Bool) → b || false ≡ b
or-false true = refl
or-false false = refl

place-mode : (seen : List Given) (word : Text) → place (seen ++ as_mode word ∷ []) ≡ 2
place-mode seen word = rw (has_name-append seen (as_mode word ∷ []) mode_name, or_right (has_name (names_in seen) mode_name) true refl) refl

place-option : (seen : List Given) (g : Given) → bytes_eq g.0 mode_name ≡ false → place (seen ++ g ∷ []) ≡ place seen
place-option seen g other = rw (has_name-append seen (g ∷ []) mode_name, other, or-false (has_name (names_in seen) mode_name)) refl

refused-none : {A : Type 0} (kinds more : Kinds) (x : Option A) → IsRefused kinds → unless_refused (or_else kinds more) x ≡ None
refused-none kinds more x r = rw r.2 refl

-- the first positional settles what is held
settles-first : (names : List Text) (h : Held) → step_fault (top names) 1 h value ≡ settle_fault (rules names) false h
settles-first names h = go (is_pending mode_built h.pending)
  where
    go : (b : Bool) → (if b && false then [] else settle_fault (rules names) false h) ≡ settle_fault (rules names) false h
    go true = refl
    go false = refl

-- there is no second
no_second : (names : List Text) (h : Held) → IsRefused (step_fault (top names) 2 h value)
no_second names h =
    (UnknownArgument, [], ap (λ (a : Option Rule). option_map_or (λ b. positional_fault (rules names) false b h) a (UnknownArgument ∷ [])) (arg_by_index-stray names))

step-refused : (names : List Text) (h : Held) (seen : List Given) → IsRefused (settle_fault (rules names) false h) → IsRefused (step_fault (top names) (place seen) h value)
step-refused names h seen r = go (has_name (names_in seen) mode_name)
  where
    go : (b : Bool) → IsRefused (step_fault (top names) (if b then 2 else 1) h value)
    go true = no_second names h
    go false = (r.0, r.1, settles-first names h ∙ r.2)

after-mode :
    (names : List Text) (h : Held) (seen : List Given) (word : Text) (is_trailing : Bool) → settled (rules names) h ≡ at_rest seen
    → after_step (rules names) word (at h idle 1 is_trailing) h value ≡ at (pending_at seen mode_name (word ∷ [])) idle 2 is_trailing
after-mode names h seen word is_trailing rests = go (is_pending mode_built h.pending) is_trailing
  where
    go : (b t : Bool)
        → at (pushed mode_name word (if b && false then h else settled (rules names) h)) idle 2 (t || false) ≡ at (pending_at seen mode_name (word ∷ [])) idle 2 t
    go true true = ap (λ (k : Held). at (pushed mode_name word k) idle 2 true) rests
    go true false = ap (λ (k : Held). at (pushed mode_name word k) idle 2 false) rests
    go false true = ap (λ (k : Held). at (pushed mode_name word k) idle 2 true) rests
    go false false = ap (λ (k : Held). at (pushed mode_name word k) idle 2 false) rests

-- a word for the mode
mode-step :
    {A : Type 0} (S : Reader A) (names : List Text) (h : Held) (seen : List Given) → Holds names h seen → (word : Text) (words : List Text) (is_trailing : Bool)
    (o : Option (List Given))
    → ((k : Held) → Holds names k (seen ++ as_mode word ∷ []) → read S names (at k idle (place (seen ++ as_mode word ∷ [])) is_trailing) words ≡ more S (seen ++ as_mode word ∷ []) o)
    → unless_refused (step_fault (top names) (place seen) h value) (read S names (after_step (rules names) word (at h idle (place seen) is_trailing) h value) words)
    ≡ more S seen (and_given (as_mode word) o)
mode-step {A} S names h seen holds word words is_trailing o follows = go (has_name (names_in seen) mode_name) refl ∙ more-and S seen (as_mode word) o
  where
    twice : has_name (names_in seen) mode_name ≡ true → are_once (seen ++ as_mode word ∷ []) ≡ false
    twice has = are_once-add seen (as_mode word) ∙ rw has (and_right (are_once seen) false refl)

    go : (b : Bool) → has_name (names_in seen) mode_name ≡ b
        → unless_refused (step_fault (top names) (if b then 2 else 1) h value) (read S names (after_step (rules names) word (at h idle (if b then 2 else 1) is_trailing) h value) words)
        ≡ more S (seen ++ as_mode word ∷ []) o
    go true has = rw (no_second names h).2 (sym (more-not_once S (seen ++ as_mode word ∷ []) o (twice has)))
    go false none = ⊎_elim
        (λ s. (λ i. unless_refused (((settles-first names h) ∙ s.0) i) (read S names (after-mode names h seen word is_trailing s.1 i) words))
        ∙ ap (λ (p : ℕ). read S names (at (pending_at seen mode_name (word ∷ [])) idle p is_trailing) words) (sym (place-mode seen word))
        ∙ follows _ (holds-one names seen (as_mode word) (known-mode names) s.2))
        (λ r. rw (settles-first names h, r.0.2) (sym (more-not_once S (seen ++ as_mode word ∷ []) o (are_once-before seen (as_mode word ∷ []) r.1))))
        holds.settles

-- after `--` each word is for the mode
modes-read :
    {A : Type 0} (S : Reader A) (names : List Text) → Reads S names → (words : List Text) (h : Held) (seen : List Given) → Holds names h seen
    → read S names (at h idle (place seen) true) words ≡ more S seen (Some (map as_mode words))
modes-read S names reads [] h seen holds = read-end S names reads h seen (place seen) true holds
modes-read S names reads (word ∷ words) h seen holds =
    read-step S names h idle (place seen) true word words (h, value) [] refl refl
    ∙ mode-step S names h seen holds word words true (Some (map as_mode words)) (λ k holds'. modes-read S names reads words k (seen ++ as_mode word ∷ []) holds')

-- ---- names

other_name : (names : List Text) (name : Text) → has_name names mode_name ≡ false → has_name names name ≡ true → bytes_eq name mode_name ≡ false
other_name names name unnamed has =
    false_from_ne_true _ (λ is. true≢false (sym has ∙ ap (has_name names) ((bytes_eq-Decides name mode_name).0 is) ∙ unnamed))

known : {A : Type 0} (S : Reader A) (names : List Text) → Reads S names → (name : Text) → has_name names name ≡ true → IsKnown names name
known S names reads name has = known-option names name has (bytes_eq-sym mode_name name ∙ other_name names name reads.unnamed has)

-- ---- an option

-- what is read of words that follow, at rest and where an option waits for its value
record Claim {A : Type 0} (S : Reader A) (names words : List Text) : Type 0 where
  resting : (h : Held) (seen : List Given) → Holds names h seen → read S names (at h idle (place seen) false) words ≡ more S seen (given_by names None words)
  waiting : (seen : List Given) (name : Text) → are_once seen ≡ true → has_name names name ≡ true
      → read S names (at (pending_at seen name []) (option name) (place seen) false) words ≡ more S seen (given_by names (Some name) words)

-- an option whose value is the next word
option-waits :
    {A : Type 0} (S : Reader A) (names words : List Text) → Claim S names words → (h : Held) (seen : List Given) → Holds names h seen
    → (name : Text) → has_name names name ≡ true
    → unless_refused (or_else (settle_fault (rules names) false h) [])
    (read S names (at (record (settled (rules names) h) { pending = Some (name, []) }) (option name) (place seen) false) words)
    ≡ more S seen (given_by names (Some name) words)
option-waits S names words claim h seen holds name has = ⊎_elim
    (λ s. (λ i. unless_refused (or_else (s.0 i) []) (read S names (at (record (s.1 i) { pending = Some (name, []) }) (option name) (place seen) false) words))
    ∙ claim.waiting seen name s.2 has)
    (λ r. refused-none _ _ _ r.0 ∙ sym (more-not_once S seen (given_by names (Some name) words) r.1))
    holds.settles

-- an option with its value in the word
option-given :
    {A : Type 0} (S : Reader A) (names : List Text) → Reads S names → (words : List Text) → Claim S names words
    → (h : Held) (seen : List Given) → Holds names h seen → (name text : Text) → has_name names name ≡ true
    → unless_refused
    (or_else (or_else (settle_fault (rules names) false h) (use_fault false (option_built name) (text ∷ []) (settled (rules names) h).rows)) [])
    (read S names (at (record h { rows = used (option_built name) (text ∷ []) (settled (rules names) h).rows; pending = None }) idle (place seen) false) words)
    ≡ more S seen (and_given (name, text) (given_by names None words))
option-given {A} S names reads words claim h seen holds name text has = ⊎_elim settles refused holds.settles ∙ more-and S seen (name, text) (given_by names None words)
  where
    used_from : Kinds → List Row → ℕ → Option A
    used_from faults rows skip =
        unless_refused (or_else (or_else faults (use_fault false (option_built name) (text ∷ []) rows)) [])
        (read S names (at (record { rows = used (option_built name) (text ∷ []) rows; pending = None; skip = skip }) idle (place seen) false) words)

    settles : (settle_fault (rules names) false h ≡ []) × (settled (rules names) h ≡ at_rest seen) × (are_once seen ≡ true)
        → used_from (settle_fault (rules names) false h) (settled (rules names) h).rows h.skip ≡ more S (seen ++ (name, text) ∷ []) (given_by names None words)
    settles s = (λ i. used_from (s.0 i) (s.1 i).rows (holds.skip i)) ∙ ⊎_elim
        (λ u. (λ i. unless_refused (or_else (u.0 i) []) (read S names (at (record { rows = u.1 i; pending = None; skip = 0 }) idle (place seen) false) words))
        ∙ ap (λ (p : ℕ). read S names (at (at_rest (seen ++ (name, text) ∷ [])) idle p false) words)
        (sym (place-option seen (name, text) (other_name names name reads.unnamed has)))
        ∙ claim.resting _ _ (holds-rest names (seen ++ (name, text) ∷ []) u.2))
        (λ r. rw r.0.2 (sym (more-not_once S (seen ++ (name, text) ∷ []) (given_by names None words) r.1)))
        (one_use (Some name) None false seen (name, text) s.2)

    refused : IsRefused (settle_fault (rules names) false h) × (are_once seen ≡ false)
        → used_from (settle_fault (rules names) false h) (settled (rules names) h).rows h.skip ≡ more S (seen ++ (name, text) ∷ []) (given_by names None words)
    refused r = rw r.0.2 (sym (more-not_once S (seen ++ (name, text) ∷ []) (given_by names None words) (are_once-before seen ((name, text) ∷ []) r.1)))

-- what is read where a word is this option
abbrev at_option : {A : Type 0} → Reader A → List Text → Text → List Text → Held → List Given → Option Text → Option Rule → Option A
at_option S names word words h seen v a =
    let met = after_flag (rules names) idle word (long_met (rules names) a v h).0 (long_met (rules names) a v h).1 in
    unless_refused (or_else (long_fault (rules names) false a v h) (step_fault (top names) (place seen) met.0 met.1))
    (read S names (after_step (rules names) word (at h idle (place seen) false) met.0 met.1) words)

option-step :
    {A : Type 0} (S : Reader A) (names : List Text) → Reads S names → (word : Text) (words : List Text) → Claim S names words
    → (h : Held) (seen : List Given) → Holds names h seen → (name : Text) (v : Option Text)
    → at_option S names word words h seen v (arg_by_long (rules names) name)
    ≡ more S seen
    (if not (has_name names name) then None
    else option_map_or (λ text. and_given (name, text) (given_by names None words)) v (given_by names (Some name) words))
option-step {A} S names reads word words claim h seen holds name v =
    ap (at_option S names word words h seen v) (arg_by_long-is names name) ∙ by_name (has_name names name) refl v
  where
    by_name : (b : Bool) → has_name names name ≡ b → (v : Option Text)
        → at_option S names word words h seen v (if b then Some (option_built name) else None)
        ≡ more S seen
        (if not b then None
        else option_map_or (λ text. and_given (name, text) (given_by names None words)) v (given_by names (Some name) words))
    by_name false has v = refl
    by_name true has None = option-waits S names words claim h seen holds name has
    by_name true has (Some text) = option-given S names reads words claim h seen holds name text has

-- ---- one word more

resting-step :
    {A : Type 0} (S : Reader A) (names : List Text) → Reads S names → (word : Text) (words : List Text) → Claim S names words
    → (h : Held) (seen : List Given) → Holds names h seen
    → read S names (at h idle (place seen) false) (word ∷ words) ≡ more S seen (given_by names None (word ∷ words))
resting-step {A} S names reads word words claim h seen holds = go (bytes_eq word (codes "--")) refl
  where
    mode : (long_of word ≡ None) → bytes_eq word (codes "--") ≡ false
        → read S names (at h idle (place seen) false) (word ∷ words) ≡ more S seen (and_given (as_mode word) (given_by names None words))
    mode none other = ⊎_elim
        (λ r. read-step S names h idle (place seen) false word words _ _ refl refl ∙ refused-none _ _ _ r.0
        ∙ sym (more-hyphen S names reads seen mode_name word (given_by names None words) refl r.1) ∙ more-and S seen (as_mode word) (given_by names None words))
        (λ m. read-step S names h idle (place seen) false word words (h, value) [] m.1 m.0
        ∙ mode-step S names h seen holds word words false (given_by names None words) (λ k holds'. claim.resting k (seen ++ as_mode word ∷ []) holds'))
        (word-plain names idle (place seen) word h holds.skip other none)

    long : long_of word ≡ Some (name_in word, value_in word) → bytes_eq word (codes "--") ≡ false
        → read S names (at h idle (place seen) false) (word ∷ words)
        ≡ more S seen
        (if not (has_name names (name_in word)) then None
        else option_map_or (λ text. and_given (name_in word, text) (given_by names None words)) (value_in word) (given_by names (Some (name_in word)) words))
    long is other =
        let met = word-long names idle (place seen) word (name_in word) (value_in word) h other is in
        read-step S names h idle (place seen) false word words _ _ met.0 met.1
        ∙ option-step S names reads word words claim h seen holds (name_in word) (value_in word)

    go : (b : Bool) → bytes_eq word (codes "--") ≡ b
        → read S names (at h idle (place seen) false) (word ∷ words)
        ≡ more S seen
        (if b then Some (map as_mode words)
        else if not (is_option word) then and_given (as_mode word) (given_by names None words)
        else if not (has_name names (name_in word)) then None
        else option_map_or (λ text. and_given (name_in word, text) (given_by names None words)) (value_in word) (given_by names (Some (name_in word)) words))
    go true is =
        let met = word-hyphens names idle (place seen) word h is in
        read-step S names h idle (place seen) false word words _ _ met.0 met.1 ∙ modes-read S names reads words h seen holds
    go false other = ⊎_elim (λ l. rw l.1 (long l.0 other)) (λ p. rw p.1 (mode p.0 other)) (split_word word other)

-- an option that lost its value to `--`
no_value-read :
    {A : Type 0} (S : Reader A) (names : List Text) (seen : List Given) (name : Text) → IsKnown names name → (words : List Text)
    → read S names (at (pending_at seen name []) (option name) (place seen) true) words ≡ None
unfolding walk_fault
no_value-read S names seen name known [] = rw (no_value names seen name known).2 refl
no_value-read S names seen name known (word ∷ words) =
    read-step S names (pending_at seen name []) (option name) (place seen) true word words (pending_at seen name [], value) [] refl refl
    ∙ rw (step-refused names (pending_at seen name []) seen (no_value names seen name known)).2 refl

-- an option can't be the value of the one before
option-refused :
    (names : List Text) (seen : List Given) (name : Text) → IsKnown names name → (other : Text) (v : Option Text)
    → IsRefused (long_fault (rules names) false (arg_by_long (rules names) other) v (pending_at seen name []))
option-refused names seen name known other v = rw (arg_by_long-is names other) (go (has_name names other) v)
  where
    go : (b : Bool) (v : Option Text) → IsRefused (long_fault (rules names) false (if b then Some (option_built other) else None) v (pending_at seen name []))
    go false v = (UnknownArgument, [], refl)
    go true None = no_value names seen name known
    go true (Some text) =
        let none = no_value names seen name known in
        (none.0, none.1, ap (λ (faults : Kinds). or_else faults (use_fault false (option_built other) (text ∷ []) (settled (rules names) (pending_at seen name [])).rows)) none.2)

-- the word is the value of the option that waits
value-met :
    (names : List Text) (seen : List Given) (name word : Text) → IsKnown names name
    → plain_word (rules names) (option name) word (pending_at seen name []) ≡ (pending_at seen name (word ∷ []), next idle)
value-met names seen name word known =
    ap (λ (a : Option Rule). ((option_word a name word (pending_at seen name [])).0, next (option_word a name word (pending_at seen name [])).1)) known.3
    ∙ rw (same name) refl

waiting-step :
    {A : Type 0} (S : Reader A) (names : List Text) → Reads S names → (word : Text) (words : List Text) → Claim S names words
    → (seen : List Given) (name : Text) → are_once seen ≡ true → has_name names name ≡ true
    → read S names (at (pending_at seen name []) (option name) (place seen) false) (word ∷ words) ≡ more S seen (given_by names (Some name) (word ∷ words))
waiting-step {A} S names reads word words claim seen name once has = go (bytes_eq word (codes "--")) (bytes_eq-Decides word (codes "--")).0 refl
  where
    step : (met : Held × Step) (fault : Kinds)
        → word_met (rules names) [] false (option name) (place seen) word (pending_at seen name []) ≡ met
        → word_fault (top names) [] false (option name) word (pending_at seen name []) ≡ fault
        → read S names (at (pending_at seen name []) (option name) (place seen) false) (word ∷ words)
        ≡ unless_refused (or_else fault (step_fault (top names) (place seen) met.0 met.1))
        (read S names (after_step (rules names) word (at (pending_at seen name []) (option name) (place seen) false) met.0 met.1) words)
    step met fault is faults = read-step S names (pending_at seen name []) (option name) (place seen) false word words met fault is faults

    refused : IsHyphened word → None ≡ more S seen (and_given (name, word) (given_by names None words))
    refused hyphened =
        sym (more-hyphen S names reads seen name word (given_by names None words) (or_right (bytes_eq mode_name name) (has_name names name) has) hyphened)
        ∙ more-and S seen (name, word) (given_by names None words)

    taken : word_fault (top names) [] false (option name) word (pending_at seen name []) ≡ []
        → word_met (rules names) [] false (option name) (place seen) word (pending_at seen name []) ≡ plain_word (rules names) (option name) word (pending_at seen name [])
        → read S names (at (pending_at seen name []) (option name) (place seen) false) (word ∷ words) ≡ more S seen (and_given (name, word) (given_by names None words))
    taken faults met =
        step (pending_at seen name (word ∷ []), next idle) [] (met ∙ value-met names seen name word (known S names reads name has)) faults
        ∙ ap (λ (p : ℕ). read S names (at (pending_at seen name (word ∷ [])) idle p false) words)
        (sym (place-option seen (name, word) (other_name names name reads.unnamed has)))
        ∙ claim.resting _ _ (holds-one names seen (name, word) (known S names reads name has) once)
        ∙ more-and S seen (name, word) (given_by names None words)

    go : (b : Bool) → (b ≡ true → word ≡ codes "--") → bytes_eq word (codes "--") ≡ b
        → read S names (at (pending_at seen name []) (option name) (place seen) false) (word ∷ words) ≡ more S seen (and_given (name, word) (given_by names None words))
    go true equal is =
        let met = word-hyphens names (option name) (place seen) word (pending_at seen name []) is in
        step _ _ met.0 met.1 ∙ no_value-read S names seen name (known S names reads name has) words ∙ refused (45 ∷ [], equal refl)
    go false equal other = ⊎_elim
        (λ l.
        let met = word-long names (option name) (place seen) word (name_in word) (value_in word) (pending_at seen name []) other l.0 in
        step _ _ met.0 met.1
        ∙ refused-none _ _ _ (option-refused names seen name (known S names reads name has) (name_in word) (value_in word)) ∙ refused l.2)
        (λ p. ⊎_elim
        (λ r. step _ _ refl refl ∙ refused-none _ _ _ r.0 ∙ refused r.1)
        (λ m. taken m.0 m.1)
        (word-plain names (option name) (place seen) word (pending_at seen name []) refl other p.0))
        (split_word word other)

claims : {A : Type 0} (S : Reader A) (names : List Text) → Reads S names → (words : List Text) → Claim S names words
unfolding walk_fault
claims S names reads [] = record {
  resting = λ h seen holds. read-end S names reads h seen (place seen) false holds;
  waiting = λ seen name once has. rw (no_value names seen name (known S names reads name has)).2 refl;
}
claims S names reads (word ∷ words) = record {
  resting = resting-step S names reads word words (claims S names reads words);
  waiting = waiting-step S names reads word words (claims S names reads words);
}

-- the parser reads just what the words give
pub words-read :
    {A : Type 0} (S : Reader A) (names : List Text) → Reads S names → (words : List Text)
    → read S names (walk_from nothing_held) words ≡ more S [] (given_by names None words)
words-read S names reads words = (claims S names reads words).resting nothing_held [] (holds-rest names [] refl)
