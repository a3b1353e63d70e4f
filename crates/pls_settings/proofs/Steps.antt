-- What the parser makes of one word more.
use Rattle.std.proofs.Common.{◌≡◌, ◌∙◌, ◌==◌, ◌⊎◌, inl, inr, ⊎_elim, ℕ, Bool, true, false, List, [], ◌∷◌, Option, Some, None, fold, refl, ap, ap₂, slice_get, length, option_and_then, if◌then◌else◌}
use Rattle.std.proofs.lemmas.Bool.Decides.{Decides-eqb}
use Rattle.std.specs.Option.{option_map_or}
use Rattle.std.specs.Str.{bytes_eq, chars}
use Rattle.clap.specs.Faults.{bundle_fault, bundle_step_fault, check_fault, defaults_fault, flags_fault, long_fault, settle_fault, step_fault, turn_fault, walk_fault, word_fault}
use Rattle.clap.specs.Kinds.{Kinds, or_else}
use Rattle.clap.specs.Lexer.{long_of, short_of, short_of_rest}
use Rattle.clap.specs.Walk.{Held, Outcome, Step, Text, Waiting, Walk, after_step, arg_by_long, bundle, bundle_met, bundle_step, finished, first_of, idle, long_word, option, plain, plain_word, positional, settled, short_or_plain, after_flag, subcommand_met, trailing, walked, word_met}
use Rattle.clap.specs.declared.error.kind.ErrorKind.TheVariants.{UnknownArgument}
use Rattle.pls_settings.proofs.Rules.{arg_by_short-none, rules, top}
use Rattle.pls_settings.proofs.Settled.{IsRefused, unless_refused}

abbrev pub at : Held → Waiting → ℕ → Bool → Walk
at h waiting position is_trailing = record { held = h; waiting = waiting; position = position; is_trailing = is_trailing; stopped = None }

-- the faults after the last word
abbrev pub end_fault : List Text → Held → Kinds
end_fault names h =
    or_else (settle_fault (rules names) false h)
    (or_else (defaults_fault (settled (rules names) h).rows (rules names)) (check_fault (top names) (finished (rules names) h) false))

abbrev pub ended : {A : Type 0} → ((Text → Option Text) → Option A) → List Text → Kinds → Held → Option A
ended S names faults h = unless_refused (or_else faults (end_fault names h)) (S (λ name. first_of name (finished (rules names) h)))

-- what is read of the words that follow, by S of the texts that are found
abbrev pub read : {A : Type 0} → ((Text → Option Text) → Option A) → List Text → Walk → List Text → Option A
read S names w words = ended S names (walk_fault (top names) [] w words) (fold (walked (rules names) []) w words).held

or_else-parts : {A : Type 0} (a b e : Kinds) (x : Option A) → unless_refused (or_else (or_else a b) e) x ≡ unless_refused a (unless_refused (or_else b e) x)
or_else-parts [] b e x = refl
or_else-parts (k ∷ ks) b e x = refl

pub read-step :
    {A : Type 0} (S : (Text → Option Text) → Option A) (names : List Text) (h : Held) (waiting : Waiting) (position : ℕ) (is_trailing : Bool) (word : Text) (rest : List Text)
    (met : Held × Step) (fault : Kinds)
    → word_met (rules names) [] is_trailing waiting position word h ≡ met → word_fault (top names) [] is_trailing waiting word h ≡ fault
    → read S names (at h waiting position is_trailing) (word ∷ rest)
    ≡ unless_refused (or_else fault (step_fault (top names) position met.0 met.1))
    (read S names (after_step (rules names) word (at h waiting position is_trailing) met.0 met.1) rest)
unfolding walk_fault walked
read-step S names h waiting position is_trailing word rest met fault is faults =
    or_else-parts (turn_fault (top names) [] (at h waiting position is_trailing) word) _ _ _
    ∙ ap₂ (λ (m : Held × Step) (f : Kinds). unless_refused (or_else f (step_fault (top names) position m.0 m.1))
    (read S names (after_step (rules names) word (at h waiting position is_trailing) m.0 m.1) rest)) is faults

no_subcommand : (waiting : Waiting) (word : Text) → subcommand_met [] waiting word ≡ None
no_subcommand idle word = refl
no_subcommand (option id) word = refl
no_subcommand positional word = refl

pub word-hyphens :
    (names : List Text) (waiting : Waiting) (position : ℕ) (word : Text) (h : Held) → bytes_eq word (45 ∷ 45 ∷ []) ≡ true
    → (word_met (rules names) [] false waiting position word h ≡ (h, trailing position)) × (word_fault (top names) [] false waiting word h ≡ [])
word-hyphens names waiting position word h is = (rw (no_subcommand waiting word, is) refl, rw (no_subcommand waiting word, is) refl)

pub word-long :
    (names : List Text) (waiting : Waiting) (position : ℕ) (word name : Text) (value : Option Text) (h : Held)
    → bytes_eq word (45 ∷ 45 ∷ []) ≡ false → long_of word ≡ Some (name, value)
    → (word_met (rules names) [] false waiting position word h ≡ long_word (rules names) waiting word name value h)
    × (word_fault (top names) [] false waiting word h ≡ long_fault (rules names) false (arg_by_long (rules names) name) value h)
word-long names waiting position word name value h other is =
    (rw (no_subcommand waiting word, other, is) refl, rw (no_subcommand waiting word, other, is) refl)

-- a word that begins with one hyphen
bundle-is :
    (names : List Text) (y : ℕ) (ys : Text) (h : Held) → h.skip ≡ 0
    → IsRefused (bundle_fault (rules names) false (y ∷ ys) h) ⊎ ((bundle_fault (rules names) false (y ∷ ys) h ≡ []) × (bundle (rules names) (y ∷ ys) h ≡ (h, plain)))
unfolding bundle_met flags_fault
bundle-is names y ys h skip = rw skip (go (slice_get (chars (y ∷ ys)) 0))
  where
    go : (o : Option ℕ)
        → IsRefused (bundle_step_fault (rules names) false o (y ∷ ys) 0 (record h { skip = 0 }) (flags_fault (rules names) false (length ys)))
        ⊎ ((bundle_step_fault (rules names) false o (y ∷ ys) 0 (record h { skip = 0 }) (flags_fault (rules names) false (length ys)) ≡ [])
        × (bundle_step (rules names) o (y ∷ ys) 0 plain (record h { skip = 0 }) (bundle_met (rules names) (length ys)) ≡ (record h { skip = 0 }, plain)))
    go None = inr (refl, refl)
    go (Some x) = inl (UnknownArgument, [], rw (arg_by_short-none names x) refl)

-- a text that begins with a hyphen
abbrev pub IsHyphened : Text → Type 0
IsHyphened text = (rest : Text) × (text ≡ 45 ∷ rest)

-- the word, of which this follows one hyphen, is refused or goes on as it is
abbrev Goes : List Text → Waiting → Text → Held → Option Text → Type 0
Goes names waiting word h flags =
    (IsRefused (option_map_or (λ f. bundle_fault (rules names) false f h) flags []) × IsHyphened word)
    ⊎ ((option_map_or (λ f. bundle_fault (rules names) false f h) flags [] ≡ [])
    × (short_or_plain (rules names) waiting word flags h ≡ plain_word (rules names) waiting word h))

after_hyphen :
    (names : List Text) (waiting : Waiting) (word : Text) (h : Held) → h.skip ≡ 0 → IsHyphened word
    → (xs : Text) → Goes names waiting word h (short_of_rest xs)
after_hyphen names waiting word h skip hyphened [] = inr (refl, refl)
after_hyphen names waiting word h skip hyphened (y ∷ ys) = go (y == 45)
  where
    go : (b : Bool) → Goes names waiting word h (if b then None else Some (y ∷ ys))
    go true = inr (refl, refl)
    go false = ⊎_elim
        (λ r. inl (r, hyphened))
        (λ p. inr (p.0, ap (λ (o : Held × Outcome). after_flag (rules names) waiting word o.0 o.1) p.1))
        (bundle-is names y ys h skip)

goes : (names : List Text) (waiting : Waiting) (word : Text) (h : Held) → h.skip ≡ 0 → Goes names waiting word h (short_of word)
goes names waiting [] h skip = inr (refl, refl)
goes names waiting (x ∷ xs) h skip = go (x == 45) (Decides-eqb x 45).0
  where
    go : (b : Bool) → (b ≡ true → x ≡ 45) → Goes names waiting (x ∷ xs) h (option_and_then short_of_rest (if b then Some xs else None))
    go true is = after_hyphen names waiting (x ∷ xs) h skip (xs, ap (λ (y : ℕ). y ∷ xs) (is refl)) xs
    go false is = inr (refl, refl)

pub word-plain :
    (names : List Text) (waiting : Waiting) (position : ℕ) (word : Text) (h : Held) → h.skip ≡ 0
    → bytes_eq word (45 ∷ 45 ∷ []) ≡ false → long_of word ≡ None
    → (IsRefused (word_fault (top names) [] false waiting word h) × IsHyphened word)
    ⊎ ((word_fault (top names) [] false waiting word h ≡ [])
    × (word_met (rules names) [] false waiting position word h ≡ plain_word (rules names) waiting word h))
word-plain names waiting position word h skip other none = rw (no_subcommand waiting word, other, none) (goes names waiting word h skip)
