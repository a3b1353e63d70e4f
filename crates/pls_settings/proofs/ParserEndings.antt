-- What the parser makes of the end of the words, and what is read of a list of what was given.
use Rattle.std.proofs.Common.{◌≡◌, ◌∙◌, ◌&&◌, ◌||◌, ⊎_elim, ℕ, Bool, true, false, not, List, [], ◌∷◌, ◌++◌, map, fold, find, Option, Some, None, option_map, option_and_then, codes, refl, ap, ap₂, sym, true≢false, append_assoc, append-nil, if◌then◌else◌}
use Rattle.std.specs.List.{list_any}
use Rattle.std.specs.Option.{option_map_or}
use Rattle.std.specs.Str.{bytes_eq}
use Rattle.clap.specs.Facts.{explicit_source}
use Rattle.clap.specs.Faults.{check_fault, default_fault, defaults_fault, given_default_fault, settle_fault, walk_fault}
use Rattle.clap.specs.Kinds.{Kinds, or_else}
use Rattle.clap.specs.Takes.{is_given}
use Rattle.clap.specs.Walk.{Held, Row, Rule, Text, first_of, has_row, idle, settled, with_default}
use Rattle.clap.specs.declared.error.kind.ErrorKind.TheVariants.{MissingRequiredArgument}
use Rattle.pls_settings.specs.Line.{Given, and_given, are_once, has_name, text_for}
use Rattle.pls_settings.proofs.Rows.{first_of-is, names_in, row, text_for-at, are_once-before}
use Rattle.pls_settings.proofs.Rules.{mode_built, option_built, rules, top}
use Rattle.pls_settings.proofs.Settled.{Holds, IsRefused, at_rest, unless_refused}
use Rattle.pls_settings.proofs.Steps.{IsHyphened, at, read}

-- ---- what is read of what was given

-- what S reads of the texts that are given
abbrev pub Reader : Type 0 → Type 0
Reader A = (Text → Option Text) → Option A

abbrev pub mode_name : Text
mode_name = codes "mode"

-- the names of a command, and how its texts are read: a hyphen begins no text, and there has to be a mode
pub record Reads {A : Type 0} (S : Reader A) (names : List Text) : Type 0 where
  pub unnamed : has_name names mode_name ≡ false
  pub hyphen : (f : Text → Option Text) (name text : Text) → has_name (mode_name ∷ names) name ≡ true → f name ≡ Some text → IsHyphened text → S f ≡ None
  pub mode : (f : Text → Option Text) → f mode_name ≡ None → S f ≡ None

abbrev pub done : {A : Type 0} → Reader A → List Given → Option A
done S given = if are_once given then S (text_for given) else None

-- what is read where more was given after this
abbrev pub more : {A : Type 0} → Reader A → List Given → Option (List Given) → Option A
more S seen o = option_and_then (λ given. done S (seen ++ given)) o

pub more-and : {A : Type 0} (S : Reader A) (seen : List Given) (g : Given) (o : Option (List Given)) → more S (seen ++ g ∷ []) o ≡ more S seen (and_given g o)
more-and S seen g None = refl
more-and S seen g (Some given) = ap (done S) (append_assoc seen (g ∷ []) given)

pub more-not_once : {A : Type 0} (S : Reader A) (seen : List Given) (o : Option (List Given)) → are_once seen ≡ false → more S seen o ≡ None
more-not_once S seen None twice = refl
more-not_once S seen (Some given) twice = rw (are_once-before seen given twice) refl

pub more-hyphen :
    {A : Type 0} (S : Reader A) (names : List Text) → Reads S names → (seen : List Given) (name text : Text) (o : Option (List Given))
    → has_name (mode_name ∷ names) name ≡ true → IsHyphened text → more S (seen ++ (name, text) ∷ []) o ≡ None
more-hyphen S names reads seen name text None known hyphened = refl
more-hyphen S names reads seen name text (Some given) known hyphened =
    ap (done S) (append_assoc seen ((name, text) ∷ []) given) ∙ go (are_once (seen ++ (name, text) ∷ given)) refl
  where
    go : (b : Bool) → are_once (seen ++ (name, text) ∷ given) ≡ b → (if b then S (text_for (seen ++ (name, text) ∷ given)) else None) ≡ None
    go true once = reads.hyphen _ name text known (text_for-at seen given (name, text) once) hyphened
    go false twice = refl

text_for-none : (seen : List Given) (name : Text) → has_name (names_in seen) name ≡ false → text_for seen name ≡ None
text_for-none [] name none = refl
text_for-none (g ∷ seen) name none = go (bytes_eq g.0 name) none (text_for-none seen name)
  where
    go : (b : Bool) → b || has_name (names_in seen) name ≡ false → (has_name (names_in seen) name ≡ false → text_for seen name ≡ None)
        → option_map (λ (h : Given). h.1) (if b then Some g else find (λ (h : Given). bytes_eq h.0 name) seen) ≡ None
    go true none next = absurd (true≢false none)
    go false none next = next none

-- ---- the end of the words

with_default-none : (rows : List Row) (a : Rule) → a.defaults ≡ [] → with_default rows a ≡ rows
with_default-none rows a none = rw none (go (has_row a.id rows))
  where
    go : (b : Bool) → (if b then rows else rows) ≡ rows
    go true = refl
    go false = refl

finished-options : (names : List Text) (rows : List Row) → fold with_default rows (map option_built names) ≡ rows
finished-options [] rows = refl
finished-options (n ∷ names) rows =
    ap (λ (rs : List Row). fold with_default rs (map option_built names)) (with_default-none rows (option_built n) refl) ∙ finished-options names rows

finished-is : (names : List Text) (rows : List Row) → fold with_default rows (rules names) ≡ rows
finished-is names rows =
    ap (λ (rs : List Row). fold with_default rs (map option_built names)) (with_default-none rows mode_built refl) ∙ finished-options names rows

no_default : (rows : List Row) (a : Rule) (rest : List Rule) → a.defaults ≡ [] → defaults_fault rows rest ≡ [] → defaults_fault rows (a ∷ rest) ≡ []
unfolding defaults_fault
no_default rows a rest none next =
    let first : default_fault rows a ≡ [] = rw none (go (has_row a.id rows)) in
    ap₂ or_else first (ap (λ (rs : List Row). defaults_fault rs rest) (with_default-none rows a none) ∙ next)
  where
    go : (b : Bool) → (if b || true then [] else given_default_fault a []) ≡ []
    go true = refl
    go false = refl

no_default-options : (names : List Text) (rows : List Row) → defaults_fault rows (map option_built names) ≡ []
unfolding defaults_fault
no_default-options [] rows = refl
no_default-options (n ∷ names) rows = no_default rows (option_built n) (map option_built names) refl (no_default-options names rows)

no_defaults : (names : List Text) (rows : List Row) → defaults_fault rows (rules names) ≡ []
no_defaults names rows = no_default rows mode_built (map option_built names) refl (no_default-options names rows)

is_given-is : (seen : List Given) (name : Text) → is_given name (map row seen) ≡ has_name (names_in seen) name
is_given-is [] name = refl
is_given-is (g ∷ seen) name = go (bytes_eq g.0 name) (is_given-is seen name)
  where
    go : (b : Bool) → is_given name (map row seen) ≡ has_name (names_in seen) name
        → option_map_or (λ (r : Row). explicit_source r.source) (if b then Some (row g) else find (λ (r : Row). bytes_eq r.id name) (map row seen)) false
        ≡ b || has_name (names_in seen) name
    go true next = refl
    go false next = next

none_required : (names : List Text) (rows : List Row) → list_any (λ (a : Rule). a.required && not (is_given a.id rows)) (map option_built names) ≡ false
none_required [] rows = refl
none_required (n ∷ names) rows = none_required names rows

check-is :
    (names : List Text) (seen : List Given)
    → check_fault (top names) (map row seen) false ≡ (if has_name (names_in seen) mode_name then [] else MissingRequiredArgument ∷ [])
check-is names seen = rw (none_required names (map row seen), is_given-is seen mode_name) (go (has_name (names_in seen) mode_name))
  where
    go : (b : Bool) → (if not b || false then MissingRequiredArgument ∷ [] else []) ≡ (if b then [] else MissingRequiredArgument ∷ [])
    go true = refl
    go false = refl

-- what is read at the end of the words is what S reads of what was given
pub read-end :
    {A : Type 0} (S : Reader A) (names : List Text) → Reads S names → (h : Held) (seen : List Given) (position : ℕ) (is_trailing : Bool)
    → Holds names h seen → read S names (at h idle position is_trailing) [] ≡ more S seen (Some [])
unfolding walk_fault
read-end {A} S names reads h seen position is_trailing holds = ⊎_elim settles refused holds.settles
  where
    read_of : Kinds → List Row → List Row → Option A
    read_of fault rows all =
        unless_refused (or_else fault (or_else (defaults_fault rows (rules names)) (check_fault (top names) all false))) (S (λ name. first_of name all))

    named : (b : Bool) → has_name (names_in seen) mode_name ≡ b
        → unless_refused (if b then [] else MissingRequiredArgument ∷ []) (S (λ name. first_of name (map row seen))) ≡ S (text_for seen)
    named true is = λ i. S (λ name. first_of-is seen name i)
    named false none = sym (reads.mode (text_for seen) (text_for-none seen mode_name none))

    settles : (settle_fault (rules names) false h ≡ []) × (settled (rules names) h ≡ at_rest seen) × (are_once seen ≡ true)
        → read S names (at h idle position is_trailing) [] ≡ more S seen (Some [])
    settles s =
        let rows = ap (λ (k : Held). k.rows) s.1 in
        let all = ap (λ (rs : List Row). fold with_default rs (rules names)) rows ∙ finished-is names (map row seen) in
        (λ i. read_of (s.0 i) (rows i) (all i))
        ∙ rw (no_defaults names (map row seen), check-is names seen, append-nil seen, s.2) (named (has_name (names_in seen) mode_name) refl)

    refused : IsRefused (settle_fault (rules names) false h) × (are_once seen ≡ false) → read S names (at h idle position is_trailing) [] ≡ more S seen (Some [])
    refused r = rw (r.0.2) (sym (more-not_once S seen (Some []) r.1))
