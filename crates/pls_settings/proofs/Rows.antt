-- What the parser has found, as the list of what the words give.
use Rattle.std.proofs.Common.{◌≡◌, ◌∙◌, ◌&&◌, ◌||◌, ℕ, Bool, true, false, not, List, [], ◌∷◌, ◌++◌, map, Option, Some, None, find, option_map, option_and_then, slice_get, append-nil, refl, ap, sym, true≢false, if◌then◌else◌}
use Rattle.std.proofs.lemmas.Slice.Eq.{bytes_eq-Decides}
use Rattle.std.proofs.lemmas.Bool.{and_parts}
use Rattle.std.proofs.lemmas.Bool.Decides.{Decides-like, same_from_decides}
use Rattle.std.specs.Str.{bytes_eq}
use Rattle.clap.specs.Facts.{parser_of_value}
use Rattle.clap.specs.Faults.{use_fault}
use Rattle.clap.specs.Kinds.{or_else}
use Rattle.clap.specs.Values.{reading_of}
use Rattle.clap.specs.Walk.{Row, Text, at_row, first_of, has_row, more_values, used}
use Rattle.clap.specs.declared.builder.value_parser.ValueParser.TheVariants.{String}
use Rattle.clap.specs.declared.error.kind.ErrorKind.TheVariants.{ArgumentConflict}
use Rattle.clap.specs.declared.parser.matches.ValueSource.TheVariants.{CommandLine}
use Rattle.pls_settings.specs.Line.{Given, are_once, has_name, text_for}
use Rattle.pls_settings.proofs.Rules.{single}

abbrev pub row : Given → Row
row g = record {
  id = g.0;
  values = g.1 ∷ [];
  count = None;
  source = Some CommandLine;
  reading = reading_of (parser_of_value (Some String));
}

abbrev pub names_in : List Given → List Text
names_in = map (λ g. g.0)

-- ---- names

pub same : (a : Text) → bytes_eq a a ≡ true
same a = (bytes_eq-Decides a a).1 refl

pub bytes_eq-sym : (a b : Text) → bytes_eq a b ≡ bytes_eq b a
bytes_eq-sym a b = same_from_decides _ _ (bytes_eq-Decides a b) (Decides-like _ sym sym (bytes_eq-Decides b a))

or-assoc : (a b c : Bool) → (a || b) || c ≡ a || (b || c)
or-assoc true b c = refl
or-assoc false b c = refl

pub has_name-append : (seen more : List Given) (name : Text) → has_name (names_in (seen ++ more)) name ≡ has_name (names_in seen) name || has_name (names_in more) name
has_name-append [] more name = refl
has_name-append (g ∷ seen) more name = ap (λ (b : Bool). bytes_eq g.0 name || b) (has_name-append seen more name) ∙ sym (or-assoc (bytes_eq g.0 name) _ _)

swapped : (a e o b : Bool) → not (a || (e || false)) && (o && not b) ≡ (not a && o) && not (e || b)
swapped true e o b = refl
swapped false true true b = refl
swapped false true false b = refl
swapped false false true b = refl
swapped false false false b = refl

pub are_once-add : (seen : List Given) (g : Given) → are_once (seen ++ g ∷ []) ≡ are_once seen && not (has_name (names_in seen) g.0)
are_once-add [] g = refl
are_once-add (h ∷ seen) g =
    rw (has_name-append seen (g ∷ []) h.0, are_once-add seen g, bytes_eq-sym g.0 h.0)
    (swapped (has_name (names_in seen) h.0) (bytes_eq h.0 g.0) (are_once seen) (has_name (names_in seen) g.0))

pub are_once-before : (seen more : List Given) → are_once seen ≡ false → are_once (seen ++ more) ≡ false
are_once-before [] more none = absurd (true≢false none)
are_once-before (g ∷ seen) more none =
    rw (has_name-append seen more g.0) (go (has_name (names_in seen) g.0) (has_name (names_in more) g.0) (are_once seen) none (are_once-before seen more))
  where
    go : (a m o : Bool) → not a && o ≡ false → {p : Bool} → (o ≡ false → p ≡ false) → not (a || m) && p ≡ false
    go true m o none next = refl
    go false true o none next = refl
    go false false o none next = next none

-- ---- rows

pub has_row-is : (seen : List Given) (name : Text) → has_row name (map row seen) ≡ has_name (names_in seen) name
has_row-is [] name = refl
has_row-is (g ∷ seen) name = ap (λ (b : Bool). bytes_eq g.0 name || b) (has_row-is seen name)

pub first_of-is : (seen : List Given) (name : Text) → first_of name (map row seen) ≡ text_for seen name
first_of-is [] name = refl
first_of-is (g ∷ seen) name = go (bytes_eq g.0 name) (first_of-is seen name)
  where
    go : (b : Bool) → first_of name (map row seen) ≡ text_for seen name
        → option_and_then (λ (r : Row). slice_get r.values 0) (if b then Some (row g) else find (λ (r : Row). bytes_eq r.id name) (map row seen))
        ≡ option_map (λ (h : Given). h.1) (if b then Some g else find (λ (h : Given). bytes_eq h.0 name) seen)
    go true next = refl
    go false next = next

at_row-none :
    (id : Text) (change : Row → List Row) (missing rows : List Row) → has_row id rows ≡ false → at_row id change missing rows ≡ rows ++ missing
at_row-none id change missing [] none = refl
at_row-none id change missing (r ∷ rows) none = go (bytes_eq r.id id) none (at_row-none id change missing rows)
  where
    go : (b : Bool) → b || has_row id rows ≡ false → {more : List Row} → (has_row id rows ≡ false → more ≡ rows ++ missing)
        → (if b then change r ++ rows else r ∷ more) ≡ r ∷ rows ++ missing
    go true none next = absurd (true≢false none)
    go false none next = ap (λ (rs : List Row). r ∷ rs) (next none)

pub use_fault-is :
    (long : Option Text) (index : Option ℕ) (required : Bool) (g : Given) (rows : List Row)
    → use_fault false (single g.0 long index required) (g.1 ∷ []) rows ≡ (if has_row g.0 rows then ArgumentConflict ∷ [] else [])
use_fault-is long index required g rows = go (has_row g.0 rows)
  where
    go : (b : Bool) → or_else (if b && true then ArgumentConflict ∷ [] else []) [] ≡ (if b then ArgumentConflict ∷ [] else [])
    go true = refl
    go false = refl

pub used-is :
    (long : Option Text) (index : Option ℕ) (required : Bool) (g : Given) (rows : List Row) → has_row g.0 rows ≡ false
    → used (single g.0 long index required) (g.1 ∷ []) rows ≡ rows ++ row g ∷ []
used-is long index required g rows none =
    rw (at_row-none g.0 (λ r. []) [] rows none, append-nil rows) (at_row-none g.0 (more_values CommandLine (g.1 ∷ [])) (row g ∷ []) rows none)

-- ---- the text for a name

hit : (a b : Bool) → b ≡ true → (m : Bool) → not (a || (b || m)) ≡ false
hit true b e m = refl
hit false true e m = refl
hit false false e m = absurd (true≢false (sym e))

pub text_for-at : (seen more : List Given) (g : Given) → are_once (seen ++ g ∷ more) ≡ true → text_for (seen ++ g ∷ more) g.0 ≡ Some g.1
text_for-at [] more g once = rw (same g.0) refl
text_for-at (h ∷ seen) more g once =
    let parts = and_parts _ _ once in
    go (bytes_eq h.0 g.0) (bytes_eq-sym g.0 h.0) (rw (← has_name-append seen (g ∷ more) h.0) parts.0) (text_for-at seen more g parts.1)
  where
    go : (b : Bool) → bytes_eq g.0 h.0 ≡ b → not (has_name (names_in seen) h.0 || (bytes_eq g.0 h.0 || has_name (names_in more) h.0)) ≡ true
        → text_for (seen ++ g ∷ more) g.0 ≡ Some g.1
        → option_map (λ (k : Given). k.1) (if b then Some h else find (λ (k : Given). bytes_eq k.0 g.0) (seen ++ g ∷ more)) ≡ Some g.1
    go true e first next = absurd (true≢false (sym first ∙ hit (has_name (names_in seen) h.0) (bytes_eq g.0 h.0) e (has_name (names_in more) h.0)))
    go false e first next = next
