-- The parser's rules of a command with a mode and options, and which of them answers to what.
use Rattle.std.proofs.Common.{◌≡◌, ◌||◌, ℕ, Bool, true, false, List, [], ◌∷◌, map, Option, Some, None, codes, refl, ap, sym, true≢false, find, if◌then◌else◌}
use Rattle.std.proofs.lemmas.Slice.Eq.{bytes_eq-Decides}
use Rattle.std.specs.Str.{bytes_eq}
use Rattle.clap.specs.Simple.{Shape, built, new_rule, new_shape}
use Rattle.clap.specs.Walk.{Rule, Text, arg_by_id, arg_by_index, arg_by_long, arg_by_short}
use Rattle.clap.specs.declared.builder.action.ArgAction.TheVariants.{Set}
use Rattle.clap.specs.declared.builder.value_parser.ValueParser.TheVariants.{String}
use Rattle.pls_settings.specs.Line.{has_name, options}
use Rattle.pls_settings.specs.Parse.{plsnd}

-- a rule of one value for each use
abbrev pub single : Text → Option Text → Option ℕ → Bool → Rule
single id long index required = record (new_rule id) {
  long = long;
  index = index;
  action = Some Set;
  range = Some (record { start_inclusive = 1; end_inclusive = 1 });
  parser = Some String;
  required = required;
}

abbrev pub mode_built : Rule
mode_built = single (codes "mode") None (Some 1) true

abbrev pub option_built : Text → Rule
option_built name = single name (Some name) None false

abbrev pub rules : List Text → List Rule
rules names = mode_built ∷ map option_built names

abbrev pub top : List Text → Shape
top names = record (new_shape (codes "plsnd")) {
  rules = rules names;
  no_binary_name = true;
  disable_help_flag = true;
  disable_help_subcommand = true;
  is_built = true;
}

pub built-plsnd : built plsnd ≡ record { top = top options; subs = [] }
unfolding plsnd
built-plsnd = refl

pub arg_by_index-mode : (names : List Text) → arg_by_index (rules names) 1 ≡ Some mode_built
arg_by_index-mode names = refl

pub arg_by_index-stray : (names : List Text) → arg_by_index (rules names) 2 ≡ None
arg_by_index-stray [] = refl
arg_by_index-stray (n ∷ names) = arg_by_index-stray names

pub arg_by_short-none : (names : List Text) (x : ℕ) → arg_by_short (rules names) x ≡ None
arg_by_short-none [] x = refl
arg_by_short-none (n ∷ names) x = arg_by_short-none names x

pub arg_by_long-is :
    (names : List Text) (name : Text) → arg_by_long (rules names) name ≡ (if has_name names name then Some (option_built name) else None)
arg_by_long-is [] name = refl
arg_by_long-is (n ∷ names) name = go (bytes_eq n name) (bytes_eq-Decides n name).0 (arg_by_long-is names name)
  where
    go : (b : Bool) → (b ≡ true → n ≡ name) → {more : Option Rule} → more ≡ (if has_name names name then Some (option_built name) else None)
        → (if b || false then Some (option_built n) else more) ≡ (if b || has_name names name then Some (option_built name) else None)
    go true equal next = ap (λ (m : Text). Some (option_built m)) (equal refl)
    go false equal next = next

-- the rule that an id stands for, of one value for each use
abbrev pub IsKnown : List Text → Text → Type 0
IsKnown names id =
    (long : Option Text) × (index : Option ℕ) × (required : Bool) × (arg_by_id (rules names) id ≡ Some (single id long index required))

pub known-mode : (names : List Text) → IsKnown names (codes "mode")
known-mode names = (None, Some 1, true, refl)

find-option :
    (names : List Text) (name : Text) → has_name names name ≡ true
    → find (λ (a : Rule). bytes_eq a.id name) (map option_built names) ≡ Some (option_built name)
find-option [] name none = absurd (true≢false (sym none))
find-option (n ∷ names) name some = go (bytes_eq n name) (bytes_eq-Decides n name).0 some (find-option names name)
  where
    go : (b : Bool) → (b ≡ true → n ≡ name) → b || has_name names name ≡ true → {more : Option Rule}
        → (has_name names name ≡ true → more ≡ Some (option_built name)) → (if b then Some (option_built n) else more) ≡ Some (option_built name)
    go true equal some next = ap (λ (m : Text). Some (option_built m)) (equal refl)
    go false equal some next = next some

pub known-option : (names : List Text) (name : Text) → has_name names name ≡ true → bytes_eq (codes "mode") name ≡ false → IsKnown names name
known-option names name has other = (Some name, None, false, rw other (find-option names name has))
