-- Which words are a command line, and the settings that they stand for.
use Rattle.std.specs.Prelude.{ℕ, ◌==◌, ◌&&◌, nat_le, Bool, true, not, List, [], ◌∷◌, map, length, take, drop, find, Option, Some, None, option_map, option_and_then, if◌then◌else◌, codes}
use Rattle.std.specs.List.{list_any, before_first, after_first}
use Rattle.std.specs.Option.{option_map_or}
use Rattle.std.specs.Str.{all_ascii_digits, bytes_eq}
use Rattle.std.specs.Str.Parse.{digits_value}
use Rattle.pls_problem.specs.Kinds.{kind_named, least_size}
use Rattle.pls_problem.specs.declared.kind.Kind.TheVariants.{Knapsack}
use Rattle.pls_problem.specs.declared.make_spec.MakeSpec.{MakeSpec}
use Rattle.pls_settings.specs.declared.choices.Mode.{Mode}
use Rattle.pls_settings.specs.declared.choices.Mode.TheVariants.{Search, Make, Demo}
use Rattle.pls_settings.specs.declared.choices.Settings.{Settings}

abbrev pub Text : Type 0
Text = List ℕ

-- ---- what the words say

-- the options, each of which takes one value
abbrev pub options : List Text
options =
    codes "seed" ∷ codes "moves" ∷ codes "workers" ∷ codes "starts" ∷ codes "rows" ∷ codes "kind" ∷ codes "size"
    ∷ codes "objectives" ∷ codes "rules" ∷ []

-- a name, and the text that is given for it
abbrev pub Given : Type 0
Given = Text × Text

-- a word that is neither an option nor its value is given for the mode
abbrev pub as_mode : Text → Given
as_mode word = (codes "mode", word)

abbrev pub has_name : List Text → Text → Bool
has_name names name = list_any (λ n. bytes_eq n name) names

-- the word begins with two hyphens
abbrev pub is_option : Text → Bool
is_option word = bytes_eq (take 2 word) (codes "--")

abbrev pub is_equals : ℕ → Bool
is_equals byte = byte == 61

-- what stands between two hyphens and the first `=`
abbrev pub name_in : Text → Text
name_in word = before_first is_equals (drop 2 word)

-- what follows the first `=`, if there is one
abbrev pub value_in : Text → Option Text
value_in word = if list_any is_equals (drop 2 word) then Some (after_first is_equals (drop 2 word)) else None

-- one more is given before the others
abbrev pub and_given : Given → Option (List Given) → Option (List Given)
and_given g = option_map (λ more. g ∷ more)

-- What the words give, in their order; none where an option has none of these names, or lacks its value. After
-- the names: the option, if there is one, of which the next word is the value.
abbrev pub given_by : List Text → Option Text → List Text → Option (List Given)
given_by names None [] = Some []
given_by names (Some name) [] = None
given_by names (Some name) (value ∷ words) = and_given (name, value) (given_by names None words)
given_by names None (word ∷ words) =
    if bytes_eq word (codes "--") then Some (map as_mode words)
    else if not (is_option word) then and_given (as_mode word) (given_by names None words)
    else if not (has_name names (name_in word)) then None
    else option_map_or
    (λ value. and_given (name_in word, value) (given_by names None words))
    (value_in word)
    (given_by names (Some (name_in word)) words)

-- no name is given twice
abbrev pub are_once : List Given → Bool
are_once [] = true
are_once (g ∷ more) = not (has_name (map (λ h. h.0) more) g.0) && are_once more

-- the text that is given for a name
abbrev pub text_for : List Given → Text → Option Text
text_for given name = option_map (λ g. g.1) (find (λ g. bytes_eq g.0 name) given)

-- ---- what the texts stand for

-- goes on with what was read, if it was
unfoldable pub with_read : {A B : Type 0} → Option A → (A → Option B) → Option B
with_read x next = option_and_then next x

abbrev pub mode_of : Text → Option Mode
mode_of text =
    if bytes_eq text (codes "search") then Some Search
    else if bytes_eq text (codes "make") then Some Make
    else if bytes_eq text (codes "demo") then Some Demo
    else None

-- one to 20 decimal digits, and no sign
abbrev pub is_numeral : Text → Bool
is_numeral text = nat_le 1 (length text) && nat_le (length text) 20 && all_ascii_digits text

-- the number from `least` to `most` that a text writes
abbrev pub number : ℕ → ℕ → Text → Option ℕ
number least most text =
    if is_numeral text && nat_le least (digits_value 10 text) && nat_le (digits_value 10 text) most
    then Some (digits_value 10 text) else None

-- what is read of a text, or the default where none is given
abbrev pub or_default : {A : Type 0} → A → (Text → Option A) → Option Text → Option A
or_default default read text = option_map_or read text (Some default)

-- what an instance is made from, by the texts that are given
unfoldable pub make_of : ℕ → (Text → Option Text) → Option MakeSpec
make_of seed text =
    with_read (or_default Knapsack kind_named (text (codes "kind"))) (λ kind.
    with_read (or_default 100 (number 1 256) (text (codes "size"))) (λ size.
    with_read (or_default 2 (number 2 4) (text (codes "objectives"))) (λ objectives.
    with_read (or_default 1 (number 1 8) (text (codes "rules"))) (λ rules.
    Some (record { kind = kind; objectives = objectives; size = size; rules = rules; seed = seed })))))

-- a search makes nothing; what else is made has the least size of its kind
abbrev pub is_makeable : Mode → MakeSpec → Bool
is_makeable Search make = true
is_makeable Make make = nat_le (least_size make.kind) make.size
is_makeable Demo make = nat_le (least_size make.kind) make.size

-- the settings, by the texts that are given
unfoldable pub settings_of : (Text → Option Text) → Option Settings
settings_of text =
    with_read (option_and_then mode_of (text (codes "mode"))) (λ mode.
    with_read (or_default 1 (number 0 18446744073709551615) (text (codes "seed"))) (λ seed.
    with_read (or_default 1000000 (number 0 1000000000) (text (codes "moves"))) (λ moves.
    with_read (or_default 1 (number 1 16) (text (codes "workers"))) (λ workers.
    with_read (or_default 1 (number 1 64) (text (codes "starts"))) (λ starts.
    with_read (or_default 65536 (number 64 262144) (text (codes "rows"))) (λ rows.
    with_read (make_of seed text) (λ make.
    if is_makeable mode make
    then Some (record { mode = mode; seed = seed; moves = moves; workers = workers; starts = starts; rows = rows; make = make })
    else None)))))))

-- the settings of a list of words, or none where it is no command line
unfoldable pub line : List Text → Option Settings
line words =
    with_read (given_by options None words) (λ given.
    if are_once given then settings_of (text_for given) else None)
