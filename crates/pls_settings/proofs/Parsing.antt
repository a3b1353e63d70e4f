-- What the parser says of the command, as the settings of the words.
use Rattle.std.proofs.Common.{◌≡◌, ◌≢◌, ◌∙◌, ap, ap₂, refl, sym, subst, inl, inr, List, [], ◌∷◌, Option, Some, None, true, Result, IfOk, IfErr}
use Rattle.clap.specs.Faults.{fault_of, is_simple_and_free}
use Rattle.clap.specs.Kinds.{HasKind, Kinds}
use Rattle.clap.specs.Matches.{found_of}
use Rattle.clap.specs.Simple.{App, is_simple, matches_of}
use Rattle.clap.specs.Values.{kind_of}
use Rattle.clap.specs.Walk.{Row, first_of, rows_of}
use Rattle.clap.specs.declared.error.Error.{Error}
use Rattle.clap.specs.declared.error.kind.ErrorKind.TheVariants.{OutOfMemory}
use Rattle.clap.specs.declared.parser.matches.ArgMatches.{ArgMatches}
use Rattle.std.specs.Option.{ok_or}
use Rattle.pls_settings.specs.Line.{Text, line, settings_of}
use Rattle.pls_settings.specs.declared.choices.Settings.{Settings}
use Rattle.pls_settings.specs.declared.choices.SettingsRefusal.{SettingsRefusal}
use Rattle.pls_settings.specs.declared.choices.SettingsRefusal.TheVariants.{Usage}
use Rattle.pls_settings.specs.Parse.{plsnd, text_in}
use Rattle.pls_settings.proofs.Command.{line-is}
use Rattle.pls_settings.proofs.Settled.{unless_refused}

is_simple-plsnd : is_simple plsnd ≡ true
unfolding plsnd
is_simple-plsnd = refl

is_free-plsnd : is_simple_and_free plsnd ≡ true
unfolding plsnd
is_free-plsnd = refl

pub line-Ok :
    {Z : Type 0} (a : App) (words : List Text) (m : ArgMatches) → a ≡ plsnd
    → (is_simple a ≡ true → (rows_of (found_of m) ≡ matches_of a words) × Z)
    → (is_simple_and_free a ≡ true → fault_of a words ≡ []) → line words ≡ settings_of (text_in m)
line-Ok a words m is rows none =
    let here : rows_of (found_of m) ≡ matches_of plsnd words =
    (rows (ap is_simple is ∙ is_simple-plsnd)).0 ∙ ap (λ (x : App). matches_of x words) is in
    let passed : fault_of plsnd words ≡ [] = sym (ap (λ (x : App). fault_of x words) is) ∙ none (ap is_simple_and_free is ∙ is_free-plsnd) in
    sym (line-is words) ∙ ap₂ (λ (kinds : Kinds) (found : List Row). unless_refused kinds (settings_of (λ name. first_of name found))) passed (sym here)

pub line-Err :
    (a : App) (words : List Text) (e : Error) → a ≡ plsnd
    → (is_simple_and_free a ≡ true → HasKind (fault_of a words) e) → kind_of e ≢ OutOfMemory → line words ≡ None
line-Err a words e is fails other =
    sym (line-is words) ∙ go (fault_of plsnd words) (subst (λ (x : App). HasKind (fault_of x words) e) is (fails (ap is_simple_and_free is ∙ is_free-plsnd)))
  where
    go : (kinds : Kinds) → HasKind kinds e → unless_refused kinds (settings_of (λ name. first_of name (matches_of plsnd words))) ≡ None
    go [] (inl memory) = absurd (other memory)
    go [] (inr none) = absurd none
    go (k ∷ ks) h = refl

-- settings that are there are answered, and Usage where there are none
pub answered :
    (words x : Option Settings) (r : Result Settings SettingsRefusal) → words ≡ x → r ≡ ok_or x Usage
    → IfOk r (λ s. words ≡ Some s) × IfErr r (λ e. e ≡ Usage → words ≡ None)
answered words None r is answer = rw answer (tt, λ e. is)
answered words (Some s) r is answer = rw answer (is, tt)
