-- The settings of the words that the parser takes are those that the words stand for.
use Rattle.std.proofs.Common.{◌≡◌, ◌∙◌, ◌&&◌, ◌||◌, ℕ, Bool, true, false, List, [], ◌∷◌, length, Option, Some, None, codes, nat_le, refl, ap, ap₂, sym, subst, true≢false}
use Rattle.std.specs.Bool.{⊤}
use Rattle.std.proofs.lemmas.Bool.{and_right}
use Rattle.std.proofs.lemmas.Slice.Eq.{bytes_eq-Decides}
use Rattle.std.specs.Str.{bytes_eq}
use Rattle.clap.specs.Faults.{built_fault, fault_of, level_fault}
use Rattle.clap.specs.Kinds.{Kinds}
use Rattle.clap.specs.Simple.{App, matches_of, names_of}
use Rattle.clap.specs.Walk.{Row, first_of, nothing_held, rows_after}
use Rattle.clap.proofs.FaultLemmas.{leaf_fault}
use Rattle.pls_settings.specs.Line.{Text, has_name, line, make_of, number, options, or_default, settings_of, with_read}
use Rattle.pls_settings.specs.Parse.{plsnd}
use Rattle.pls_settings.proofs.Settled.{unless_refused}
use Rattle.pls_settings.proofs.ParserEndings.{Reads, mode_name}
use Rattle.pls_settings.proofs.Lines.{words-read}
use Rattle.pls_settings.proofs.Rules.{built-plsnd, top}

-- ---- a hyphen begins no text that is read

no_number : (default least most : ℕ) (rest : Text) (o : Option Text) → o ≡ Some (45 ∷ rest) → or_default default (number least most) o ≡ None
no_number default least most rest o is =
    rw (is, and_right (nat_le 1 (length (45 ∷ rest)) && nat_le (length (45 ∷ rest)) 20) false refl) refl

read-none : {A B : Type 0} (x : Option A) (next : A → Option B) → ((a : A) → next a ≡ None) → with_read x next ≡ None
unfolding with_read
read-none None next never = refl
read-none (Some a) next never = never a

read-at : {A B : Type 0} (x : Option A) (next : A → Option B) → x ≡ None → with_read x next ≡ None
unfolding with_read
read-at x next is = rw is refl

-- no settings are read where this name has a text that begins with a hyphen
abbrev Refuses : Text → Type 0
Refuses name = (f : Text → Option Text) (rest : Text) → f name ≡ Some (45 ∷ rest) → settings_of f ≡ None

refuses-make : (f : Text → Option Text) → ((seed : ℕ) → make_of seed f ≡ None) → settings_of f ≡ None
unfolding settings_of
refuses-make f never =
    read-none _ _ (λ mode. read-none _ _ (λ seed. read-none _ _ (λ moves. read-none _ _ (λ workers. read-none _ _ (λ starts. read-none _ _ (λ rows.
    read-at _ _ (never seed)))))))

refuses-mode : Refuses mode_name
unfolding settings_of
refuses-mode f rest is = read-at _ _ (rw is refl)

refuses-seed : Refuses (codes "seed")
unfolding settings_of
refuses-seed f rest is = read-none _ _ (λ mode. read-at _ _ (no_number 1 0 18446744073709551615 rest (f (codes "seed")) is))

refuses-moves : Refuses (codes "moves")
unfolding settings_of
refuses-moves f rest is =
    read-none _ _ (λ mode. read-none _ _ (λ seed. read-at _ _ (no_number 1000000 0 1000000000 rest (f (codes "moves")) is)))

refuses-workers : Refuses (codes "workers")
unfolding settings_of
refuses-workers f rest is =
    read-none _ _ (λ mode. read-none _ _ (λ seed. read-none _ _ (λ moves. read-at _ _ (no_number 1 1 16 rest (f (codes "workers")) is))))

refuses-starts : Refuses (codes "starts")
unfolding settings_of
refuses-starts f rest is =
    read-none _ _ (λ mode. read-none _ _ (λ seed. read-none _ _ (λ moves. read-none _ _ (λ workers.
    read-at _ _ (no_number 1 1 64 rest (f (codes "starts")) is)))))

refuses-rows : Refuses (codes "rows")
unfolding settings_of
refuses-rows f rest is =
    read-none _ _ (λ mode. read-none _ _ (λ seed. read-none _ _ (λ moves. read-none _ _ (λ workers. read-none _ _ (λ starts.
    read-at _ _ (no_number 65536 64 262144 rest (f (codes "rows")) is))))))

refuses-kind : Refuses (codes "kind")
unfolding make_of
refuses-kind f rest is = refuses-make f (λ seed. read-at _ _ (rw is refl))

refuses-size : Refuses (codes "size")
unfolding make_of
refuses-size f rest is = refuses-make f (λ seed. read-none _ _ (λ kind. read-at _ _ (no_number 100 1 256 rest (f (codes "size")) is)))

refuses-objectives : Refuses (codes "objectives")
unfolding make_of
refuses-objectives f rest is =
    refuses-make f (λ seed. read-none _ _ (λ kind. read-none _ _ (λ size. read-at _ _ (no_number 2 2 4 rest (f (codes "objectives")) is))))

refuses-rules : Refuses (codes "rules")
unfolding make_of
refuses-rules f rest is =
    refuses-make f (λ seed. read-none _ _ (λ kind. read-none _ _ (λ size. read-none _ _ (λ objectives. read-at _ _ (no_number 1 1 8 rest (f (codes "rules")) is)))))

-- what holds of each of some names
abbrev AllOf : (Text → Type 0) → List Text → Type 0
AllOf P [] = ⊤
AllOf P (n ∷ names) = P n × AllOf P names

each : (P : Text → Type 0) (names : List Text) → AllOf P names → (name : Text) → has_name names name ≡ true → P name
each P [] all name none = absurd (true≢false (sym none))
each P (n ∷ names) all name has = go (bytes_eq n name) (bytes_eq-Decides n name).0 has (each P names all.1 name)
  where
    go : (b : Bool) → (b ≡ true → n ≡ name) → b || has_name names name ≡ true → (has_name names name ≡ true → P name) → P name
    go true is has next = subst P (is refl) all.0
    go false is has next = next has

refuses : AllOf Refuses (mode_name ∷ options)
refuses = (refuses-mode, (refuses-seed, (refuses-moves, (refuses-workers, (refuses-starts, (refuses-rows, (refuses-kind, (refuses-size, (refuses-objectives, (refuses-rules, tt))))))))))

reads : Reads settings_of options
unfolding settings_of
reads = record {
  unnamed = refl;
  hyphen = λ f name text has is hyphened. each Refuses (mode_name ∷ options) refuses name has f hyphened.0 (is ∙ ap (λ (t : Text). Some t) hyphened.1);
  mode = λ f none. read-at _ _ (rw none refl);
}

-- ---- the command

fault_of-plsnd : (words : List Text) → fault_of plsnd words ≡ level_fault (top options) [] nothing_held words false []
unfolding plsnd
fault_of-plsnd words =
    ap (λ (a : App). built_fault a nothing_held words) built-plsnd ∙ leaf_fault (record { top = top options; subs = [] }) nothing_held words refl

matches_of-plsnd : (words : List Text) → matches_of plsnd words ≡ rows_after (top options).rules [] words
unfolding plsnd
matches_of-plsnd words = ap (λ (a : App). rows_after a.top.rules (names_of a) words) built-plsnd

-- what the parser takes, and reads, is the line
pub line-is :
    (words : List Text) → unless_refused (fault_of plsnd words) (settings_of (λ name. first_of name (matches_of plsnd words))) ≡ line words
unfolding line with_read
line-is words =
    ap₂ (λ (faults : Kinds) (rows : List Row). unless_refused faults (settings_of (λ name. first_of name rows))) (fault_of-plsnd words) (matches_of-plsnd words)
    ∙ words-read settings_of options reads words
