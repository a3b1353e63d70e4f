-- What may be due, by cases, and for which bytes.
use Rattle.std.proofs.Common.{◌≡◌, ℕ, Bool, true, false, List, Option, None, Some, Result, Ok, Err, [], refl, ◌≤◌, ◌<◌, length, IsOk, ap, sym, ◌∙◌, subst, nat_le, le-leb, if◌then◌else◌}
use Rattle.std.proofs.lemmas.Bool.{cond_both, leb-true, leb-false, lt-leb}
use Rattle.pls_io.specs.Refusals.{TakesAll}
use Rattle.pls_problem.specs.declared.instance.Instance.{Instance}
use Rattle.pls_problem.specs.declared.reader.BadInstance.{BadInstance as Fault}
use Rattle.pls_problem.specs.Made.{made}
use Rattle.pls_problem.specs.Reading.{instance}
use Rattle.pls_search.specs.declared.end.End.{End}
use Rattle.pls_search.specs.declared.end.End.TheVariants as end
use Rattle.pls_settings.specs.declared.choices.Mode.{Mode}
use Rattle.pls_settings.specs.declared.choices.Mode.TheVariants.{Search, Make, Demo}
use Rattle.pls_settings.specs.declared.choices.Settings.{Settings}
use Rattle.pls_top.specs.declared.status.Status.{Status}
use Rattle.pls_top.specs.declared.status.Status.TheVariants.{Closed, Stopped, Usage, BadInstance, Full, TooLong}
use Rattle.pls_top.specs.Answer.{code_of, Searches, Tells}
use Rattle.pls_top.specs.Due.{Due, status_at, searched, demonstrated, written_out, due_for, due_in, due, instance_read, searched_in, searched_for, is_search, reads, most_bytes, usage_line, too_long_line, instance_line}
use Rattle.pls_top.specs.Kept.{Kept}
use Rattle.pls_top.specs.Runs.{SearchRun, HasRun}

-- it is a search whose bytes are an instance, or what asks for no bytes
abbrev pub IsGiven : Settings → List ℕ → Type 0
IsGiven s bytes = is_search s.mode ≡ true → (length bytes ≤ most_bytes) × IsOk (instance bytes)

-- other modes are no search
no_search : (s : Settings) (m : Mode) → s.mode ≡ m → is_search m ≡ false → (P : Type 0) → is_search s.mode ≡ true → P
no_search s m is other P search = absurd (true_and_false _ search (ap is_search is ∙ other))
  where
    true_and_false : (b : Bool) → b ≡ true → b ≡ false → ⊥
    true_and_false b e f = let h : true ≡ false = sym e ∙ f in cc

-- What holds of each thing that may be due holds of what is.
module _ (C : Option Settings → List ℕ → Due → Type 0)
    (usage : (bytes : List ℕ) → C None bytes (record { status = Usage; text = usage_line }))
    (closed : (s : Settings) (bytes text : List ℕ) → IsGiven s bytes → C (Some s) bytes (record { status = Closed; text = text }))
    (stopped : (s : Settings) (bytes text : List ℕ) → IsGiven s bytes → (s.mode ≡ Make → ⊥) → C (Some s) bytes (record { status = Stopped; text = text }))
    (full : (s : Settings) (bytes text : List ℕ) → IsGiven s bytes → (s.mode ≡ Make → ⊥) → C (Some s) bytes (record { status = Full; text = text }))
    (bad : (s : Settings) (bytes : List ℕ) (f : Fault) → is_search s.mode ≡ true → length bytes ≤ most_bytes → instance bytes ≡ Err f
    → C (Some s) bytes (record { status = BadInstance; text = instance_line f }))
    (long : (s : Settings) (bytes : List ℕ) → is_search s.mode ≡ true → most_bytes < length bytes
    → C (Some s) bytes (record { status = TooLong; text = too_long_line })) where
  at_end :
      (s : Settings) (bytes text : List ℕ) → IsGiven s bytes → (s.mode ≡ Make → ⊥) → (e : End)
      → C (Some s) bytes (record { status = status_at e; text = text })
  at_end s bytes text given other end.Closed = closed s bytes text given
  at_end s bytes text given other end.Stopped = stopped s bytes text given other
  at_end s bytes text given other end.Full = full s bytes text given other

  at_reading :
      (s : Settings) (r : SearchRun) (bytes : List ℕ) → s.mode ≡ Search → length bytes ≤ most_bytes → (read : Result Instance Fault)
      → instance bytes ≡ read → C (Some s) bytes (due_for r read)
  unfolding searched
  at_reading s r bytes is short (Ok i) read =
      at_end s bytes (searched i r).text (λ search. (short, rw read refl)) (λ make. let h : Search ≡ Make = sym is ∙ make in cc) r.end
  at_reading s r bytes is short (Err f) read = bad s bytes f (ap is_search is) short read

  in_mode : (s : Settings) (r : SearchRun) (bytes : List ℕ) (m : Mode) → s.mode ≡ m → C (Some s) bytes (due_in m s r bytes)
  unfolding written_out demonstrated
  in_mode s r bytes Search is =
      cond_both (nat_le (length bytes) most_bytes) (due_for r (instance bytes)) (record { status = TooLong; text = too_long_line }) (C (Some s) bytes)
      (λ short. at_reading s r bytes is (leb-true (length bytes) most_bytes short) (instance bytes) refl)
      (λ above. long s bytes (ap is_search is) (leb-false (length bytes) most_bytes above))
  in_mode s r bytes Make is = closed s bytes (written_out s).text (no_search s Make is refl _)
  in_mode s r bytes Demo is =
      at_end s bytes (demonstrated s r).text (no_search s Demo is refl _) (λ make. let h : Demo ≡ Make = sym is ∙ make in cc) r.end

  pub at_due : (s : Option Settings) (r : SearchRun) (bytes : List ℕ) → C s bytes (due s r bytes)
  at_due None r bytes = usage bytes
  at_due (Some s) r bytes = in_mode s r bytes s.mode refl

-- what is due is none of these statuses
pub due-other :
    (t : Status) → (code_of t ≡ 0 → ⊥) → (code_of t ≡ 1 → ⊥) → (code_of t ≡ 2 → ⊥) → (code_of t ≡ 3 → ⊥) → (code_of t ≡ 6 → ⊥) → (code_of t ≡ 8 → ⊥)
    → (s : Option Settings) (r : SearchRun) (bytes : List ℕ) → (due s r bytes).status ≡ t → ⊥
due-other t c0 c1 c2 c3 c6 c8 =
    at_due (λ s bytes d. d.status ≡ t → ⊥) (λ bytes is. c2 (sym (ap code_of is))) (λ s bytes text given is. c0 (sym (ap code_of is)))
    (λ s bytes text given other is. c1 (sym (ap code_of is))) (λ s bytes text given other is. c6 (sym (ap code_of is)))
    (λ s bytes f search short fault is. c3 (sym (ap code_of is))) (λ s bytes search above is. c8 (sym (ap code_of is)))

-- where Full is due, an instance is searched, and the run ended so
pub record SearchesToFull (s : Settings) (bytes : List ℕ) (r : SearchRun) : Type 0 where
  pub instance : Instance
  pub searches : searched_in s.mode s bytes ≡ Some instance
  pub ended : r.end ≡ end.Full

pub due-Full : (s : Settings) (r : SearchRun) (bytes : List ℕ) → (due_in s.mode s r bytes).status ≡ Full → SearchesToFull s bytes r
unfolding searched demonstrated written_out
due-Full s r bytes full = let of = in_mode s.mode full in record { instance = of.0; searches = of.1; ended = of.2 }
  where
    ended_full : (e : End) → status_at e ≡ Full → e ≡ end.Full
    ended_full end.Closed is = cc
    ended_full end.Stopped is = cc
    ended_full end.Full is = refl

    by_reading : (read : Result Instance Fault) → (due_for r read).status ≡ Full → (i : Instance) × (instance_read read ≡ Some i) × (r.end ≡ end.Full)
    by_reading (Ok i) is = (i, refl, ended_full r.end is)
    by_reading (Err f) is = cc

    by_length :
        (short : Bool) → (if short then due_for r (instance bytes) else record { status = TooLong; text = too_long_line }).status ≡ Full
        → (i : Instance) × ((if short then instance_read (instance bytes) else None) ≡ Some i) × (r.end ≡ end.Full)
    by_length true is = by_reading (instance bytes) is
    by_length false is = cc

    in_mode : (m : Mode) → (due_in m s r bytes).status ≡ Full → (i : Instance) × (searched_in m s bytes ≡ Some i) × (r.end ≡ end.Full)
    in_mode Search is = by_length (nat_le (length bytes) most_bytes) is
    in_mode Make is = cc
    in_mode Demo is = (made s.make, refl, ended_full r.end is)

-- other bytes matter only where the words ask for them
unless_asked :
    {A : Type 0} (f : Mode → Settings → List ℕ → A) → ((m : Mode) → is_search m ≡ false → (s : Settings) (bytes told : List ℕ) → f m s bytes ≡ f m s told)
    → (s : Settings) (bytes told : List ℕ) → (is_search s.mode ≡ true → bytes ≡ told) → f s.mode s bytes ≡ f s.mode s told
unless_asked f unasked s bytes told same = by_asking (is_search s.mode) refl
  where
    by_asking : (b : Bool) → is_search s.mode ≡ b → f s.mode s bytes ≡ f s.mode s told
    by_asking true is = ap (f s.mode s) (same is)
    by_asking false is = unasked s.mode is s bytes told

pub due-same : (s : Option Settings) (r : SearchRun) (bytes told : List ℕ) → (reads s ≡ true → bytes ≡ told) → due s r bytes ≡ due s r told
due-same None r bytes told same = refl
due-same (Some s) r bytes told same = unless_asked (λ m s bytes. due_in m s r bytes) unasked s bytes told same
  where
    unasked : (m : Mode) → is_search m ≡ false → (s : Settings) (bytes told : List ℕ) → due_in m s r bytes ≡ due_in m s r told
    unasked Search other s bytes told = cc
    unasked Make other s bytes told = refl
    unasked Demo other s bytes told = refl

pub Searches-same :
    (s : Option Settings) (journal : Option Kept) (r : SearchRun) (bytes told : List ℕ) → (reads s ≡ true → bytes ≡ told)
    → Searches s bytes journal r → Searches s told journal r
Searches-same None journal r bytes told same made = tt
Searches-same (Some s) journal r bytes told same made =
    subst (λ (i : Option Instance). HasRun s i journal r) (unless_asked searched_in unasked s bytes told same) made
  where
    unasked : (m : Mode) → is_search m ≡ false → (s : Settings) (bytes told : List ℕ) → searched_in m s bytes ≡ searched_in m s told
    unasked Search other s bytes told = cc
    unasked Make other s bytes told = refl
    unasked Demo other s bytes told = refl

-- of a text that is too long, that is due, and nothing is searched
pub due-long :
    (s : Option Settings) (r : SearchRun) (bytes : List ℕ) → reads s ≡ true → most_bytes < length bytes
    → due s r bytes ≡ record { status = TooLong; text = too_long_line }
due-long None r bytes asked long = cc
due-long (Some s) r bytes asked long = in_mode_long s.mode asked
  where
    in_mode_long : (m : Mode) → is_search m ≡ true → due_in m s r bytes ≡ record { status = TooLong; text = too_long_line }
    in_mode_long Search asked = rw (lt-leb (length bytes) most_bytes long) refl
    in_mode_long Make asked = cc
    in_mode_long Demo asked = cc

-- where nothing is searched, any run will do
pub HasRun-none : (s : Settings) (searched : Option Instance) (journal : Option Kept) (r : SearchRun) → searched ≡ None → HasRun s searched journal r
HasRun-none s searched journal r none i is = let h : None ≡ Some i = sym none ∙ is in cc

pub Searches-long :
    (s : Option Settings) (journal : Option Kept) (r : SearchRun) (bytes : List ℕ) → reads s ≡ true → most_bytes < length bytes
    → Searches s bytes journal r
Searches-long None journal r bytes asked long = tt
Searches-long (Some s) journal r bytes asked long = HasRun-none s (searched_in s.mode s bytes) journal r (in_mode_long s.mode asked)
  where
    in_mode_long : (m : Mode) → is_search m ≡ true → searched_in m s bytes ≡ None
    in_mode_long Search asked = rw (lt-leb (length bytes) most_bytes long) refl
    in_mode_long Make asked = cc
    in_mode_long Demo asked = cc

-- a run that made nothing
abbrev pub no_run : SearchRun
no_run = record { accepting = 0; first = record { starts = []; explorations = []; last = [] }; others = []; end = end.Closed }

-- ---- where nothing is searched

-- a demonstration searches, whatever the bytes
pub demo_searches : (given : Option Settings) (s : Settings) (bytes : List ℕ) → given ≡ Some s → s.mode ≡ Demo → searched_for given bytes ≡ None → ⊥
demo_searches given s bytes is mode none =
    let of : searched_for (Some s) bytes ≡ None = subst (λ (x : Option Settings). searched_for x bytes ≡ None) is none in
    let h : Some (made s.make) ≡ None = subst (λ (m : Mode). searched_in m s bytes ≡ None) mode of in cc

-- so does a search of an instance that was read
pub read_searches : (read : Result Instance Fault) (i : Instance) → read ≡ Ok i → instance_read read ≡ None → ⊥
read_searches read i is none = let h : Some i ≡ None = sym (ap instance_read is) ∙ none in cc

-- where what the source tells is no instance to search, the text that was read is none
pub unsearched_text :
    (s : Settings) (left left' : Option (List ℕ)) (text bytes : List ℕ) → s.mode ≡ Search → TakesAll most_bytes left text left' → Tells (Some s) left bytes
    → searched_for (Some s) bytes ≡ None → instance_read (instance text) ≡ None
unsearched_text s left left' text bytes mode all tells none =
    let same : text ≡ bytes = all.whole bytes (tells (ap is_search mode)) in
    let search : searched_in Search s bytes ≡ None = subst (λ (m : Mode). searched_in m s bytes ≡ None) mode none in
    let read : searched_in Search s text ≡ None = subst (λ (t : List ℕ). searched_in Search s t ≡ None) (sym same) search in
    sym (ap (λ (b : Bool). if b then instance_read (instance text) else None) (le-leb (length text) most_bytes all.within)) ∙ read
