-- How the parts of the program end, as endings of the whole.
use Rattle.std.proofs.Common.{◌≡◌, ◌⊎◌, ℕ, true, false, List, [], Option, None, Some, Result, Err, length, ap, sym, ◌∙◌, subst, inl, inr, refl}
use Rattle.std.proofs.lemmas.Bool.{le-leb}
use Rattle.pls_archive.specs.declared.point.Point.{Point}
use Rattle.pls_io.specs.Refusals.{TakesAll}
use Rattle.pls_problem.specs.Made.{made}
use Rattle.pls_problem.specs.Reading.{instance}
use Rattle.pls_problem.specs.Text.{instance_text}
use Rattle.pls_problem.specs.declared.instance.Instance.{Instance}
use Rattle.pls_problem.specs.declared.reader.BadInstance.{BadInstance as Fault}
use Rattle.pls_problem.specs.declared.reader.BadInstance.TheVariants.{Memory}
use Rattle.pls_search.specs.declared.end.End.{End}
use Rattle.pls_settings.specs.declared.choices.Mode.{Mode}
use Rattle.pls_settings.specs.declared.choices.Mode.TheVariants.{Search}
use Rattle.pls_settings.specs.declared.choices.Settings.{Settings}
use Rattle.pls_top.specs.declared.report.Counts.{Counts}
use Rattle.pls_top.specs.declared.search.Outcome.{Outcome}
use Rattle.pls_top.specs.declared.status.Status.{Status}
use Rattle.pls_top.specs.declared.status.Status.TheVariants.{Closed, BadInstance}
use Rattle.pls_top.specs.Report.{report, demo_report}
use Rattle.pls_top.specs.Due.{Due, status_at, instance_line, searched, demonstrated, written_out, due, due_in, due_for, instance_read, searched_in, is_search, reads, most_bytes}
use Rattle.pls_top.specs.Ending.{Streams, Finishes, FinishesIfMemory, FinishesSearch, WasRead, Ends, IsEnding}
use Rattle.pls_top.specs.Kept.{Kept}
use Rattle.pls_top.specs.Runs.{SearchRun, HasRun, Shows, front_of, counts_of}
use Rattle.pls_top.proofs.Dues.{no_run, HasRun-none}

-- ---- what was read

never : (s : Option Settings) → reads s ≡ true → reads s ≡ false → ⊥
never s asked unasked = let h : true ≡ false = sym asked ∙ unasked in cc

-- nothing is read where it is not asked for
WasRead-unasked :
    (s : Option Settings) (bytes : List ℕ) (before after : Streams) → reads s ≡ false → after.read_faults ≡ before.read_faults
    → WasRead s bytes before after
WasRead-unasked s bytes before after unasked steady =
    record {
      steady = steady;
      short = λ asked. absurd (never s asked unasked);
      told = λ asked. absurd (never s asked unasked);
      none_left = λ asked. absurd (never s asked unasked);
    }

WasRead-whole :
    (s : Option Settings) (text : List ℕ) (before after : Streams) → after.read_faults ≡ before.read_faults
    → TakesAll most_bytes before.left text after.left → WasRead s text before after
WasRead-whole s text before after steady all =
    record { steady = steady; short = λ asked. all.within; told = λ asked. all.whole; none_left = λ asked. all.none_left }

-- ---- the endings

module _ (before after : Streams) (result : Status) where
  -- the same of the streams
  abbrev EndsSearch : Settings → Option Instance → Option Kept → (SearchRun → Due) → Type 0
  EndsSearch s searched journal d =
      FinishesSearch s searched journal d before.write_faults after.write_faults before.written after.written result

  -- with what is due in the mode
  ends_in_mode :
      (s : Settings) (journal : Option Kept) (m : Mode) (bytes : List ℕ) → s.mode ≡ m → WasRead (Some s) bytes before after
      → EndsSearch s (searched_in m s bytes) journal (λ r. due_in m s r bytes) → IsEnding (Some s) journal before after result
  ends_in_mode s journal m bytes is read ends =
      by_memory (subst (λ (x : Mode). EndsSearch s (searched_in x s bytes) journal (λ r. due_in x s r bytes)) (sym is) ends)
    where
      by_memory : EndsSearch s (searched_in s.mode s bytes) journal (λ r. due_in s.mode s r bytes) → IsEnding (Some s) journal before after result
      by_memory (inl lacks) = inl (record { steady = read.steady; lacks = lacks })
      by_memory (inr (run, made, ends)) = inr (inl (record { bytes = bytes; run = run; read = read; searches = made; ends = ends }))

  -- a search of what was read
  pub ends_searched :
      (s : Settings) (journal : Option Kept) (text read : List ℕ) → text ≡ read → s.mode ≡ Search
      → after.read_faults ≡ before.read_faults → TakesAll most_bytes before.left read after.left
      → EndsSearch s (instance_read (instance text)) journal (λ r. due_for r (instance text)) → IsEnding (Some s) journal before after result
  ends_searched s journal text read same mode steady all ends =
      let here : EndsSearch s (instance_read (instance read)) journal (λ r. due_for r (instance read)) =
      subst (λ (t : List ℕ). EndsSearch s (instance_read (instance t)) journal (λ r. due_for r (instance t))) same ends in
      ends_in_mode s journal Search read mode (WasRead-whole (Some s) read before after steady all)
      (rw (le-leb (length read) most_bytes all.within) here)

  -- what is due in another mode, in which nothing is read
  pub ends_unread :
      (s : Settings) (journal : Option Kept) (m : Mode) → s.mode ≡ m → is_search m ≡ false → after.read_faults ≡ before.read_faults
      → EndsSearch s (searched_in m s []) journal (λ r. due_in m s r []) → IsEnding (Some s) journal before after result
  ends_unread s journal m is unasked steady ends =
      ends_in_mode s journal m [] is (WasRead-unasked (Some s) [] before after (ap is_search is ∙ unasked) steady) ends

  -- what is due where the words are no command line
  pub ends_as_usage :
      (given : Option Settings) (journal : Option Kept) → given ≡ None → after.read_faults ≡ before.read_faults
      → Ends (due None no_run []) before after result → IsEnding given journal before after result
  ends_as_usage given journal none steady ends =
      subst (λ (x : Option Settings). IsEnding x journal before after result) (sym none)
      (inr (inl (record { bytes = []; run = no_run; read = WasRead-unasked None [] before after refl steady; searches = tt; ends = ends })))

  -- of words with these settings
  pub ends_with :
      (given s : Option Settings) (journal : Option Kept) → given ≡ s → IsEnding s journal before after result
      → IsEnding given journal before after result
  ends_with given s journal same ending = subst (λ (x : Option Settings). IsEnding x journal before after result) (sym same) ending

-- ---- what the parts of the program write

module _ (faults faults' : ℕ) (written written' : Option (List ℕ)) (result : Status) where
  abbrev IsFinished : Status → List ℕ → Type 0
  IsFinished t x = Finishes (record { status = t; text = x }) faults faults' written written' result

  -- What is due for an outcome is due for the run that it shows.
  finishes_shown :
      (text_of : List Point → Counts → End → List ℕ) (i : Instance) (r : SearchRun) (outcome : Outcome) → Shows i r outcome
      → (status : Status) → status ≡ status_at outcome.end → (text : List ℕ) → text ≡ text_of outcome.front outcome.counts outcome.end
      → IsFinished status text → IsFinished (status_at r.end) (text_of (front_of r) (counts_of i r) r.end)
  finishes_shown text_of i r outcome shows status is_status text is_text finishes =
      let same =
      is_text
      ∙ (ap (λ front. text_of front outcome.counts outcome.end) shows.front
      ∙ (ap (λ counts. text_of (front_of r) counts outcome.end) shows.counts
      ∙ ap (λ end. text_of (front_of r) (counts_of i r) end) shows.end)) in
      subst (IsFinished (status_at r.end)) same (subst (λ t. IsFinished t text) (is_status ∙ ap status_at shows.end) finishes)

  pub finishes_searched :
      (s : Settings) (i : Instance) (journal : Option Kept) (outcome : Outcome)
      → (r : SearchRun) × HasRun s (Some i) journal r × Shows i r outcome
      → (status : Status) → status ≡ status_at outcome.end
      → (text : List ℕ) → text ≡ report i outcome.front outcome.counts outcome.end
      → IsFinished status text → FinishesSearch s (Some i) journal (searched i) faults faults' written written' result
  unfolding searched
  finishes_searched s i journal outcome (r, made, shows) status is_status text is_text finishes =
      inr (r, made, finishes_shown (report i) i r outcome shows status is_status text is_text finishes)

  pub finishes_demonstrated :
      (s : Settings) (i : Instance) → i ≡ made s.make → (journal : Option Kept) (outcome : Outcome)
      → (r : SearchRun) × HasRun s (Some i) journal r × Shows i r outcome
      → (status : Status) → status ≡ status_at outcome.end
      → (text : List ℕ) → text ≡ demo_report i s.seed outcome.front outcome.counts outcome.end
      → IsFinished status text → FinishesSearch s (Some (made s.make)) journal (demonstrated s) faults faults' written written' result
  unfolding demonstrated
  finishes_demonstrated s i is_made journal outcome (r, has_run, shows) status is_status text is_text finishes =
      inr (
        r,
        subst (λ (k : Instance). HasRun s (Some k) journal r) is_made has_run,
        subst (λ (k : Instance). IsFinished (status_at r.end) (demo_report k s.seed (front_of r) (counts_of k r) r.end)) is_made
            (finishes_shown (demo_report i s.seed) i r outcome shows status is_status text is_text finishes),
      )

  pub finishes_made :
      (s : Settings) (text : List ℕ) → text ≡ instance_text (made s.make) → IsFinished Closed text
      → FinishesIfMemory (written_out s) faults faults' written written' result
  unfolding written_out
  finishes_made s text is_text finishes = inr (subst (IsFinished Closed) is_text finishes)

  -- what is due where nothing is searched
  pub finishes_unsearched :
      (s : Settings) (journal : Option Kept) (d : Due) → FinishesIfMemory d faults faults' written written' result
      → FinishesSearch s None journal (λ r. d) faults faults' written written' result
  finishes_unsearched s journal d (inl lacks) = inl lacks
  finishes_unsearched s journal d (inr ends) = inr (no_run, HasRun-none s None journal no_run refl, ends)

  pub finishes_faulty :
      (s : Settings) (journal : Option Kept) (read : Result Instance Fault) (f : Fault) → (f ≡ Memory) ⊎ (read ≡ Err f) → (f ≡ Memory → ⊥)
      → (text : List ℕ) → text ≡ instance_line f → IsFinished BadInstance text
      → FinishesSearch s (instance_read read) journal (λ r. due_for r read) faults faults' written written' result
  finishes_faulty s journal read f (inl memory) other text is_text finishes = absurd (other memory)
  finishes_faulty s journal read f (inr is) other text is_text finishes =
      subst (λ (x : Result Instance Fault). FinishesSearch s (instance_read x) journal (λ r. due_for r x) faults faults' written written' result)
      (sym is)
      (finishes_unsearched s journal (record { status = BadInstance; text = instance_line f }) (inr (subst (IsFinished BadInstance) is_text finishes)))
