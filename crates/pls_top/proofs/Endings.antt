-- What each ending of a call tells of its answer, and of what was written.
use Rattle.std.proofs.Common.{◌≡◌, ◌⊎◌, ℕ, true, List, Option, None, Some, Result, Ok, Err, [], refl, append-nil, ◌≤◌, ◌<◌, length, IsSome, IsOk, ap, sym, ◌∙◌, subst, inl, inr, arith}
use Rattle.pls_io.specs.Streams.{Rose}
use Rattle.pls_problem.specs.declared.instance.Instance.{Instance}
use Rattle.pls_problem.specs.declared.reader.BadInstance.{BadInstance as Fault}
use Rattle.pls_problem.specs.Reading.{instance}
use Rattle.pls_settings.specs.declared.choices.Mode.{Mode}
use Rattle.pls_settings.specs.declared.choices.Mode.TheVariants.{Search, Make, Demo}
use Rattle.pls_settings.specs.declared.choices.Settings.{Settings}
use Rattle.pls_top.specs.declared.status.Status.{Status}
use Rattle.pls_top.specs.declared.status.Status.TheVariants.{Closed, Stopped, Usage, BadInstance, ReadFault, WriteFault, Full, Memory, TooLong}
use Rattle.pls_top.specs.Answer.{UsageExactly, AsksSource, TooLongExactly, BadInstanceExactly, AnswersDueStatus, ShowsNoFreeRow, Tells, IsAnsweredIn, IsAnswered, IsUndisturbed, IsReadWhole, ReadsAll, Written, WrittenInPart, WritesFaultLine, ReadFailed, ReadLineInPart, WritesDueText, Searches, MadeRun, AnswersWith}
use Rattle.pls_top.specs.Due.{Due, due, reads, most_bytes, read_line, too_long_line}
use Rattle.pls_top.specs.Ending.{Streams, Ends, IsEnding, EndsAsDue}
use Rattle.pls_top.specs.Kept.{Kept}
use Rattle.pls_top.specs.Runs.{SearchRun}
use Rattle.pls_top.proofs.Dues.{at_due, due-other, due-Full, due-same, Searches-same, due-long, Searches-long, no_run}

-- what holds of the status that is due, and of a failed write, holds of the answer
by_ends :
    (X : Status → Type 0) (d : Due) (before after : Streams) (result : Status) → X d.status → X WriteFault → Ends d before after result → X result
by_ends X d before after result at fault (inl all) = subst X (sym all.0) at
by_ends X d before after result at fault (inr part) = subst X (sym part.0) fault

-- a failed write, where the status that is due is another
write_rose :
    (d : Due) (before after : Streams) (result : Status) → (d.status ≡ WriteFault → ⊥) → Ends d before after result → result ≡ WriteFault
    → Rose before.write_faults after.write_faults
write_rose d before after result other (inl all) fault = absurd (other (sym all.0 ∙ fault))
write_rose d before after result other (inr part) fault = part.1

-- a count of write faults that rose tells that a write failed
write_failed :
    (d : Due) (before after : Streams) (result : Status) → before.write_faults < after.write_faults → Ends d before after result → result ≡ WriteFault
write_failed d before after result rose (inl all) = absurd (let same = all.1 in omega (arith, same, rose))
write_failed d before after result rose (inr part) = part.0

-- What holds of what a whole text leaves in the sink, and of what a failed write leaves, holds of both.
by_text :
    (X : Status → Type 0) (d : Due) (before after : Streams) (result : Status) (stood : List ℕ) → before.written ≡ Some stood
    → (Written d.text stood after.written → X d.status) → (WrittenInPart d.text stood after.written → X WriteFault)
    → Ends d before after result → X result
by_text X d before after result stood told whole part (inl all) = subst X (sym all.0) (whole (all.2 stood told))
by_text X d before after result stood told whole part (inr some) = subst X (sym some.0) (part (some.2 stood told))

-- nothing was written
unwritten : (written written' : Option (List ℕ)) → written' ≡ written → (before : List ℕ) → written ≡ Some before → Written [] before written'
unwritten written written' same before told = same ∙ (told ∙ ap (λ (t : List ℕ). Some t) (sym (append-nil before)))

-- the other answers
abbrev too_long : Due
too_long = record { status = TooLong; text = too_long_line }

abbrev unread : Due
unread = record { status = ReadFault; text = read_line }

answers_itself : (d : Status) → AnswersDueStatus d d
answers_itself Closed = refl
answers_itself Stopped = refl
answers_itself Usage = refl
answers_itself BadInstance = refl
answers_itself ReadFault = tt
answers_itself WriteFault = tt
answers_itself Full = refl
answers_itself Memory = tt
answers_itself TooLong = refl

-- a run that was made was made whatever the answer
made_anyway :
    (s : Option Settings) (bytes : List ℕ) (P : Type 0) (journal : Option Kept) (r : SearchRun) → Searches s bytes journal r → (t : Status)
    → MadeRun s bytes P journal r t
made_anyway s bytes P journal r made Closed = made
made_anyway s bytes P journal r made Stopped = made
made_anyway s bytes P journal r made Usage = made
made_anyway s bytes P journal r made BadInstance = made
made_anyway s bytes P journal r made ReadFault = tt
made_anyway s bytes P journal r made WriteFault = λ calm. made
made_anyway s bytes P journal r made Full = made
made_anyway s bytes P journal r made Memory = tt
made_anyway s bytes P journal r made TooLong = made

-- a due text that was written whole is what its status tells
whole_due :
    (P : Type 0) (written : Option (List ℕ)) (stood : List ℕ) (s : Option Settings) (r : SearchRun) (bytes : List ℕ)
    → Written (due s r bytes).text stood written → WritesDueText P (due s r bytes).text (due s r bytes).status stood written
whole_due P written stood =
    at_due (λ s b d. Written d.text stood written → WritesDueText P d.text d.status stood written)
    (λ b w. w) (λ s b text given w. w) (λ s b text given other w. w) (λ s b text given other w. w) (λ s b f search within fault w. w)
    (λ s b search above w. w)

-- where Full is due for a run, the pass that it left shows that no row was free
no_row_in_run :
    (s : Option Settings) (journal : Option Kept) (bytes : List ℕ) (r : SearchRun) → Searches s bytes journal r → (due s r bytes).status ≡ Full
    → ShowsNoFreeRow s journal
no_row_in_run None journal bytes r made full = cc
no_row_in_run (Some s) journal bytes r made full =
    let of = due-Full s r bytes full in
    let run = made of.instance of.searches in
    let kept = run.1 in
    let left = run.3 in
    record {
      settings = s;
      given_is = refl;
      kept = kept;
      keeps = run.2;
      rows = left.rows;
      passes = left.passes;
      shortage = left.full.1 of.ended;
      room = λ one. left.room one of.ended;
    }

module _ (s : Option Settings) (journal : Option Kept) (before after : Streams) (result : Status) where
  -- the words ask for the source, and it failed
  abbrev HasUnread : Type 0
  HasUnread = (reads s ≡ true) × Rose before.read_faults after.read_faults

  -- no read failed
  abbrev IsCalm : Type 0
  IsCalm = Rose before.read_faults after.read_faults → ⊥

  -- What holds of the answer for want of memory, of a failed write, of what is due, of a text that is too long
  -- and of a failed read holds of every answer.
  module _ (X : Status → Type 0) (memory : X Memory) (fault : X WriteFault)
      (as_due : (e : EndsAsDue s journal before after result) → X (due s e.run e.bytes).status)
      (long : reads s ≡ true → ((left : List ℕ) → before.left ≡ Some left → most_bytes < length left) → X TooLong)
      (failed : reads s ≡ true → Rose before.read_faults after.read_faults → X ReadFault) where
    by_ending : IsEnding s journal before after result → X result
    by_ending (inl e) = subst X (sym e.lacks.0) memory
    by_ending (inr (inl e)) = by_ends X (due s e.run e.bytes) before after result (as_due e) fault e.ends
    by_ending (inr (inr (inl e))) = by_ends X too_long before after result (long e.asked e.long) fault e.ends
    by_ending (inr (inr (inr e))) = by_ends X unread before after result (failed e.asked e.rose) fault e.ends

  -- ---- the cause of the answer

  pub usage_exactly : IsEnding s journal before after result → UsageExactly s result
  usage_exactly =
      by_ending (UsageExactly s) tt tt
      (λ e. at_due (λ s bytes d. UsageExactly s d.status) (λ bytes. refl) (λ s bytes text given. refl) (λ s bytes text given other. refl)
      (λ s bytes text given other. refl) (λ s bytes f search short fault. refl) (λ s bytes search above. refl) s e.run e.bytes)
      (λ asked above. some_from_reads s asked) (λ asked rose. some_from_reads s asked)
    where
      some_from_reads : (s : Option Settings) → reads s ≡ true → IsSome s
      some_from_reads None asked = cc
      some_from_reads (Some s) asked = refl

  pub asks_source : IsEnding s journal before after result → AsksSource s result
  asks_source =
      by_ending (AsksSource s) tt tt
      (λ e. at_due (λ s bytes d. AsksSource s d.status) (λ bytes. tt) (λ s bytes text given. tt) (λ s bytes text given other. tt)
      (λ s bytes text given other. tt) (λ s bytes f search short fault. search) (λ s bytes search above. search) s e.run e.bytes)
      (λ asked above. asked) (λ asked rose. asked)

  pub read_fault_rose : IsEnding s journal before after result → result ≡ ReadFault → Rose before.read_faults after.read_faults
  read_fault_rose =
      by_ending (λ t. t ≡ ReadFault → Rose before.read_faults after.read_faults)
      (λ is. cc) (λ is. cc)
      (λ e is. absurd (due-other ReadFault (λ c. cc) (λ c. cc) (λ c. cc) (λ c. cc) (λ c. cc) (λ c. cc) s e.run e.bytes is))
      (λ asked above is. cc) (λ asked rose is. rose)

  pub write_fault_rose : IsEnding s journal before after result → result ≡ WriteFault → Rose before.write_faults after.write_faults
  write_fault_rose (inl e) fault = let h : Memory ≡ WriteFault = sym e.lacks.0 ∙ fault in cc
  write_fault_rose (inr (inl e)) fault =
      write_rose (due s e.run e.bytes) before after result
      (due-other WriteFault (λ c. cc) (λ c. cc) (λ c. cc) (λ c. cc) (λ c. cc) (λ c. cc) s e.run e.bytes) e.ends fault
  write_fault_rose (inr (inr (inl e))) fault = write_rose too_long before after result (λ is. cc) e.ends fault
  write_fault_rose (inr (inr (inr e))) fault = write_rose unread before after result (λ is. cc) e.ends fault

  -- a count of read faults that rose tells that a read failed, and one of write faults that a write did
  pub source_failed : IsEnding s journal before after result → before.read_faults < after.read_faults → ReadFailed result
  source_failed (inl e) rose = absurd (let same = e.steady in omega (arith, same, rose))
  source_failed (inr (inl e)) rose = absurd (let same = e.read.steady in omega (arith, same, rose))
  source_failed (inr (inr (inl e))) rose = absurd (let same = e.steady in omega (arith, same, rose))
  source_failed (inr (inr (inr e))) rose = by_ends ReadFailed unread before after result tt tt e.ends

  pub sink_failed : IsEnding s journal before after result → before.write_faults < after.write_faults → result ≡ WriteFault
  sink_failed (inl e) rose = absurd (let same = e.lacks.1 in omega (arith, same, rose))
  sink_failed (inr (inl e)) rose = write_failed (due s e.run e.bytes) before after result rose e.ends
  sink_failed (inr (inr (inl e))) rose = write_failed too_long before after result rose e.ends
  sink_failed (inr (inr (inr e))) rose = write_failed unread before after result rose e.ends

  -- ---- the answer, where the bytes are told

  pub too_long_exactly :
      IsEnding s journal before after result → (bytes : List ℕ) → before.left ≡ Some bytes → TooLongExactly s bytes result
  too_long_exactly ending bytes told =
      by_ending (TooLongExactly s bytes) tt tt
      (λ e. at_due (λ s b d. (reads s ≡ true → b ≡ bytes) → TooLongExactly s bytes d.status)
      (λ b same. tt)
      (λ s b text given same asked. short b (same asked) (given asked).0)
      (λ s b text given other same asked. short b (same asked) (given asked).0)
      (λ s b text given other same asked. short b (same asked) (given asked).0)
      (λ s b f search within fault same. short b (same search) within)
      (λ s b search above same. subst (λ (x : List ℕ). most_bytes < length x) (same search) above)
      s e.run e.bytes (λ asked. e.read.told asked bytes told))
      (λ asked above. above bytes told) (λ asked rose. tt) ending
    where
      short : (b : List ℕ) → b ≡ bytes → length b ≤ most_bytes → length bytes ≤ most_bytes
      short b same within = subst (λ (x : List ℕ). length x ≤ most_bytes) same within

  pub bad_instance_exactly :
      IsEnding s journal before after result → (bytes : List ℕ) → before.left ≡ Some bytes → BadInstanceExactly s bytes result
  bad_instance_exactly ending bytes told =
      by_ending (BadInstanceExactly s bytes) tt tt
      (λ e. at_due (λ s b d. (reads s ≡ true → b ≡ bytes) → BadInstanceExactly s bytes d.status)
      (λ b same. tt)
      (λ s b text given same asked. good b (same asked) (given asked).1)
      (λ s b text given other same asked. good b (same asked) (given asked).1)
      (λ s b text given other same asked. good b (same asked) (given asked).1)
      (λ s b f search within fault same. rw (ap instance (sym (same search)) ∙ fault) refl)
      (λ s b search above same. tt)
      s e.run e.bytes (λ asked. e.read.told asked bytes told))
      (λ asked above. tt) (λ asked rose. tt) ending
    where
      good : (b : List ℕ) → b ≡ bytes → IsOk (instance b) → IsOk (instance bytes)
      good b same is = subst (λ (x : List ℕ). IsOk (instance x)) same is

  -- without a fault, what was asked for is answered
  pub complete_answer :
      IsEnding s journal before after result → IsUndisturbed s before.left (HasUnread ⊎ Rose before.write_faults after.write_faults)
      → IsAnswered s result
  complete_answer (inl e) calm = subst (IsAnswered s) (sym e.lacks.0) (answered_memory s calm.is_line)
    where
      answered_memory : (s : Option Settings) → IsSome s → IsAnswered s Memory
      answered_memory None is = cc
      answered_memory (Some s) is = tt
  complete_answer (inr (inl e)) calm =
      by_writing (due s e.run e.bytes)
      (at_due (λ s b d. IsSome s → (reads s ≡ true → (length b ≤ most_bytes) × IsOk (instance b)) → IsAnswered s d.status)
      (λ b is good. cc)
      (λ s b text given is good. tt)
      (λ s b text given not_made is good. stopped_answered s.mode not_made)
      (λ s b text given not_made is good. full_answered s.mode not_made)
      (λ s b f search within fault is good. absurd (ok_and_err (instance b) f (good search).1 fault))
      (λ s b search above is good. absurd (let within = (good search).0 in omega (arith, within, above)))
      s e.run e.bytes calm.is_line
      (λ asked. let told = calm.source asked in
      let P : List ℕ → Type 0 = λ x. (length x ≤ most_bytes) × IsOk (instance x) in
      subst P (sym (e.read.told asked told.0 told.1)) (told.2, told.3)))
      e.ends
    where
      stopped_answered : (m : Mode) → (m ≡ Make → ⊥) → IsAnsweredIn m Stopped
      stopped_answered Search other = tt
      stopped_answered Make other = other refl
      stopped_answered Demo other = tt

      full_answered : (m : Mode) → (m ≡ Make → ⊥) → IsAnsweredIn m Full
      full_answered Search other = tt
      full_answered Make other = other refl
      full_answered Demo other = tt

      ok_and_err : (r : Result Instance Fault) (f : Fault) → IsOk r → r ≡ Err f → ⊥
      ok_and_err (Ok i) f is err = cc
      ok_and_err (Err g) f is err = cc

      by_writing : (d : Due) → IsAnswered s d.status → Ends d before after result → IsAnswered s result
      by_writing d answered (inl all) = subst (IsAnswered s) (sym all.0) answered
      by_writing d answered (inr part) = absurd (calm.no_fault (inr part.1))
  complete_answer (inr (inr (inl e))) calm =
      let told = calm.source e.asked in absurd (let within = told.2 in let above = e.long told.0 told.1 in omega (arith, within, above))
  complete_answer (inr (inr (inr e))) calm = absurd (calm.no_fault (inl (e.asked, e.rose)))

  -- Full is answered only where it is due
  full_due : (d : Due) → Ends d before after result → result ≡ Full → d.status ≡ Full
  full_due d (inl all) full = sym all.0 ∙ full
  full_due d (inr part) full = let h : WriteFault ≡ Full = sym part.0 ∙ full in cc

  pub shows_no_free_row : IsEnding s journal before after result → result ≡ Full → ShowsNoFreeRow s journal
  shows_no_free_row (inl e) full = let h : Memory ≡ Full = sym e.lacks.0 ∙ full in cc
  shows_no_free_row (inr (inl e)) full = no_row_in_run s journal e.bytes e.run e.searches (full_due (due s e.run e.bytes) e.ends full)
  shows_no_free_row (inr (inr (inl e))) full = let h : TooLong ≡ Full = full_due too_long e.ends full in cc
  shows_no_free_row (inr (inr (inr e))) full = let h : ReadFault ≡ Full = full_due unread e.ends full in cc

  -- ---- what was read

  pub reads_all : IsEnding s journal before after result → ReadsAll s IsCalm before.left after.left result
  reads_all (inl e) = subst (ReadsAll s IsCalm before.left after.left) (sym e.lacks.0) tt
  reads_all (inr (inl e)) =
      by_ends (ReadsAll s IsCalm before.left after.left) (due s e.run e.bytes) before after result
      (at_due (λ s b d. (reads s ≡ true → IsReadWhole before.left after.left) → ReadsAll s IsCalm before.left after.left d.status)
      (λ b whole. tt) (λ s b text given whole. whole) (λ s b text given other whole. whole) (λ s b text given other whole. whole)
      (λ s b f search within fault whole. whole search) (λ s b search above whole. tt) s e.run e.bytes e.read.none_left)
      (λ asked calm bytes told within. e.read.none_left asked bytes told) e.ends
  reads_all (inr (inr (inl e))) =
      by_ends (ReadsAll s IsCalm before.left after.left) too_long before after result tt
      (λ asked calm bytes told within. absurd (let above = e.long bytes told in omega (arith, within, above))) e.ends
  reads_all (inr (inr (inr e))) =
      by_ends (ReadsAll s IsCalm before.left after.left) unread before after result tt
      (λ asked calm bytes told within. absurd (calm e.rose)) e.ends

  -- ---- what was written

  pub fault_line_written :
      IsEnding s journal before after result → (stood : List ℕ) → before.written ≡ Some stood → WritesFaultLine result stood after.written
  fault_line_written (inl e) stood told =
      subst (λ (t : Status). WritesFaultLine t stood after.written) (sym e.lacks.0) (unwritten before.written after.written e.lacks.2 stood told)
  fault_line_written (inr (inl e)) stood told =
      by_text (λ t. WritesFaultLine t stood after.written) (due s e.run e.bytes) before after result stood told
      (at_due (λ s b d. Written d.text stood after.written → WritesFaultLine d.status stood after.written)
      (λ b w. w) (λ s b text given w. tt) (λ s b text given other w. tt) (λ s b text given other w. tt)
      (λ s b f search within fault w. (b, f, fault, w)) (λ s b search above w. w) s e.run e.bytes)
      (λ part. tt) e.ends
  fault_line_written (inr (inr (inl e))) stood told =
      by_text (λ t. WritesFaultLine t stood after.written) too_long before after result stood told (λ w. w) (λ part. tt) e.ends
  fault_line_written (inr (inr (inr e))) stood told =
      by_text (λ t. WritesFaultLine t stood after.written) unread before after result stood told (λ w. w) (λ part. tt) e.ends

  pub read_line_in_part :
      IsEnding s journal before after result → before.read_faults < after.read_faults
      → (stood : List ℕ) → before.written ≡ Some stood → ReadLineInPart result stood after.written
  read_line_in_part (inl e) rose stood told = absurd (let same = e.steady in omega (arith, same, rose))
  read_line_in_part (inr (inl e)) rose stood told = absurd (let same = e.read.steady in omega (arith, same, rose))
  read_line_in_part (inr (inr (inl e))) rose stood told = absurd (let same = e.steady in omega (arith, same, rose))
  read_line_in_part (inr (inr (inr e))) rose stood told =
      by_text (λ t. ReadLineInPart t stood after.written) unread before after result stood told (λ w. tt) (λ part. part) e.ends

  -- ---- the run that was made, and what is due with it

  module _ (bytes : List ℕ) (tells : Tells s before.left bytes) where
    answers_as_due : (e : EndsAsDue s journal before after result) → AnswersWith s bytes HasUnread journal result before.written after.written e.run
    answers_as_due e =
        let same : reads s ≡ true → e.bytes ≡ bytes = λ asked. e.read.told asked bytes (tells asked) in
        let d = due s e.run e.bytes in
        let told : d ≡ due s e.run bytes = due-same s e.run e.bytes bytes same in
        record {
          made = made_anyway s bytes HasUnread journal e.run (Searches-same s journal e.run e.bytes bytes same e.searches) result;
          status =
              subst (λ (d : Due). AnswersDueStatus d.status result) told
              (by_ends (AnswersDueStatus d.status) d before after result (answers_itself d.status) tt e.ends);
          text = λ stood stands.
              subst (λ (d : Due). WritesDueText HasUnread d.text result stood after.written) told
              (by_text (λ t. WritesDueText HasUnread d.text t stood after.written) d before after result stood stands
              (whole_due HasUnread after.written stood s e.run e.bytes) (λ part. inl part) e.ends);
        }

    answers_too_long :
        reads s ≡ true → most_bytes < length bytes → Ends too_long before after result
        → AnswersWith s bytes HasUnread journal result before.written after.written no_run
    answers_too_long asked above ends =
        let told : too_long ≡ due s no_run bytes = sym (due-long s no_run bytes asked above) in
        record {
          made = made_anyway s bytes HasUnread journal no_run (Searches-long s journal no_run bytes asked above) result;
          status =
              subst (λ (d : Due). AnswersDueStatus d.status result) told (by_ends (AnswersDueStatus TooLong) too_long before after result refl tt ends);
          text = λ stood stands.
              subst (λ (d : Due). WritesDueText HasUnread d.text result stood after.written) told
              (by_text (λ t. WritesDueText HasUnread too_long_line t stood after.written) too_long before after result stood stands
              (λ w. w) (λ part. inl part) ends);
        }

    answers_unread : HasUnread → Ends unread before after result → AnswersWith s bytes HasUnread journal result before.written after.written no_run
    answers_unread failed ends =
        let d = due s no_run bytes in
        record {
          made = by_ends (MadeRun s bytes HasUnread journal no_run) unread before after result tt (λ calm. absurd (calm failed)) ends;
          status = by_ends (AnswersDueStatus d.status) unread before after result tt tt ends;
          text = λ stood stands.
              by_text (λ t. WritesDueText HasUnread d.text t stood after.written) unread before after result stood stands
              (λ w. w) (λ part. inr (failed, part)) ends;
        }

    answers_memory :
        result ≡ Memory → after.written ≡ before.written → AnswersWith s bytes HasUnread journal result before.written after.written no_run
    answers_memory is same =
        let d = due s no_run bytes in
        record {
          made = subst (MadeRun s bytes HasUnread journal no_run) (sym is) tt;
          status = subst (AnswersDueStatus d.status) (sym is) tt;
          text = λ stood stands.
              subst (λ (t : Status). WritesDueText HasUnread d.text t stood after.written) (sym is)
              (unwritten before.written after.written same stood stands);
        }

    pub answers_with :
        IsEnding s journal before after result → (r : SearchRun) × AnswersWith s bytes HasUnread journal result before.written after.written r
    answers_with (inl e) = (no_run, answers_memory e.lacks.0 e.lacks.2)
    answers_with (inr (inl e)) = (e.run, answers_as_due e)
    answers_with (inr (inr (inl e))) = (no_run, answers_too_long e.asked (e.long bytes (tells e.asked)) e.ends)
    answers_with (inr (inr (inr e))) = (no_run, answers_unread (e.asked, e.rose) e.ends)
