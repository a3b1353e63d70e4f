-- The run that the pass of a search holds is the one that the program tells of.
use Rattle.std.proofs.Common.{◌≡◌, ◌≢◌, ◌↔◌, ◌⊎◌, ℕ, ◌+◌, ◌*◌, ◌<◌, List, [], ◌∷◌, length, Option, Some, ap, sym, subst, ◌∙◌, inl, inr, append-nil, refl, arith}
use Rattle.std.specs.List.{range_with_len}
use Rattle.std.proofs.lemmas.List.{length-map}
use Rattle.std.proofs.lemmas.List.FromFn.{length-map-range_with_len}
use Rattle.std.proofs.lemmas.Option.{same_Some}
use Rattle.pls_archive.specs.declared.point.Point.{Point}
use Rattle.pls_archive.specs.History.{accepting}
use Rattle.pls_archive.specs.NondominatedRule.{nondominated-IsRule}
use Rattle.pls_archive.specs.Reply.{members, nondominated}
use Rattle.pls_archive.specs.declared.call.Entry.{Entry}
use Rattle.pls_archive.specs.View.{lists_of}
use Rattle.pls_archive.specs.Explorations.{CallerRun, entries_of_run, explored, evaluated, accepted_count}
use Rattle.pls_archive.specs.SearchRun.{IsSearchRun, IsClosed, IsStopped}
use Rattle.pls_archive.specs.Sequential.{InOrder, sequential_run}
use Rattle.pls_archive.proofs.Counted.{counts_accepting}
use Rattle.pls_archive.proofs.SequentialOnly.{only_sequential_run}
use Rattle.pls_archive.proofs.ToldFront.{tells_front}
use Rattle.nd_update.specs.Counted.{KeepsShortage}
use Rattle.pls_problem.specs.Instance.{objectives}
use Rattle.pls_problem.specs.declared.instance.Instance.{Instance}
use Rattle.pls_search.specs.declared.end.End.{End}
use Rattle.pls_search.specs.declared.end.End.TheVariants.{Closed, Stopped, Full}
use Rattle.pls_search.specs.Neighbours.{neighbours_of}
use Rattle.pls_search.specs.Outcomes.{EndsAs, HoldsRun, Finds}
use Rattle.pls_settings.specs.declared.choices.Settings.{Settings}
use Rattle.pls_top.specs.declared.report.Counts.{Counts}
use Rattle.pls_top.specs.Kept.{Kept}
use Rattle.pls_top.specs.Runs.{SearchRun, starts_of, workers_of, front_of, IsRunOf, IsLeft, HasRun, Shows}

-- ---- a run of one caller that explores in order is the sequential run

module _ (near : Point → List Point) (starts : List Point) (moves : ℕ) where
  closed_or_stopped :
      (end : End) (first : CallerRun) → end ≢ Full → EndsAs near starts moves end first []
      → IsClosed near starts first [] ⊎ IsStopped near starts moves first []
  closed_or_stopped Closed first other ends = inl ends
  closed_or_stopped Stopped first other ends = inr ends
  closed_or_stopped Full first other ends = absurd (other refl)

  one_is_sequential :
      (n : ℕ) (end : End) (first : CallerRun) (others : List CallerRun) → length (first ∷ others) ≡ 1 → IsSearchRun nondominated near starts moves n first others
      → EndsAs near starts moves end first others → end ≢ Full → InOrder first.starts 0 first.explorations
      → first ≡ sequential_run nondominated near starts moves
  one_is_sequential n end first [] one run ends other ordered =
      let count = ap length (append-nil (accepting (entries_of_run first))) in
      let counted : n ≡ length (accepting (entries_of_run first)) = sym (counts_accepting nondominated n (entries_of_run first ∷ []) run.consistent) ∙ count in
      only_sequential_run nondominated near starts moves first
      (record {
        run = subst (λ (k : ℕ). IsSearchRun nondominated near starts moves k first []) counted run;
        in_order = ordered;
        ends = closed_or_stopped end first other ends;
      })
  one_is_sequential n end first (second ∷ others) one run ends other ordered = absurd (omega arith)

-- ---- what the pass holds

module _ (s : Settings) (i : Instance) (kept : Kept) (end : End) (points : List Point)
    (holds : HoldsRun nondominated i (starts_of s i) s.moves (workers_of s) kept.view end points) where
  abbrev pub found_run : SearchRun
  found_run = record { accepting = length kept.view.observed; first = holds.first; others = holds.others; end = end }

  as_many : length (holds.first ∷ holds.others) ≡ workers_of s
  as_many =
      let n = workers_of s in
      sym (length-map (holds.first ∷ holds.others) entries_of_run)
      ∙ (sym (ap length holds.lists)
      ∙ (length-map (lists_of kept.view) (λ (list : ℕ × List Entry). list.1)
      ∙ (sym (length-map (lists_of kept.view) (λ (list : ℕ × List Entry). list.0))
      ∙ (ap length holds.callers ∙ (sym (length-map (range_with_len 0 n) (λ (c : ℕ). c)) ∙ length-map-range_with_len (λ (c : ℕ). c) 0 n)))))

  pub found_front : points ≡ front_of found_run
  found_front =
      let told = sym holds.told ∙ tells_front members nondominated (neighbours_of i) nondominated-IsRule (starts_of s i) s.moves (length kept.view.observed) holds.first holds.others holds.run in
      cc

  found_run-IsRunOf : IsRunOf s i found_run
  found_run-IsRunOf = record {
    workers = as_many;
    run = holds.run;
    ends = holds.ends;
    points = holds.points;
    sequential = λ one other.
        one_is_sequential (neighbours_of i) (starts_of s i) s.moves (length kept.view.observed) end holds.first holds.others (as_many ∙ one) holds.run holds.ends other
        (holds.in_order one);
  }

  module _ (shape : kept.known.shape ≡ objectives i) (rows : kept.known.rows ≡ s.rows) (passes : kept.known.passes ≡ workers_of s)
      (full : KeepsShortage kept.known ↔ (end ≡ Full)) (room : workers_of s ≡ 1 → end ≡ Full → s.rows < 8 * (s.starts + s.moves) + 64) where
    found_run-IsLeft : IsLeft s i kept found_run
    found_run-IsLeft = record {
      consistent = holds.consistent;
      callers = holds.callers;
      lists = holds.lists;
      accepting = refl;
      shape = shape;
      rows = rows;
      passes = passes;
      full = full;
      room = room;
    }

    pub found_run-HasRun : (journal : Option Kept) → journal ≡ Some kept → HasRun s (Some i) journal found_run
    found_run-HasRun journal keeps j is =
        let same : i ≡ j = same_Some i j is in
        subst (λ (k : Instance). IsRunOf s k found_run × (x : Kept) × (journal ≡ Some x) × IsLeft s k x found_run) same
        (found_run-IsRunOf, kept, keeps, found_run-IsLeft)

  -- with these counts
  pub found_run-Shows :
      (a b c : ℕ) → a ≡ explored (neighbours_of i) (holds.first ∷ holds.others) → b ≡ evaluated (holds.first ∷ holds.others)
      → c ≡ accepted_count (holds.first ∷ holds.others)
      → Shows i found_run (record { front = points; counts = record { explored = a; evaluated = b; accepted = c }; end = end })
  found_run-Shows a b c whole neighbours accepted =
      let runs = holds.first ∷ holds.others in
      record {
        front = found_front;
        counts =
            ap (λ (n : ℕ). counts n b c) whole
            ∙ (ap (λ (n : ℕ). counts (explored (neighbours_of i) runs) n c) neighbours
            ∙ ap (λ (n : ℕ). counts (explored (neighbours_of i) runs) (evaluated runs) n) accepted);
        end = refl;
      }
    where
      counts : ℕ → ℕ → ℕ → Counts
      counts a b c = record { explored = a; evaluated = b; accepted = c }

-- ---- what a search tells

pub found :
    (s : Settings) (i : Instance) (starts : List Point) (moves started : ℕ) (kept : Kept) (end : End) (points : List Point) (a b c : ℕ)
    → starts ≡ starts_of s i → moves ≡ s.moves → started ≡ workers_of s
    → kept.known.shape ≡ objectives i → kept.known.rows ≡ s.rows → kept.known.passes ≡ started → KeepsShortage kept.known ↔ (end ≡ Full)
    → (workers_of s ≡ 1 → end ≡ Full → s.rows < 8 * (s.starts + s.moves) + 64)
    → (journal : Option Kept) → journal ≡ Some kept → Finds nondominated i starts moves started kept.view end points a b c
    → (r : SearchRun) × HasRun s (Some i) journal r
    × Shows i r (record { front = points; counts = record { explored = a; evaluated = b; accepted = c }; end = end })
found s i starts moves started kept end points a b c from budget workers shape rows passes full room journal keeps finds =
    let first = subst (λ (x : List Point). Finds nondominated i x moves started kept.view end points a b c) from finds in
    let second = subst (λ (x : ℕ). Finds nondominated i (starts_of s i) x started kept.view end points a b c) budget first in
    let third = subst (λ (x : ℕ). Finds nondominated i (starts_of s i) s.moves x kept.view end points a b c) workers second in
    let counts = third.1 in (
      found_run s i kept end points third.0,
      found_run-HasRun s i kept end points third.0 shape rows (passes ∙ workers) full room journal keeps,
      found_run-Shows s i kept end points third.0 a b c counts.explored_are counts.evaluated_are counts.accepted_are,
    )
