-- The sequential run is a search run of one caller that explores in order, closed or stopped.
use Rattle.std.proofs.Common.{◌≡◌, ◌⊎◌, ℕ, ◌+◌, ◌<◌, ◌≤◌, true, List, [], ◌∷◌, ◌++◌, length, map, refl, ap, sym, subst, ◌∙◌, append_assoc, drop_of_length-le, arith, length-append, inl, inr}
use Rattle.std.specs.List.{flat_map}
use Rattle.std.proofs.lemmas.List.{append-nil, length-map, take_all}
use Rattle.pls_archive.specs.declared.point.Point.{Point}
use Rattle.pls_archive.specs.declared.call.Call.{Call}
use Rattle.pls_archive.specs.declared.call.Call.TheVariants.{Update, Snapshot}
use Rattle.pls_archive.specs.declared.call.Reply.{Reply}
use Rattle.pls_archive.specs.declared.call.Entry.{Entry}
use Rattle.pls_archive.specs.Lists.{Every, total, how_many, one_if, AsOften, IsAmong}
use Rattle.pls_archive.specs.History.{submissions, accepting, next_entry, submitting, IsLegal}
use Rattle.pls_archive.specs.Explorations.{Task, Exploration, CallerRun, tasks, entries_of, entries_of_run, explorations_of, explored_tasks, tasks_of, evaluated_in, is_whole, is_cut}
use Rattle.pls_archive.specs.SearchRun.{missing, IsSearchRun, IsClosed, IsStopped}
use Rattle.pls_archive.specs.Sequential.{IsSequentialRun, sequential_run}
use Rattle.pls_archive.specs.RunLaws.{RunsSequentially}
use Rattle.pls_archive.proofs.Every.{Every-append, total-append}
use Rattle.pls_archive.proofs.SequentialCalls.{calls-calling, length-calling, named-calling, ContinuesLegally-calling, ContinuesLegally-append, tasks-append, length-tasks}
use Rattle.pls_archive.proofs.SequentialLawful.{length-accepting, lawful-one}
use Rattle.pls_archive.proofs.SequentialRuns.{from-each, from-cut, from-InOrder, from-within, from-legal, from-named}
use Rattle.pls_archive.proofs.SequentialEnds.{tasks-in_order, HaveEnded, from-HaveEnded}

-- ---- the only caller's explorations and tasks

pub explorations-one : (r : CallerRun) → explorations_of (r ∷ []) ≡ r.explorations
explorations-one r = append-nil r.explorations

pub explored_tasks-one : (r : CallerRun) → explored_tasks (r ∷ []) ≡ map (λ x. x.task) r.explorations
explored_tasks-one r = ap (map (λ (x : Exploration). x.task)) (explorations-one r)

pub tasks-one : (r : CallerRun) → tasks r.last ≡ [] → tasks_of (r ∷ []) ≡ tasks (r.starts ++ flat_map entries_of r.explorations)
tasks-one r none =
    append-nil (tasks (entries_of_run r))
    ∙ (ap tasks (sym (append_assoc r.starts (flat_map entries_of r.explorations) r.last))
    ∙ (tasks-append (r.starts ++ flat_map entries_of r.explorations) r.last
    ∙ (ap (λ (ts : List Task). tasks (r.starts ++ flat_map entries_of r.explorations) ++ ts) none
    ∙ append-nil (tasks (r.starts ++ flat_map entries_of r.explorations)))))

-- of a list, the first part is among the whole, and where it is as long, it is as often
IsAmong-first : {A : Type 0} (xs ys zs : List A) → zs ≡ xs ++ ys → IsAmong xs zs
IsAmong-first xs ys zs e test =
    let all = ap (how_many test) e ∙ total-append (λ x. one_if (test x)) xs ys in omega arith

AsOften-first : {A : Type 0} (xs ys zs : List A) → zs ≡ xs ++ ys → length xs ≡ length zs → AsOften xs zs
AsOften-first xs ys zs e len test =
    let long = ap length e ∙ length-append xs ys in sym (ap (how_many test) (e ∙ nothing ys (omega arith)))
  where
    nothing : (more : List _) → length more ≡ 0 → xs ++ more ≡ xs
    nothing [] few = append-nil xs
    nothing (y ∷ more) few = absurd (omega arith)

module _ (reply : List Point → Call → Reply) (neighbours : Point → List Point) (starts : List Point) (moves : ℕ) where
  abbrev begun : List Entry
  begun = submitting reply 0 [] starts

  abbrev fuel : ℕ
  fuel = length (submissions begun) + moves + 1

  abbrev run : CallerRun
  run = sequential_run reply neighbours starts moves

  abbrev body : List Entry
  body = flat_map entries_of run.explorations

  length-begun : length begun ≡ length starts
  length-begun = length-calling reply 0 (map Update starts) [] ∙ length-map starts Update

  -- its entries are a legal history of the caller
  legal-run : IsLegal reply (entries_of_run run)
  legal-run =
      ContinuesLegally-append reply [] begun (body ++ run.last) (ContinuesLegally-calling reply 0 (map Update starts) [])
      (ContinuesLegally-append reply begun body run.last (from-legal reply neighbours fuel begun moves 0) (refl, tt))

  named-run : Every (λ e. e.caller ≡ 0) (entries_of_run run)
  named-run =
      Every-append (λ e. e.caller ≡ 0) begun (body ++ run.last) (named-calling reply 0 (map Update starts) [])
      (Every-append (λ e. e.caller ≡ 0) body run.last (from-named reply neighbours fuel begun moves 0) (refl, tt))

  -- the last call is made after all accepting entries
  stamp-last : (next_entry reply 0 (begun ++ body) Snapshot).stamp ≡ length (accepting (entries_of_run run))
  stamp-last =
      let all = ap (λ (es : List Entry). length (accepting es)) (append_assoc begun body run.last) in
      let parts = length-accepting (begun ++ body) run.last in omega arith

  explored-first : (left : List Task) × (tasks (begun ++ body) ≡ map (λ x. x.task) run.explorations ++ left)
  explored-first =
      tasks-in_order run.explorations begun [] (tasks begun) 0 refl refl (from-InOrder reply neighbours fuel begun moves 0)

  all-first : tasks_of (run ∷ []) ≡ explored_tasks (run ∷ []) ++ explored-first.0
  all-first =
      tasks-one run refl ∙ (explored-first.1 ∙ ap (λ (ts : List Task). ts ++ explored-first.0) (sym (explored_tasks-one run)))

  started-run : missing starts run ≡ []
  started-run = let past : length starts ≤ length begun = omega (arith, length-begun) in drop_of_length-le starts past

  is_search_run : IsSearchRun reply neighbours starts moves (length (accepting (entries_of_run run))) run []
  is_search_run =
      record {
        consistent = lawful-one reply (entries_of_run run) named-run legal-run;
        begins =
            calls-calling reply 0 (map Update starts) []
            ∙ ap (map Update) (sym (take_all (length begun) starts (omega (arith, length-begun))));
        asks_last = record { entry = next_entry reply 0 (begun ++ body) Snapshot; only = refl; asks = refl; stamped = stamp-last };
        others_explore = tt;
        explores = (
          record {
            each = from-each reply neighbours fuel begun moves 0;
            cut = from-cut reply neighbours fuel begun moves 0;
          },
          tt,
        );
        waits = λ absent. absurd (omega (arith, ap length started-run));
        of_accepted = IsAmong-first (explored_tasks (run ∷ [])) explored-first.0 (tasks_of (run ∷ [])) all-first;
        within =
            subst (λ (xs : List Exploration). total evaluated_in xs ≤ moves) (sym (explorations-one run))
            (from-within reply neighbours fuel begun moves 0);
      }

  ends-run :
      HaveEnded reply neighbours begun moves 0 run.explorations
      → IsClosed neighbours starts run [] ⊎ IsStopped neighbours starts moves run []
  ends-run (inl closed) =
      let many = ap length (explored_tasks-one run) ∙ length-map run.explorations (λ (x : Exploration). x.task) in
      let all = ap length (tasks-one run refl) in
      let same = closed.1 in
      inl (record {
        started = started-run;
        all = AsOften-first (explored_tasks (run ∷ [])) explored-first.0 (tasks_of (run ∷ [])) all-first (omega arith);
        whole = subst (Every (λ x. is_whole neighbours x ≡ true)) (sym (explorations-one run)) closed.0;
      })
  ends-run (inr stopped) =
      inr (record {
        started = started-run;
        spent = ap (total evaluated_in) (explorations-one run) ∙ stopped.0;
        cut = subst (λ (xs : List Exploration). 0 < how_many (is_cut neighbours) xs) (sym (explorations-one run)) stopped.1;
      })

  few-begun : length (tasks begun) + moves < 0 + fuel
  few-begun = let few = length-tasks begun in omega arith

  is_sequential_run : IsSequentialRun reply neighbours starts moves run
  is_sequential_run =
      record {
        run = is_search_run;
        in_order = from-InOrder reply neighbours fuel begun moves 0;
        ends = ends-run (from-HaveEnded reply neighbours fuel begun moves 0 (omega arith) few-begun);
      }

pub runs_sequentially : (reply : List Point → Call → Reply) (neighbours : Point → List Point) → RunsSequentially reply neighbours
runs_sequentially reply neighbours starts moves = is_sequential_run reply neighbours starts moves
