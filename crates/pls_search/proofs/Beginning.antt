-- Points are submitted one after another, as starts are.
use Rattle.std.proofs.Common.{◌≡◌, ℕ, ◌<◌, ◌≤◌, ◌==◌, Bool, true, false, not, List, [], ◌∷◌, ◌++◌, length, map, take, Result, Ok, Err, refl, ap, sym, subst, ◌∙◌, arith, eq-eqb, ne_eqb}
use Rattle.std.proofs.lemmas.List.{map-append, length-map, length-take-le, append-nil}
use Rattle.pls_archive.specs.declared.point.Point.{Point}
use Rattle.pls_archive.specs.declared.call.Call.{Call}
use Rattle.pls_archive.specs.declared.call.Call.TheVariants.{Update}
use Rattle.pls_archive.specs.declared.call.Entry.{Entry}
use Rattle.pls_archive.specs.Lists.{Every, how_many}
use Rattle.pls_archive.specs.History.{submissions}
use Rattle.pls_archive.specs.Explorations.{CallerRun, tasks, calls_for}
use Rattle.pls_archive.specs.SearchRun.{SubmitsFirst}
use Rattle.pls_archive.proofs.Every.{Every-append}
use Rattle.pls_pool.specs.declared.cause.Cause.{Cause}
use Rattle.pls_pool.specs.declared.cause.Cause.TheVariants.{Spent, Full, Memory}
use Rattle.pls_problem.specs.declared.instance.Instance.{Instance}
use Rattle.pls_search.specs.Neighbours.{IsPointOf}
use Rattle.pls_search.specs.Workers.{task_of, Hands, Did, StandsFor, IsNewWorker}
use Rattle.pls_search.specs.Steps.{UnlessMemory, Submits, SubmitsAll}
use Rattle.pls_search.proofs.Moments.{Did-none, Did-then, Did-after}
use Rattle.pls_search.proofs.Neighbourhoods.{submissions-calls}

-- since a moment these points were submitted
pub record SoFar (i : Instance) (points : List Point) (before now : Hands) : Type 0 where
  pub entries : List Entry
  pub calls : map (λ e. e.call) entries ≡ calls_for points
  pub each : Every (IsPointOf i) points
  pub did : Did entries [] 0 0 0 0 0 before now

pub SoFar-none : (i : Instance) (h : Hands) → SoFar i [] h h
SoFar-none i h = record { entries = []; calls = refl; each = tt; did = Did-none h }

-- one more
pub SoFar-more :
    (i : Instance) (points : List Point) (p : Point) (before now after : Hands) → SoFar i points before now → IsPointOf i p
    → Submits p now after false false → SoFar i (points ++ p ∷ []) before after
SoFar-more i points p before now after so_far is (e, call, did) = record {
  entries = so_far.entries ++ e ∷ [];
  calls =
      map-append (λ (d : Entry). d.call) so_far.entries (e ∷ [])
      ∙ (ap (λ (cs : List Call). cs ++ e.call ∷ []) so_far.calls
      ∙ (ap (λ (c : Call). calls_for points ++ c ∷ []) call ∙ sym (map-append Update points (p ∷ []))));
  each = Every-append (IsPointOf i) points (p ∷ []) so_far.each (is, tt);
  did = Did-then refl refl refl refl refl refl refl so_far.did did;
}

-- as many entries as points
length-SoFar : (i : Instance) (points : List Point) (before now : Hands) → (so_far : SoFar i points before now) → length so_far.entries ≡ length points
length-SoFar i points before now so_far =
    sym (length-map so_far.entries (λ e. e.call)) ∙ (ap length so_far.calls ∙ length-map points Update)

module _ (i : Instance) (all : List Point) (k : ℕ) (before now : Hands) (so_far : SoFar i (take k all) before now) where
  submits :
      (full : Bool) (after : Hands) → k ≤ length all → (k == length all) ≡ not full → Did [] [] 0 0 0 0 0 now after → SubmitsAll i all before after false full
  submits full after within ends did =
      let long : length so_far.entries ≡ k = length-SoFar i (take k all) before now so_far ∙ length-take-le k all within in
      record {
        entries = so_far.entries;
        first = so_far.calls ∙ ap (λ (n : ℕ). map Update (take n all)) (sym long);
        unspent = refl;
        all = ap (λ (n : ℕ). n == length all) long ∙ ends;
        each = subst (Every (IsPointOf i)) (sym (submissions-calls so_far.entries (take k all) so_far.calls)) so_far.each;
        did = Did-after so_far.did did;
      }

  pub SubmitsAll-whole : k ≡ length all → SubmitsAll i all before now false false
  SubmitsAll-whole is = submits false now (omega arith) (eq-eqb k (length all) is) (Did-none now)

  pub SubmitsAll-cut :
      (p : Point) (after : Hands) (end : Result Unit Cause) (cause : Cause) → k < length all → end ≡ Err cause → UnlessMemory end (Submits p now after)
      → UnlessMemory end (SubmitsAll i all before after)
  SubmitsAll-cut p after (Ok u) cause inside is step = cc
  SubmitsAll-cut p after (Err Spent) cause inside is step = absurd step
  SubmitsAll-cut p after (Err Full) cause inside is did = submits true after (omega arith) (ne_eqb k (length all) (λ equal. absurd (omega arith))) did
  SubmitsAll-cut p after (Err Memory) cause inside is step = tt

-- a new worker that submitted starts
pub StandsFor-started :
    (i : Instance) (es : List Entry) (first now : Hands) → IsNewWorker first → Did es [] 0 0 0 0 0 first now → Every (IsPointOf i) (submissions es)
    → StandsFor i false false now (record { starts = es; explorations = []; last = [] })
StandsFor-started i es first now new did each =
    let all : es ++ [] ≡ es = append-nil es in
    let count = ap (λ (h : List Entry). length (tasks h)) all in
    record {
      own = did.own ∙ (ap (λ (h : List Entry). h ++ es) new.own ∙ sym all);
      last = refl;
      work = record {
        explores = record { each = tt; cut = tt };
        points = subst (λ (h : List Entry). Every (IsPointOf i) (submissions h)) (sym all) each;
        put_are = λ test.
            let sums = ap (λ (h : List Entry). how_many test (tasks h)) all in
            omega (arith, did.put test, new.put (λ w. test (task_of w)), sums);
        opened_are = omega (arith, did.opened, new.opened, count);
        taken_are = λ test. omega arith;
        done_are = omega (arith, did.done_are, new.done);
        cut = refl;
        went = omega (arith, did.goes_are, new.goes);
        drawn = omega (arith, did.draws_are, did.goes_are, new.draws, new.goes);
      };
      counts = record {
        explored_are = omega (arith, did.explored_are, new.explored);
        evaluated_are = omega (arith, did.evaluated_are, new.evaluated);
      };
    }

-- The starts were submitted, or some of them in order. What a new worker has in its hands then stands for a run that begins so.
pub record SubmitsStarts (i : Instance) (starts : List Point) (before after : Hands) (spent full : Bool) : Type 0 where
  pub unspent : spent ≡ false
  pub begins :
      IsNewWorker before
      → (r : CallerRun) × SubmitsFirst starts r.starts × (r.explorations ≡ []) × ((length r.starts == length starts) ≡ not full)
      × StandsFor i false false after r

-- what was submitted begins a run; halting changes nothing of it
pub SubmitsStarts-by_end :
    (i : Instance) (starts : List Point) (before between after : Hands) (end : Result Unit Cause)
    → UnlessMemory end (SubmitsAll i starts before between) → Did [] [] 0 0 0 0 0 between after → UnlessMemory end (SubmitsStarts i starts before after)
SubmitsStarts-by_end i starts before between after end submits did = by_cause end submits
  where
    begun : (spent full : Bool) → SubmitsAll i starts before between spent full → SubmitsStarts i starts before after spent full
    begun spent full submits = record {
      unspent = submits.unspent;
      begins = λ new. (
        record { starts = submits.entries; explorations = []; last = [] },
        submits.first,
        refl,
        submits.all,
        StandsFor-started i submits.entries before after new (Did-after submits.did did) submits.each,
      );
    }

    by_cause : (end : Result Unit Cause) → UnlessMemory end (SubmitsAll i starts before between) → UnlessMemory end (SubmitsStarts i starts before after)
    by_cause (Ok u) submits = begun false false submits
    by_cause (Err Spent) submits = begun true false submits
    by_cause (Err Full) submits = begun false true submits
    by_cause (Err Memory) submits = tt
