-- The neighbours of a point are submitted one after another, and so is what is due for a task.
use Rattle.std.proofs.Common.{◌≡◌, ℕ, ℤ, ◌+◌, ◌==◌, Bool, true, false, ◌&&◌, not, ◌||◌, if◌then◌else◌, List, [], ◌∷◌, ◌++◌, length, map, Result, Ok, Err, refl, ap, sym, subst, ◌∙◌, append_assoc, arith, length-append, ne_eqb}
use Rattle.std.specs.List.{flat_map}
use Rattle.std.proofs.lemmas.List.{append-nil, map-append}
use Rattle.pls_vectors.specs.Solution.{Solution}
use Rattle.pls_archive.specs.declared.point.Point.{Point}
use Rattle.pls_archive.specs.declared.call.Call.{Call}
use Rattle.pls_archive.specs.declared.call.Call.TheVariants.{Update, Member}
use Rattle.pls_archive.specs.declared.call.Entry.{Entry}
use Rattle.pls_archive.specs.Lists.{Every, one_if}
use Rattle.pls_archive.specs.Rule.{submitted_by}
use Rattle.pls_archive.specs.History.{submissions}
use Rattle.pls_archive.specs.Explorations.{Task, Exploration, calls_for, due, skips, is_whole}
use Rattle.pls_archive.proofs.Every.{Every-append}
use Rattle.pls_pool.specs.declared.cause.Cause.{Cause}
use Rattle.pls_pool.specs.declared.cause.Cause.TheVariants.{Spent, Full, Memory}
use Rattle.pls_problem.specs.declared.instance.Instance.{Instance}
use Rattle.pls_problem.specs.Instance.{neighbours}
use Rattle.pls_search.specs.Neighbours.{to_points, neighbours_of, IsPointOf}
use Rattle.pls_search.specs.Workers.{Hands, Did, is_explored}
use Rattle.pls_search.specs.Steps.{UnlessMemory, SubmitsNeighbour, SubmitsNeighbours, ExploresTask}
use Rattle.pls_search.proofs.Moments.{Did-none, Did-then}

-- updates by these points submit them
pub submissions-calls : (es : List Entry) (points : List Point) → map (λ e. e.call) es ≡ calls_for points → submissions es ≡ points
submissions-calls es points is = through es ∙ (ap (flat_map submitted_by) is ∙ back points)
  where
    through : (es : List Entry) → submissions es ≡ flat_map submitted_by (map (λ e. e.call) es)
    through [] = refl
    through (e ∷ es) = ap (λ (ps : List Point). submitted_by e.call ++ ps) (through es)

    back : (points : List Point) → flat_map submitted_by (calls_for points) ≡ points
    back [] = refl
    back (p ∷ points) = ap (λ (ps : List Point). p ∷ ps) (back points)

-- ---- the neighbours so far

-- since a moment, all neighbours of p were submitted but these, which are left
pub record Underway (i : Instance) (p : Point) (before now : Hands) (left : List (List ℤ × Solution)) : Type 0 where
  pub points : List Point
  pub entries : List Entry
  pub calls : map (λ e. e.call) entries ≡ calls_for points
  pub all : points ++ to_points left ≡ neighbours_of i p
  pub each : Every (IsPointOf i) points
  pub did : Did entries [] (length points) (length points) 0 0 (length points) before now

module _ (i : Instance) (p : Point) where
  pub Underway-start :
      (h : Hands) (left : List (List ℤ × Solution)) → left ≡ neighbours i p.sol → Underway i p h h left
  Underway-start h left all =
      record { points = []; entries = []; calls = refl; all = ap to_points all; each = tt; did = Did-none h }

  module _
      (before now after : Hands) (left rest : List (List ℤ × Solution)) (v : List ℤ) (s : Solution) (so_far : Underway i p before now left)
      (next : left ≡ (v, s) ∷ rest) where
    abbrev q : Point
    q = record { value = v; sol = s }

    all_points : (so_far.points ++ q ∷ []) ++ to_points rest ≡ neighbours_of i p
    all_points =
        append_assoc so_far.points (q ∷ []) (to_points rest)
        ∙ (ap (λ (qs : List (List ℤ × Solution)). so_far.points ++ to_points qs) (sym next) ∙ so_far.all)

    -- one more
    pub Underway-more : IsPointOf i q → SubmitsNeighbour q now after false false → Underway i p before after rest
    Underway-more is (e, call, did) =
        let long = length-append so_far.points (q ∷ []) in
        record {
          points = so_far.points ++ q ∷ [];
          entries = so_far.entries ++ e ∷ [];
          calls =
              map-append (λ (d : Entry). d.call) so_far.entries (e ∷ [])
              ∙ (ap (λ (cs : List Call). cs ++ e.call ∷ []) so_far.calls
              ∙ (ap (λ (c : Call). calls_for so_far.points ++ c ∷ []) call ∙ sym (map-append Update so_far.points (q ∷ []))));
          all = all_points;
          each = Every-append (IsPointOf i) so_far.points (q ∷ []) so_far.each (is, tt);
          did = Did-then refl refl long long refl refl long so_far.did did;
        }

    -- this one was not submitted
    fewer : (length so_far.points == length (neighbours_of i p)) ≡ false
    fewer =
        let long = ap length (sym all_points) ∙ (length-append (so_far.points ++ q ∷ []) (to_points rest)) in
        let more = length-append so_far.points (q ∷ []) in
        ne_eqb (length so_far.points) (length (neighbours_of i p)) (λ equal. absurd (omega arith))

    stopped :
        (spent full : Bool) → (spent || full) ≡ true → Did [] [] (one_if full + one_if spent) (one_if full) 0 0 0 now after
        → SubmitsNeighbours i p before after spent full
    stopped spent full cut did = record {
      points = so_far.points;
      entries = so_far.entries;
      calls = so_far.calls;
      first = (to_points left, so_far.all);
      all = fewer ∙ sym (ap not cut);
      each = so_far.each;
      did =
          Did-then (sym (append-nil so_far.entries)) refl (plus_assoc (length so_far.points) (one_if full) (one_if spent)) refl refl refl (omega arith) so_far.did did;
    }
      where
        plus_assoc : (a b c : ℕ) → a + b + c ≡ a + (b + c)
        plus_assoc a b c = omega arith

    pub SubmitsNeighbours-cut :
        (end : Result Unit Cause) → UnlessMemory end (SubmitsNeighbour q now after)
        → (cause : Cause) → end ≡ Err cause → UnlessMemory end (SubmitsNeighbours i p before after)
    SubmitsNeighbours-cut (Ok u) step cause is = cc
    SubmitsNeighbours-cut (Err Spent) step cause is = stopped true false refl step
    SubmitsNeighbours-cut (Err Full) step cause is = stopped false true refl step
    SubmitsNeighbours-cut (Err Memory) step cause is = tt

-- ---- a task

-- it counts as explored where it is whole and not skipped
unskipped : (whole skipped b : Bool) → whole ≡ b → skipped ≡ false → (whole && not skipped) ≡ b
unskipped true false b is keep = is
unskipped false skipped b is keep = is
unskipped true true b is keep = cc

skipped : (whole skipped : Bool) → skipped ≡ true → (whole && not skipped) ≡ false
skipped true true is = refl
skipped true false is = cc
skipped false skip is = refl

module _ (i : Instance) (t : Task) (asked : Entry) (asks : asked.call ≡ Member t.point.value) where
  abbrev near : Point → List Point
  near = neighbours_of i

  -- the question alone, where nothing is due
  pub ExploresTask-skipped :
      (before after : Hands) → skips t asked ≡ true → Did (asked ∷ []) [] 0 0 0 0 0 before after → ExploresTask i t 0 before after false false
  ExploresTask-skipped before after skip did =
      let none : due near t asked ≡ [] = ap (λ (b : Bool). if b then [] else near t.point) skip in
      record {
        exploration = record { task = t; asked = asked; updates = [] };
        is = record { asks = asks; updates = refl; submits = (due near t asked, refl) };
        of = refl;
        whole = ap (λ (ps : List Point). 0 == length ps) none;
        each = tt;
        did =
            let x : Exploration = record { task = t; asked = asked; updates = [] } in
            let uncounted = ap one_if (skipped (is_whole near x) (skips t asked) skip) in
            subst (λ (n : ℕ). Did (asked ∷ []) [] 0 0 0 n 0 before after) (sym uncounted) did;
      }

  -- the question, and the neighbours; it is counted where it is whole
  pub ExploresTask-due :
      (before between after last : Hands) (spent full : Bool) → skips t asked ≡ false → Did (asked ∷ []) [] 0 0 0 0 0 before between
      → SubmitsNeighbours i t.point between after spent full → Did [] [] 0 0 0 (one_if (not (spent || full))) 0 after last
      → ExploresTask i t 0 before last spent full
  ExploresTask-due before between after last spent full keep did submits counts =
      let all : due near t asked ≡ near t.point = ap (λ (b : Bool). if b then [] else near t.point) keep in
      let submitted = submissions-calls submits.entries submits.points submits.calls in
      let count = ap length submitted in
      let x : Exploration = record { task = t; asked = asked; updates = submits.entries } in
      let whole : is_whole near x ≡ not (spent || full) =
      ap (λ (n : ℕ). n == length (due near t asked)) count ∙ (ap (λ (ps : List Point). length submits.points == length ps) all ∙ submits.all) in
      let counted : one_if (is_explored i x) ≡ one_if (not (spent || full)) =
      ap one_if (unskipped (is_whole near x) (skips t asked) (not (spent || full)) whole keep) in
      record {
        exploration = x;
        is = record {
          asks = asks;
          updates = submits.calls ∙ ap calls_for (sym submitted);
          submits = (submits.first.0, ap (λ (ps : List Point). ps ++ submits.first.0) submitted ∙ (submits.first.1 ∙ sym all));
        };
        of = refl;
        whole = whole;
        each = subst (Every (IsPointOf i)) (sym submitted) submits.each;
        did =
            Did-then (sym (append-nil (asked ∷ submits.entries))) refl (omega (arith, count)) (omega (arith, count)) refl (omega (arith, counted)) (omega (arith, count))
            (Did-then refl refl refl refl refl refl refl did submits.did) counts;
      }

  -- where it was cut, it is not counted
  pub ExploresTask-cut :
      (before between after : Hands) (end : Result Unit Cause) (cause : Cause) → end ≡ Err cause → skips t asked ≡ false
      → Did (asked ∷ []) [] 0 0 0 0 0 before between → UnlessMemory end (SubmitsNeighbours i t.point between after)
      → UnlessMemory end (ExploresTask i t 0 before after)
  ExploresTask-cut before between after (Ok u) cause is keep did submits = cc
  ExploresTask-cut before between after (Err Spent) cause is keep did submits =
      ExploresTask-due before between after after true false keep did submits (Did-none after)
  ExploresTask-cut before between after (Err Full) cause is keep did submits =
      ExploresTask-due before between after after false true keep did submits (Did-none after)
  ExploresTask-cut before between after (Err Memory) cause is keep did submits = tt
