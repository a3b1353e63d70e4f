-- A closed search run of two callers, one that is not closed, and an exploration before its point was accepted, computed.
use Rattle.std.proofs.Common.{◌≡◌, ℕ, ◌+◌, ◌==◌, pos, nat_abs, get_or, true, false, if◌then◌else◌, List, [], ◌∷◌, map, refl, arith, ◌∙◌}
use Rattle.std.proofs.lemmas.Bool.Decides.{nat_tests}
use Rattle.pls_archive.specs.declared.point.Point.{Point}
use Rattle.pls_archive.specs.declared.call.Call.TheVariants.{Update, Member, Snapshot}
use Rattle.pls_archive.specs.declared.call.Reply.TheVariants.{Added, Refused, Yes, No, Points}
use Rattle.pls_archive.specs.declared.call.Entry.{Entry}
use Rattle.pls_archive.specs.Lists.{one_if}
use Rattle.pls_archive.specs.Reply.{members, nondominated}
use Rattle.pls_archive.specs.Serialization.{AreSequentiallyConsistent, serialization}
use Rattle.pls_archive.specs.History.{IsLegal}
use Rattle.pls_archive.specs.Explorations.{Exploration, CallerRun, IsExploration, entries_of, entries_of_run, is_skipped, explored, evaluated, accepted_count}
use Rattle.pls_archive.specs.SearchRun.{IsSearchRun, IsClosed, IsStopped}
use Rattle.pls_archive.specs.RunLaws.{all_submissions, IsParetoLocalOptimumSet}
use Rattle.pls_archive.proofs.LocalOptima.{ends_in_local_optima}
use Rattle.pls_archive.proofs.NineCalls.{point}
use Rattle.pls_archive.proofs.WorkedSerializations.{entry, submits, AreStamped, accepting_count, counted_at, one_accepting}

abbrev low : Point
low = point 1 1 1

abbrev high : Point
high = point 1 3 1

abbrev far : Point
far = point 3 1 1

abbrev between : Point
between = point 1 2 1

abbrev near : Point → List Point
near p = if nat_abs (get_or p.value 0 (pos 0)) == 1 then far ∷ between ∷ [] else high ∷ []

-- ---- the first caller submits two starts, of which the second dominates the first, and skips the first

abbrev of_low : Exploration
of_low = record { task = record { point = low; stamp = 1 }; asked = entry 0 2 (Member low.value) No; updates = [] }

abbrev of_far : Exploration
of_far = record {
  task = record { point = far; stamp = 3 };
  asked = entry 0 3 (Member far.value) Yes;
  updates = submits 0 3 1 3 Refused ∷ [];
}

abbrev of_high : Exploration
of_high = record {
  task = record { point = high; stamp = 2 };
  asked = entry 1 2 (Member high.value) Yes;
  updates = submits 1 3 3 1 (Added 0) ∷ submits 1 3 1 2 Refused ∷ [];
}

abbrev first : CallerRun
first = record {
  starts = submits 0 1 1 1 (Added 0) ∷ submits 0 2 1 3 (Added 1) ∷ [];
  explorations = of_low ∷ of_far ∷ [];
  last = entry 0 3 Snapshot (Points (high ∷ far ∷ [])) ∷ [];
}

abbrev second : CallerRun
second = record { starts = []; explorations = of_high ∷ []; last = [] }

abbrev runs : List CallerRun
runs = first ∷ second ∷ []

three_accepting :
    (lists : List (List Entry)) → ((k : ℕ) → accepting_count k lists ≡ one_if (1 == k) + (one_if (2 == k) + one_if (3 == k)))
    → AreStamped 3 lists
three_accepting lists has k = counted_at k lists ∙ (has k ∙ grind (arith, nat_tests))

lists-AreSequentiallyConsistent : AreSequentiallyConsistent nondominated 3 (map entries_of_run runs)
lists-AreSequentiallyConsistent = record {
  named = assumption;
  stamped = three_accepting (map entries_of_run runs) (λ k. omega arith);
  within = search arith;
  rising = search arith;
  legal = assumption;
}

of_low-IsExploration : IsExploration near of_low
of_low-IsExploration = record { asks = refl; updates = refl; submits = ([], refl) }

of_far-IsExploration : IsExploration near of_far
of_far-IsExploration = record { asks = refl; updates = refl; submits = ([], refl) }

of_high-IsExploration : IsExploration near of_high
of_high-IsExploration = record { asks = refl; updates = refl; submits = ([], refl) }

is_search_run : IsSearchRun nondominated near (low ∷ high ∷ []) 3 3 first (second ∷ [])
is_search_run = record {
  consistent = lists-AreSequentiallyConsistent;
  begins = refl;
  asks_last = record { entry = entry 0 3 Snapshot (Points (high ∷ far ∷ [])); only = refl; asks = refl; stamped = refl };
  others_explore = (record { starts = refl; last = refl }, tt);
  explores = (
    record { each = (of_low-IsExploration, (of_far-IsExploration, tt)); cut = ((λ later. refl), ((λ later. refl), tt)) },
    (record { each = (of_high-IsExploration, tt); cut = ((λ later. refl), tt) }, tt),
  );
  waits = λ missing. absurd (omega (arith, missing));
  of_accepted = λ test. omega arith;
  within = omega arith;
}

is_closed : IsClosed near (low ∷ high ∷ []) first (second ∷ [])
is_closed = record { started = refl; all = λ test. omega arith; whole = (refl, (refl, (refl, tt))) }

-- one of the three explorations was skipped; three neighbours were evaluated
of_low-is_skipped : is_skipped of_low ≡ true
of_low-is_skipped = refl

counts : explored near runs ∷ evaluated runs ∷ accepted_count runs ∷ [] ≡ 2 ∷ 3 ∷ 3 ∷ []
counts = refl

-- what is left is a Pareto local optimum set
left : members (all_submissions 3 (map entries_of_run runs)) ≡ high ∷ far ∷ []
left = refl

pub local_optima : IsParetoLocalOptimumSet near (high ∷ far ∷ [])
local_optima = ends_in_local_optima near (low ∷ high ∷ []) 3 3 first (second ∷ []) is_search_run is_closed

-- ---- with no moves the exploration of a start is cut, and a neighbour of it would be added

abbrev cut : Exploration
cut = record { task = record { point = high; stamp = 1 }; asked = entry 0 1 (Member high.value) Yes; updates = [] }

abbrev alone : CallerRun
alone = record { starts = submits 0 1 1 3 (Added 0) ∷ []; explorations = cut ∷ []; last = entry 0 1 Snapshot (Points (high ∷ [])) ∷ [] }

cut-IsExploration : IsExploration near cut
cut-IsExploration = record { asks = refl; updates = refl; submits = (far ∷ between ∷ [], refl) }

cut-is_search_run : IsSearchRun nondominated near (high ∷ []) 0 1 alone []
cut-is_search_run = record {
  consistent = record {
    named = assumption;
    stamped = one_accepting (map entries_of_run (alone ∷ [])) (λ k. omega arith);
    within = search arith;
    rising = search arith;
    legal = assumption;
  };
  begins = refl;
  asks_last = record { entry = entry 0 1 Snapshot (Points (high ∷ [])); only = refl; asks = refl; stamped = refl };
  others_explore = tt;
  explores = (record { each = (cut-IsExploration, tt); cut = ((λ later. absurd (omega (arith, later))), tt) }, tt);
  waits = λ missing. absurd (omega (arith, missing));
  of_accepted = λ test. omega arith;
  within = omega arith;
}

cut-is_stopped : IsStopped near (high ∷ []) 0 alone []
cut-is_stopped = record { started = refl; spent = refl; cut = omega arith }

cut-adds : nondominated (all_submissions 1 (map entries_of_run (alone ∷ []))) (Update far) ≡ Added 0
cut-adds = refl

-- ---- a caller asks of a point before another submits it: the answer is no, and the neighbours are due all the same

abbrev early : Exploration
early = record {
  task = record { point = high; stamp = 1 };
  asked = entry 1 0 (Member high.value) No;
  updates = submits 1 2 3 1 (Added 0) ∷ submits 1 2 1 2 Refused ∷ [];
}

early-IsLegal : IsLegal nondominated (serialization 2 ((submits 0 1 1 3 (Added 0) ∷ []) ∷ entries_of early ∷ []))
early-IsLegal = assumption

early-IsExploration : IsExploration near early
early-IsExploration = record { asks = refl; updates = refl; submits = ([], refl) }

early-not_skipped : is_skipped early ≡ false
early-not_skipped = refl
