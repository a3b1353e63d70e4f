-- What is summed over the serialization of several lists is what is summed over the lists.
use Rattle.std.proofs.Common.{◌≡◌, ℕ, zero, suc, ◌+◌, ◌≤◌, Bool, true, false, ◌&&◌, not, nat_lt, nat_le, ◌==◌, if◌then◌else◌, List, length, map, refl, ap, sym, ◌∙◌, arith}
use Rattle.std.specs.List.{flat_map}
use Rattle.std.proofs.lemmas.Bool.{cond-true, and_from, lt-ltb, le-leb}
use Rattle.std.proofs.lemmas.Bool.Decides.{nat_tests}
use Rattle.pls_archive.specs.declared.point.Point.{Point}
use Rattle.pls_archive.specs.declared.call.Call.{Call}
use Rattle.pls_archive.specs.declared.call.Reply.{Reply}
use Rattle.pls_archive.specs.declared.call.Entry.{Entry}
use Rattle.pls_archive.specs.Lists.{Every, total, how_many, one_if, AsOften}
use Rattle.pls_archive.specs.History.{accepts, accepting}
use Rattle.pls_archive.specs.Serialization.{AreSequentiallyConsistent, accepting_at, others_at, at_stamp, serialization}
use Rattle.pls_archive.specs.Explorations.{CallerRun, tasks_by, tasks, tasks_of, entries_of_run}
use Rattle.pls_archive.specs.RunLaws.{KeepsTotals, CountsAccepting}
use Rattle.pls_archive.proofs.Every.{Every-map, total-append, total-same, total-every, total-plus, total-map, total-flat_map, total-filter, length-filter, length-flat_map}

-- ---- sums over the entries with one stamp, and over those with lesser ones

module _ (f : Entry → ℕ) where
  -- what an entry gives where its stamp is n, and where it is less
  abbrev given_at : ℕ → Entry → ℕ
  given_at n e = if e.stamp == n then f e else 0

  abbrev given_before : ℕ → Entry → ℕ
  given_before n e = if nat_lt e.stamp n then f e else 0

  accepting_or_not : (n : ℕ) (es : List Entry) → total f (accepting_at n es) + total f (others_at n es) ≡ total (given_at n) es
  accepting_or_not n es =
      let accepted = total-filter (λ e. accepts e && (e.stamp == n)) f es in
      let others = total-filter (λ e. not (accepts e) && (e.stamp == n)) f es in
      let both = total-plus one other es in
      let each = total-same (λ e. one e + other e) (given_at n) (λ e. either (accepts e) (e.stamp == n) (f e)) es in omega arith
    where
      one : Entry → ℕ
      one e = if accepts e && (e.stamp == n) then f e else 0

      other : Entry → ℕ
      other e = if not (accepts e) && (e.stamp == n) then f e else 0

      either : (b c : Bool) (k : ℕ) → (if b && c then k else 0) + (if not b && c then k else 0) ≡ (if c then k else 0)
      either true true k = omega arith
      either true false k = omega arith
      either false true k = omega arith
      either false false k = omega arith

  total-at_stamp : (n : ℕ) (lists : List (List Entry)) → total f (at_stamp n lists) ≡ total (total (given_at n)) lists
  total-at_stamp n lists =
      let parts = total-append f (flat_map (accepting_at n) lists) (flat_map (others_at n) lists) in
      let accepted = total-flat_map f (accepting_at n) lists in
      let others = total-flat_map f (others_at n) lists in
      let both = total-plus (λ es. total f (accepting_at n es)) (λ es. total f (others_at n es)) lists in
      let each = total-same (λ es. total f (accepting_at n es) + total f (others_at n es)) (total (given_at n)) (accepting_or_not n) lists in
      omega arith

  first_stamp : (lists : List (List Entry)) → total (total (given_at 0)) lists ≡ total (total (given_before 1)) lists
  first_stamp lists =
      total-same (total (given_at 0)) (total (given_before 1))
      (total-same (given_at 0) (given_before 1) (λ e. first e.stamp (f e))) lists
    where
      first : (s k : ℕ) → (if s == 0 then k else 0) ≡ (if nat_lt s 1 then k else 0)
      first s k = grind (arith, nat_tests)

  next_stamp :
      (n : ℕ) (lists : List (List Entry))
      → total (total (given_before n)) lists + total (total (given_at n)) lists ≡ total (total (given_before (suc n))) lists
  next_stamp n lists =
      sym (total-plus (total (given_before n)) (total (given_at n)) lists)
      ∙ total-same (λ es. total (given_before n) es + total (given_at n) es) (total (given_before (suc n)))
      (λ es.
      sym (total-plus (given_before n) (given_at n) es)
      ∙ total-same (λ e. given_before n e + given_at n e) (given_before (suc n)) (λ e. next e.stamp (f e)) es)
      lists
    where
      next : (s k : ℕ) → (if nat_lt s n then k else 0) + (if s == n then k else 0) ≡ (if nat_lt s (suc n) then k else 0)
      next s k = grind (arith, nat_tests)

  total-serialization : (n : ℕ) (lists : List (List Entry)) → total f (serialization n lists) ≡ total (total (given_before (suc n))) lists
  total-serialization zero lists = total-at_stamp zero lists ∙ first_stamp lists
  total-serialization (suc n) lists =
      let parts = total-append f (serialization n lists) (at_stamp (suc n) lists) in
      let before = total-serialization n lists in
      let here = total-at_stamp (suc n) lists in
      let next = next_stamp (suc n) lists in
      omega arith

-- ---- so whatever is summed over the entries is the same

-- in a list whose stamps are at most n
given_before-all :
    (f : Entry → ℕ) (n : ℕ) (es : List Entry) → Every (λ e. e.stamp ≤ n) es → total (given_before f (suc n)) es ≡ total f es
given_before-all f n es within =
    total-every (given_before f (suc n)) f es (Every-map (λ e. e.stamp ≤ n) (λ e. given_before f (suc n) e ≡ f e) given es within)
  where
    given : (e : Entry) → e.stamp ≤ n → given_before f (suc n) e ≡ f e
    given e h = cond-true (nat_lt e.stamp (suc n)) (f e) 0 (lt-ltb e.stamp (suc n) (omega arith))

module _ (n : ℕ) (lists : List (List Entry)) (within : Every (Every (λ e. e.stamp ≤ n)) lists) where
  pub same_total : (f : Entry → ℕ) → total f (serialization n lists) ≡ total (total f) lists
  same_total f =
      total-serialization f n lists
      ∙ total-every (total (given_before f (suc n))) (total f) lists
      (Every-map (Every (λ e. e.stamp ≤ n)) (λ es. total (given_before f (suc n)) es ≡ total f es) (given_before-all f n) lists within)

  -- and whatever is made of each entry is made as often
  pub as_often : {B : Type 0} (h : Entry → List B) → AsOften (flat_map h (serialization n lists)) (flat_map (flat_map h) lists)
  as_often h test =
      let serialized = total-flat_map (λ x. one_if (test x)) h (serialization n lists) in
      let same = same_total (λ e. how_many test (h e)) in
      let each =
      total-same (λ es. how_many test (flat_map h es)) (total (λ e. how_many test (h e)))
      (total-flat_map (λ x. one_if (test x)) h) lists
      in
      let apart = total-flat_map (λ x. one_if (test x)) (flat_map h) lists in omega arith

-- the tasks of all callers are those of their serialization
pub same_tasks :
    (n : ℕ) (runs : List CallerRun) → Every (Every (λ e. e.stamp ≤ n)) (map entries_of_run runs)
    → AsOften (tasks (serialization n (map entries_of_run runs))) (tasks_of runs)
same_tasks n runs within test =
    as_often n (map entries_of_run runs) within tasks_by test
    ∙ (total-flat_map (λ t. one_if (test t)) tasks (map entries_of_run runs)
    ∙ (total-map (λ es. how_many test (tasks es)) entries_of_run runs
    ∙ sym (total-flat_map (λ t. one_if (test t)) (λ r. tasks (entries_of_run r)) runs)))

pub same_totals : (reply : List Point → Call → Reply) → KeepsTotals reply
same_totals reply n lists lawful = same_total n lists lawful.within

-- ---- lawful lists have as many accepting entries as they say

-- with this stamp
accepting-given : (k : ℕ) (es : List Entry) → total (given_at (λ e. one_if (accepts e)) k) es ≡ length (accepting_at k es)
accepting-given k es =
    total-same (given_at (λ e. one_if (accepts e)) k) (λ e. one_if (accepts e && (e.stamp == k))) (λ e. both (accepts e) (e.stamp == k)) es
    ∙ sym (length-filter (λ e. accepts e && (e.stamp == k)) es)
  where
    both : (b c : Bool) → (if c then one_if b else 0) ≡ one_if (b && c)
    both true true = refl
    both true false = refl
    both false true = refl
    both false false = refl

how_many-accept_at : (k : ℕ) (lists : List (List Entry)) → how_many accepts (at_stamp k lists) ≡ length (flat_map (accepting_at k) lists)
how_many-accept_at k lists =
    total-at_stamp (λ e. one_if (accepts e)) k lists
    ∙ (total-same (total (given_at (λ e. one_if (accepts e)) k)) (λ es. length (accepting_at k es)) (accepting-given k) lists
    ∙ sym (length-flat_map (accepting_at k) lists))

module _ (reply : List Point → Call → Reply) (n : ℕ) (lists : List (List Entry)) (lawful : AreSequentiallyConsistent reply n lists) where
  -- up to this stamp
  pub counted_up_to : (m : ℕ) → m ≤ n → how_many accepts (serialization m lists) ≡ m
  counted_up_to zero within = how_many-accept_at 0 lists ∙ lawful.stamped 0
  counted_up_to (suc m) within =
      let before = counted_up_to m (omega arith) in
      let parts = total-append (λ e. one_if (accepts e)) (serialization m lists) (at_stamp (suc m) lists) in
      let one = and_from (nat_lt 0 (suc m)) (nat_le (suc m) n) (lt-ltb 0 (suc m) (omega arith)) (le-leb (suc m) n within) in
      let here = how_many-accept_at (suc m) lists ∙ (lawful.stamped (suc m) ∙ ap one_if one) in
      omega arith

  counted : length (flat_map accepting lists) ≡ n
  counted =
      length-flat_map accepting lists
      ∙ (total-same (λ es. length (accepting es)) (how_many accepts) (length-filter accepts) lists
      ∙ (sym (same_total n lists lawful.within (λ e. one_if (accepts e))) ∙ counted_up_to n (omega arith)))

pub counts_accepting : (reply : List Point → Call → Reply) → CountsAccepting reply
counts_accepting reply n lists lawful = counted reply n lists lawful
