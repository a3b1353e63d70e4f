-- Where a consistent view holds the lists of all callers that were started, these lists are lawful.
use Rattle.std.proofs.Common.{◌≡◌, ◌⊎◌, ℕ, zero, suc, ◌+◌, ◌<◌, ◌≤◌, ◌==◌, Bool, true, false, ◌&&◌, not, nat_lt, nat_le, if◌then◌else◌, List, [], ◌∷◌, ◌++◌, length, map, take, flat_map, refl, ap, sym, subst, ◌∙◌, arith, inl, inr, append_assoc, length-append}
use Rattle.std.specs.List.{range_with_len}
use Rattle.std.proofs.lemmas.List.{append-nil, take-append-le, take_all}
use Rattle.std.proofs.lemmas.List.FromFn.{length-map-range_with_len}
use Rattle.std.proofs.lemmas.Bool.{cases_lt, eqb-true, lt-ltb, le-leb, lt-leb, and_from, and_right, and_parts, not-true}
use Rattle.std.proofs.lemmas.Bool.Decides.{eqb_tells}
use Rattle.pls_archive.specs.declared.point.Point.{Point}
use Rattle.pls_archive.specs.declared.call.Call.{Call}
use Rattle.pls_archive.specs.declared.call.Reply.{Reply}
use Rattle.pls_archive.specs.declared.call.Entry.{Entry}
use Rattle.pls_archive.specs.Lists.{Every, In, one_if}
use Rattle.pls_archive.specs.Rule.{IsRule}
use Rattle.pls_archive.specs.History.{submissions, accepts, IsLegal}
use Rattle.pls_archive.specs.Serialization.{accepting_at, others_at, serialization, AreNamed, IsRising, AreSequentiallyConsistent}
use Rattle.pls_archive.specs.View.{IsObserved, IsListOf, lists_of, list_of, held}
use Rattle.pls_archive.specs.RunLaws.{ViewsAreSequentiallyConsistent}
use Rattle.pls_archive.proofs.Every.{Every-map, Every-filter, Every-right}
use Rattle.pls_archive.proofs.ViewsFilters.{Every-passes, Every-paired, Every-flat_map}
use Rattle.pls_archive.proofs.ViewsAtStamp.{with_stamp, AreNumbered, with_stamp-before, with_stamp-after, with_stamp-at, AreNumbered-observed, AreListsOf, accepting_at-none, accepting_at-one}
use Rattle.pls_archive.proofs.SequentialCalls.{ContinuesLegally-right}
use Rattle.pls_archive.proofs.ViewsReached.{IsUnaccepted, IsReached, reached-accepting, reached-all_unaccepted}

-- ---- the lists of a view, one for each caller that was started

module _ (reply : List Point → Call → Reply) (seen : List Entry) where
  list_of-IsListOf :
      (c : ℕ) (lists : List (ℕ × List Entry)) → Every (λ (list : ℕ × List Entry). IsListOf reply seen list.0 list.1) lists
      → In c (map (λ (list : ℕ × List Entry). list.0) lists) → IsListOf reply seen c (list_of c lists)
  list_of-IsListOf c [] each there = absurd there
  list_of-IsListOf c (list ∷ lists) each there = by_cases (eqb_tells list.0 c) there (list_of-IsListOf c lists each.1)
    where
      by_cases :
          (((list.0 == c) ≡ true) × (list.0 ≡ c)) ⊎ (((list.0 == c) ≡ false) × (list.0 ≡ c → ⊥))
          → In c (map (λ (list : ℕ × List Entry). list.0) (list ∷ lists))
          → (In c (map (λ (list : ℕ × List Entry). list.0) lists) → IsListOf reply seen c (list_of c lists))
          → IsListOf reply seen c (if list.0 == c then list.1 else list_of c lists)
      by_cases (inl here) there rest =
          subst (λ b. IsListOf reply seen c (if b then list.1 else list_of c lists)) (sym here.0)
          (subst (λ n. IsListOf reply seen n list.1) here.1 each.0)
      by_cases (inr apart) (inl e) rest = absurd (apart.1 (sym e))
      by_cases (inr apart) (inr later) rest =
          subst (λ b. IsListOf reply seen c (if b then list.1 else list_of c lists)) (sym apart.0) (rest later)

  AreListsOf-counted :
      (f : ℕ → List Entry) (c n : ℕ) → ((k : ℕ) → c ≤ k → k < c + n → IsListOf reply seen k (f k))
      → AreListsOf reply seen c (map f (range_with_len c n))
  AreListsOf-counted f c zero each = tt
  AreListsOf-counted f c (suc n) each =
      let on : c + 1 ≡ suc c = omega arith in
      let rest = AreListsOf-counted f (suc c) n (λ k from to. each k (omega (arith, from)) (omega (arith, to))) in
      (each c (omega arith) (omega arith), subst (λ d. AreListsOf reply seen (suc c) (map f (range_with_len d n))) (sym on) rest)

  -- what each list says by itself
  AreListsOf-named : (c : ℕ) (lists : List (List Entry)) → AreListsOf reply seen c lists → AreNamed c lists
  AreListsOf-named c [] h = tt
  AreListsOf-named c (es ∷ lists) h = (h.0.named, AreListsOf-named (suc c) lists h.1)

  AreListsOf-each :
      (P : List Entry → Type 0) → ((c : ℕ) (es : List Entry) → IsListOf reply seen c es → P es)
      → (c : ℕ) (lists : List (List Entry)) → AreListsOf reply seen c lists → Every P lists
  AreListsOf-each P each c [] h = tt
  AreListsOf-each P each c (es ∷ lists) h = (each c es h.0, AreListsOf-each P each (suc c) lists h.1)

  -- the other entries at a stamp have the replies that are right after as much of the prefix
  module _ (before later : List Entry) (split : before ++ later ≡ seen) where
    taken : take (length before) seen ≡ before
    taken =
        ap (take (length before)) (sym split)
        ∙ (take-append-le (length before) before later (omega arith) ∙ take_all (length before) before (omega arith))

    others_at-unaccepted : (c : ℕ) (es : List Entry) → IsListOf reply seen c es → Every (IsUnaccepted reply before) (others_at (length before) es)
    others_at-unaccepted c es h =
        Every-map Both (IsUnaccepted reply before) each (others_at (length before) es)
        (Every-paired Passes Judged (others_at (length before) es) (Every-passes test es) (Every-filter Judged test es h.judged))
      where
        test : Entry → Bool
        test e = not (accepts e) && (e.stamp == length before)

        Passes : Entry → Type 0
        Passes e = test e ≡ true

        Judged : Entry → Type 0
        Judged e = accepts e ≡ false → e.reply ≡ reply (submissions (take e.stamp seen)) e.call

        Both : Entry → Type 0
        Both e = Passes e × Judged e

        each : (e : Entry) → Both e → IsUnaccepted reply before e
        each e h =
            let parts = and_parts (not (accepts e)) (e.stamp == length before) h.0 in
            let other = not-true (accepts e) parts.0 in
            let stamp = eqb-true e.stamp (length before) parts.1 in
            (other, stamp, h.1 other ∙ ap (λ es. reply (submissions es) e.call) (ap (λ n. take n seen) stamp ∙ taken))

    others_at-all : (c : ℕ) (lists : List (List Entry)) → AreListsOf reply seen c lists → Every (IsUnaccepted reply before) (flat_map (others_at (length before)) lists)
    others_at-all c lists h =
        Every-flat_map (IsUnaccepted reply before) (others_at (length before)) lists
        (AreListsOf-each (λ es. Every (IsUnaccepted reply before) (others_at (length before) es)) others_at-unaccepted c lists h)

-- a list at one of its places
split_at : {A : Type 0} (xs : List A) (k : ℕ) → k < length xs → (before : List A) × (x : A) × (later : List A) × (before ++ x ∷ later ≡ xs) × (length before ≡ k)
split_at [] k lt = absurd (omega (arith, lt))
split_at (x ∷ xs) zero lt = ([], x, xs, refl, refl)
split_at (x ∷ xs) (suc k) lt =
    let rest = split_at xs k (omega (arith, lt)) in
    (x ∷ rest.0, rest.1, rest.2, ap (λ l. x ∷ l) rest.3, ap suc rest.4)

-- ---- the lists of callers 0, 1 and so on, over one observed prefix

module _ (reply : List Point → Call → Reply) (started : ℕ) (seen : List Entry) (observed : IsObserved reply started seen)
    (lists : List (List Entry)) (each : AreListsOf reply seen 0 lists) (enough : started ≤ length lists) where
  numbered : AreNumbered 0 seen
  numbered = AreNumbered-observed reply started seen [] seen observed refl

  -- the accepting entry of the prefix at a place is the one that the lists have with that stamp
  accepting_at-place :
      (before later : List Entry) (e : Entry) → before ++ e ∷ later ≡ seen
      → flat_map (accepting_at (suc (length before))) lists ≡ e ∷ []
  accepting_at-place before later e split =
      let here = with_stamp-at 0 (suc (length before)) before e later (subst (AreNumbered 0) (sym split) numbered) (omega arith) in
      let one = ap (with_stamp (suc (length before))) (sym split) ∙ here in
      let begun = subst (Every (λ (e : Entry). e.caller < started)) (sym split) observed.begun in
      let caller = (Every-right (λ (e : Entry). e.caller < started) before (e ∷ later) begun).0 in
      accepting_at-one reply seen (suc (length before)) 0 lists e each one (omega arith) (omega arith)

  accepting_at-nowhere : (k : ℕ) → with_stamp k seen ≡ [] → flat_map (accepting_at k) lists ≡ []
  accepting_at-nowhere k none =
      accepting_at-none reply seen k 0 lists each (subst (Every (λ (e : Entry). e.caller < 0)) (sym none) tt)

  all-stamped : (k : ℕ) → length (flat_map (accepting_at k) lists) ≡ one_if (nat_lt 0 k && nat_le k (length seen))
  all-stamped zero = ap length (accepting_at-nowhere 0 (with_stamp-before 0 0 seen numbered (omega arith)))
  all-stamped (suc k) = by_cases (cases_lt k (length seen))
    where
      by_cases : (k < length seen) ⊎ (length seen ≤ k) → length (flat_map (accepting_at (suc k)) lists) ≡ one_if (nat_lt 0 (suc k) && nat_le (suc k) (length seen))
      by_cases (inl below) =
          let at = split_at seen k below in
          let one = accepting_at-place at.0 at.2 at.1 at.3 in
          let inside = and_from (nat_lt 0 (suc k)) (nat_le (suc k) (length seen)) (lt-ltb 0 (suc k) (omega arith)) (le-leb (suc k) (length seen) below) in
          ap (λ n. length (flat_map (accepting_at (suc n)) lists)) (sym at.4) ∙ (ap length one ∙ ap one_if (sym inside))
      by_cases (inr past) =
          let none = accepting_at-nowhere (suc k) (with_stamp-after 0 (suc k) seen numbered (omega arith)) in
          let outside = and_right (nat_lt 0 (suc k)) (nat_le (suc k) (length seen)) (lt-leb (suc k) (length seen) (omega arith)) in
          ap length none ∙ ap one_if (sym outside)

  module _ (front : List Point → List Point) (rule : IsRule front reply) where
    -- up to each stamp, the serialization has reached as much of the prefix
    reached-first : IsReached front reply [] (serialization 0 lists)
    reached-first =
        let none = accepting_at-nowhere 0 (with_stamp-before 0 0 seen numbered (omega arith)) in
        let nothing : IsReached front reply [] [] = record { accepted = refl; same = refl; legal = tt } in
        let others = reached-all_unaccepted front reply rule [] [] (flat_map (others_at 0) lists) nothing (others_at-all reply seen [] seen refl 0 lists each) in
        subst (λ es. IsReached front reply [] (es ++ flat_map (others_at 0) lists)) (sym none) others

    reached-next :
        (before later : List Entry) (e : Entry) → before ++ e ∷ later ≡ seen → IsReached front reply before (serialization (length before) lists)
        → IsReached front reply (before ++ e ∷ []) (serialization (suc (length before)) lists)
    reached-next before later e split reached =
        let n = length before in
        let legal = ContinuesLegally-right reply [] before (e ∷ later) (subst (λ s. IsLegal reply s) (sym split) observed.legal) in
        let all = subst (Every (λ (e : Entry). accepts e ≡ true)) (sym split) observed.accepted in
        let accepted = (Every-right (λ (e : Entry). accepts e ≡ true) before (e ∷ later) all).0 in
        let places = AreNumbered-observed reply started seen before (e ∷ later) observed split in
        let stamp : e.stamp ≡ n + 1 = omega (arith, places.0) in
        let taken = reached-accepting front reply rule before (serialization n lists) reached e accepted stamp (ap (λ (e : Entry). e.reply) legal.0) in
        let long : length (before ++ e ∷ []) ≡ suc n = omega (arith, length-append before (e ∷ [])) in
        let others = subst (λ k. Every (IsUnaccepted reply (before ++ e ∷ [])) (flat_map (others_at k) lists)) long
        (others_at-all reply seen (before ++ e ∷ []) later (append_assoc before (e ∷ []) later ∙ split) 0 lists each) in
        let all_taken = reached-all_unaccepted front reply rule (before ++ e ∷ []) (serialization n lists ++ e ∷ []) (flat_map (others_at (suc n)) lists) taken others in
        let one = accepting_at-place before later e split in
        let same = append_assoc (serialization n lists) (e ∷ []) (flat_map (others_at (suc n)) lists)
        ∙ ap (λ es. serialization n lists ++ (es ++ flat_map (others_at (suc n)) lists)) (sym one) in
        subst (IsReached front reply (before ++ e ∷ [])) same all_taken

    reached-onwards :
        (before later : List Entry) → before ++ later ≡ seen → IsReached front reply before (serialization (length before) lists)
        → IsReached front reply seen (serialization (length seen) lists)
    reached-onwards before [] split reached =
        subst (λ es. IsReached front reply es (serialization (length es) lists)) (sym (append-nil before) ∙ split) reached
    reached-onwards before (e ∷ later) split reached =
        let long : length (before ++ e ∷ []) ≡ suc (length before) = omega (arith, length-append before (e ∷ [])) in
        let next = reached-next before later e split reached in
        reached-onwards (before ++ e ∷ []) later (append_assoc before (e ∷ []) later ∙ split)
        (subst (λ n. IsReached front reply (before ++ e ∷ []) (serialization n lists)) (sym long) next)

    pub AreListsOf-lawful : AreSequentiallyConsistent reply (length seen) lists
    AreListsOf-lawful = record {
      named = AreListsOf-named reply seen 0 lists each;
      stamped = all-stamped;
      within = AreListsOf-each reply seen (Every (λ e. e.stamp ≤ length seen)) (λ c es h. h.known) 0 lists each;
      rising = AreListsOf-each reply seen IsRising (λ c es h. h.rising) 0 lists each;
      legal = (reached-onwards [] seen refl reached-first).legal;
    }

pub views_are_lawful : (front : List Point → List Point) (reply : List Point → Call → Reply) → ViewsAreSequentiallyConsistent front reply
views_are_lawful front reply rule started v consistent all =
    let list_for = (λ (c : ℕ). list_of c (lists_of v)) in
    let long : length (held started v) ≡ started = length-map-range_with_len list_for 0 started in
    let each = AreListsOf-counted reply v.observed list_for 0 started (λ c from to. list_of-IsListOf reply v.observed c (lists_of v) consistent.lists (all c (omega (arith, to)))) in
    AreListsOf-lawful reply started v.observed consistent.observed (held started v) each (omega (arith, long)) front rule
