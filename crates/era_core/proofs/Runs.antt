-- Every event keeps a machine sound, so every schedule leaves a sound one.
use Rattle.std.proofs.Common.{length, take, drop, get_or, ◌≡◌, ℕ, zero, suc, ◌+◌, ◌<◌, ◌≤◌, ⊎_elim, inl, inr, Bool, true, false, cond, eqb, ltb, Option, Some, None, List, [], ◌∷◌, ◌++◌, set, slice_index, refl, sym, ap, subst, ◌∙◌, arith, length-set}
use Rattle.std.specs.Prelude.{◌&&◌, ◌||◌, is_none, is_some, option_map, slice_get}
use Rattle.std.specs.List.{list_all, list_any}
use Rattle.std.proofs.lemmas.Bool.{and_parts, or_cases, eqb-true, ltb-true, false≢true}
use Rattle.std.proofs.lemmas.Option.{same_Some, none-some}
use Rattle.std.proofs.lemmas.List.{take_more, take-append-drop, length-take-le}
use Rattle.std.proofs.Math.Seq.{drop-cons}
use Rattle.era_core.specs.declared.sizes.TheConstants.{WIDTH, LAST_VERSION, MOST_ROWS}
use Rattle.era_core.specs.Lists.{times, In, is_in, all_different, without}
use Rattle.era_core.specs.Words.{root_word, owner_at, reservation, owner, cell, tree_at}
use Rattle.era_core.specs.Views.{View, clears, taking, without_row}
use Rattle.era_core.specs.Versions.{Copy, copy_at, look_up}
use Rattle.era_core.specs.Sound.{Sound}
use Rattle.era_core.specs.Machine.{Machine, IsSound, start, start_copies, pass_of, may, may_publish, is_new_tree, are_linked, finds_pinned, words_announced, words_published, view_published, words_after, view_after, versions_after, allows_at, allows, after_at, after, copies_at, copies_after, play, copies, first_refused}
use Rattle.era_core.specs.declared.event.Event.{Event}
use Rattle.era_core.specs.declared.event.Event.TheVariants.{Note, Announce, Pin, Read, Take, Write, Publish, Unpin, Look, Free}
use Rattle.era_core.proofs.ListFacts.{in_cases, at_set, at_push, set_again}
use Rattle.era_core.proofs.CopyFacts.{copy_whole, copy_stands, copy_closed}
use Rattle.era_core.proofs.Keeps.{reads, notes, announces, pins, takes, writes, unpins, looks}
use Rattle.era_core.proofs.Frees.{frees_fresh, frees_retired}
use Rattle.era_core.proofs.Publishes.{publishes}
use Rattle.era_core.proofs.Starts.{starts}
use mathlib.Core.Option.{some}
use lib.ListN.{get_elem?}

pub none_from : {A : Type 0} (o : Option A) → is_none o ≡ true → o ≡ None
none_from None e = refl
none_from (Some x) e = absurd (false≢true e)

pub some_from : {A : Type 0} (o : Option A) → is_some o ≡ true → (x : A) × (o ≡ Some x)
some_from None e = absurd (false≢true e)
some_from (Some x) e = (x, refl)

-- what a list passes, each of its rows passes
pub list_all-in : (test : ℕ → Bool) (xs : List ℕ) (x : ℕ) → list_all test xs ≡ true → In x xs → test x ≡ true
list_all-in test [] x all here = absurd (omega arith)
list_all-in test (y ∷ ys) x all here =
    let both = and_parts (test y) (list_all test ys) all in
    ⊎_elim (λ e. ap test e ∙ both.0) (λ later. list_all-in test ys x both.1 later) (in_cases x y ys here)

pub different_once : (xs : List ℕ) → all_different xs ≡ true → (x : ℕ) → times x xs ≤ 1
different_once xs all x = once (times x xs) (λ here. eqb-true (times x xs) 1 (list_all-in (λ y. eqb (times y xs) 1) xs x all here))
  where
    once : (n : ℕ) → (0 < n → n ≡ 1) → n ≤ 1
    once zero one = omega arith
    once (suc n) one = let e = one (omega arith) in omega arith

pub at_slice_get : {A : Type 0} (xs : List A) (i : ℕ) (x : A) → slice_get xs i ≡ Some x → get_elem? xs i ≡ some x
at_slice_get [] i x there = absurd (none-some x there)
at_slice_get (y ∷ ys) zero x there = ap some (same_Some y x there)
at_slice_get (y ∷ ys) (suc i) x there = at_slice_get ys i x there

module _ (passes rows : ℕ) (few : rows ≤ MOST_ROWS) (ws : List ℕ) (vs : List View) (cs : List Copy) (sound : Sound passes rows ws vs cs) where
  announce_as : (k : ℕ) (v : View) (o : Option ℕ) → get_elem? vs k ≡ some v → v.number ≡ Some k → v.noted ≡ o → is_some o ≡ true → reservation passes rows ws k ≡ 0
      → Sound passes rows (words_announced passes rows ws k o) (set vs k v) cs
  announce_as k v None at mine noted is_noted none = absurd (false≢true is_noted)
  announce_as k v (Some n) at mine noted is_noted none = announces passes rows ws vs cs sound k k v at mine n noted none

  take_as : (k r : ℕ) (v : View) (free : Bool) → get_elem? vs k ≡ some v → v.number ≡ Some k → r < rows → eqb (owner passes rows ws r) 0 ≡ free
      → Sound passes rows (cond free (set ws (owner_at passes rows r) (k + 1)) ws) (set vs k (cond free (taking r v) v)) cs
  take_as k r v true at mine row free = takes passes rows ws vs cs sound k k v at mine r (k + 1) row (omega arith) (eqb-true (owner passes rows ws r) 0 free)
  take_as k r v false at mine row free = subst (λ (us : List View). Sound passes rows ws us cs) (sym (set_again vs k v at)) sound

  publish_as : (k q : ℕ) (v : View) (o : Option (ℕ × ℕ)) (found : Bool) → get_elem? vs k ≡ some v → v.number ≡ Some k → v.pinned ≡ o → may_publish passes rows ws v q o ≡ true
      → finds_pinned passes rows ws o ≡ found
      → Sound passes rows (cond found (words_published passes rows ws q o) ws) (set vs k (cond found (view_published passes rows ws v q o) v)) (cond found (cs ++ copy_at passes rows ws q ∷ []) cs)
  publish_as k q v None found at mine pinned ok is = absurd (false≢true ok)
  publish_as k q v (Some pin) false at mine pinned ok is = subst (λ (us : List View). Sound passes rows ws us cs) (sym (set_again vs k v at)) sound
  publish_as k q v (Some pin) true at mine pinned ok is =
      let old : List ℕ = tree_at passes rows ws pin.1 in
      let new : List ℕ = tree_at passes rows ws q in
      let a = and_parts (ltb pin.0 LAST_VERSION && ltb q rows && is_in q v.fresh) (is_new_tree passes rows ws v.fresh old new) ok in
      let b = and_parts (ltb pin.0 LAST_VERSION && ltb q rows) (is_in q v.fresh) a.0 in
      let c = and_parts (are_linked passes rows ws new && all_different new) (list_all (λ x. is_in x v.fresh || is_in x old) new) a.1 in
      let d = and_parts (are_linked passes rows ws new) (all_different new) c.0 in
      publishes passes rows ws vs cs sound k k v at mine pin.0 pin.1 q pinned (eqb-true (slice_index ws 0) (root_word pin.0 pin.1) is) (omega arith)
      (ltb-true 0 (times q v.fresh) b.1)
      (λ x here.
      ⊎_elim
      (λ fresh. inl (ltb-true 0 (times x v.fresh) fresh))
      (λ kept. inr (ltb-true 0 (times x old) kept))
      (or_cases (is_in x v.fresh) (is_in x old) (list_all-in (λ y. is_in y v.fresh || is_in y old) new x c.1 here)))
      (copy_at passes rows ws q) refl refl (copy_stands passes rows ws q) (copy_closed passes rows ws q (different_once new d.1))

  -- each event that is allowed keeps what is sound
  pub event_sound : (e : Event) (v : View) → get_elem? vs (pass_of e) ≡ some v → v.number ≡ Some (pass_of e) → may passes rows ws v e ≡ true
      → Sound passes rows (words_after passes rows ws v e) (set vs (pass_of e) (view_after passes rows ws v e)) (versions_after passes rows ws v cs e)
  event_sound (Note k) v at mine ok =
      let both = and_parts (is_none v.pinned) (eqb (reservation passes rows ws k) 0) ok in
      notes passes rows ws vs cs sound k k v at mine (none_from v.pinned both.0) (eqb-true (reservation passes rows ws k) 0 both.1)
  event_sound (Announce k) v at mine ok =
      let both = and_parts (is_some v.noted) (eqb (reservation passes rows ws k) 0) ok in
      announce_as k v v.noted at mine refl both.0 (eqb-true (reservation passes rows ws k) 0 both.1)
  event_sound (Pin k) v at mine ok =
      let both = and_parts (is_none v.pinned) (ltb 0 (reservation passes rows ws k)) ok in
      pins passes rows ws vs cs sound k k v at mine (none_from v.pinned both.0) (ltb-true 0 (reservation passes rows ws k) both.1)
  event_sound (Read k r p) v at mine ok = reads passes rows ws vs cs sound k k v at mine (cell passes rows ws r p)
  event_sound (Take k r) v at mine ok = take_as k r v (eqb (owner passes rows ws r) 0) at mine (ltb-true r rows ok) refl
  event_sound (Write k r p w) v at mine ok =
      let a = and_parts (ltb r rows && ltb p WIDTH) (is_in r v.fresh) ok in
      let b = and_parts (ltb r rows) (ltb p WIDTH) a.0 in
      writes passes rows ws vs cs sound k k v at mine r p w (ltb-true p WIDTH b.1) (ltb-true 0 (times r v.fresh) a.1)
  event_sound (Publish k q) v at mine ok = publish_as k q v v.pinned (finds_pinned passes rows ws v.pinned) at mine refl ok refl
  event_sound (Unpin k) v at mine ok = let pin = some_from v.pinned ok in unpins passes rows ws vs cs sound k k v at mine pin.0.0 pin.0.1 pin.1
  event_sound (Look k j) v at mine ok =
      let a = and_parts (ltb j passes) (eqb j 0 || eqb j v.scanned) ok in
      looks passes rows ws vs cs sound k k v at mine j (ltb-true j passes a.0)
      (⊎_elim (λ e. inl (eqb-true j 0 e)) (λ e. inr (eqb-true j v.scanned e)) (or_cases (eqb j 0) (eqb j v.scanned) a.1))
  event_sound (Free k r) v at mine ok =
      let scan : Bool = eqb v.scanned passes && list_any (λ b. is_in r b.1 && clears v.least b.0) v.retired in
      let a = and_parts (ltb r rows) (is_in r v.fresh || scan) ok in
      ⊎_elim
      (λ fresh. frees_fresh passes rows ws vs cs sound k k v at mine r (ltb-true 0 (times r v.fresh) fresh))
      (λ retired.
      let b = and_parts (eqb v.scanned passes) (list_any (λ b. is_in r b.1 && clears v.least b.0) v.retired) retired in
      frees_retired passes rows ws vs cs sound k k v at mine r (eqb-true v.scanned passes b.0) b.1)
      (or_cases (is_in r v.fresh) scan a.1)

cond_number : (b : Bool) (u v : View) → u.number ≡ v.number → (cond b u v).number ≡ v.number
cond_number true u v same = same
cond_number false u v same = refl

-- no event changes the number of a view
pub number_after : (passes rows : ℕ) (ws : List ℕ) (v : View) (e : Event) → (view_after passes rows ws v e).number ≡ v.number
number_after passes rows ws v (Note k) = refl
number_after passes rows ws v (Announce k) = refl
number_after passes rows ws v (Pin k) = refl
number_after passes rows ws v (Read k r p) = refl
number_after passes rows ws v (Take k r) = cond_number (eqb (owner passes rows ws r) 0) (taking r v) v refl
number_after passes rows ws v (Write k r p w) = refl
number_after passes rows ws v (Publish k q) = cond_number (finds_pinned passes rows ws v.pinned) (view_published passes rows ws v q v.pinned) v (published v.pinned)
  where
    published : (o : Option (ℕ × ℕ)) → (view_published passes rows ws v q o).number ≡ v.number
    published None = refl
    published (Some pin) = refl
number_after passes rows ws v (Unpin k) = refl
number_after passes rows ws v (Look k j) = refl
number_after passes rows ws v (Free k r) = either (is_in r v.fresh) (record v { fresh = without (r ∷ []) v.fresh }) (record v { retired = without_row r v.retired }) refl refl
  where
    either : (b : Bool) (x y : View) → x.number ≡ v.number → y.number ≡ v.number → (cond b x y).number ≡ v.number
    either true x y a b = a
    either false x y a b = b

-- each version has all words of its rows
abbrev pub AreWhole : List Copy → Type 0
AreWhole cs = (n : ℕ) (c : Copy) → get_elem? cs n ≡ some c → (r p : ℕ) → In r c.rows → p < WIDTH → is_some (look_up c.cells r p) ≡ true

whole_after : (passes rows : ℕ) (ws : List ℕ) (v : View) (cs : List Copy) (e : Event) → AreWhole cs → AreWhole (versions_after passes rows ws v cs e)
whole_after passes rows ws v cs (Publish k q) whole = more (finds_pinned passes rows ws v.pinned)
  where
    more : (b : Bool) → AreWhole (cond b (cs ++ copy_at passes rows ws q ∷ []) cs)
    more true n c there r p here place =
        ⊎_elim
        (λ was. whole n c was r p here place)
        (λ last.
        let P : Copy → Type 0 = λ x. In r x.rows → is_some (look_up x.cells r p) ≡ true in
        subst P last.1 (λ inside. copy_whole passes rows ws q r p inside place) here)
        (at_push cs (copy_at passes rows ws q) c n there)
    more false n c there r p here place = whole n c there r p here place
whole_after passes rows ws v cs (Note k) whole = whole
whole_after passes rows ws v cs (Announce k) whole = whole
whole_after passes rows ws v cs (Pin k) whole = whole
whole_after passes rows ws v cs (Read k r p) whole = whole
whole_after passes rows ws v cs (Take k r) whole = whole
whole_after passes rows ws v cs (Write k r p w) whole = whole
whole_after passes rows ws v cs (Unpin k) whole = whole
whole_after passes rows ws v cs (Look k j) whole = whole
whole_after passes rows ws v cs (Free k r) whole = whole

module _ (m : Machine) (cs : List Copy) (e : Event) (is_sound : IsSound m cs) where
  step_sound : (v : View) → get_elem? m.views (pass_of e) ≡ some v → may m.passes m.rows m.words v e ≡ true
      → IsSound (after_at m e (Some v)) (copies_at m cs e (Some v))
  step_sound v at ok =
      let mine = is_sound.ordered (pass_of e) v at in
      let w = view_after m.passes m.rows m.words v e in
      record {
        few = is_sound.few;
        counted = length-set m.views (pass_of e) w ∙ is_sound.counted;
        ordered = λ k u there.
            ⊎_elim
            (λ is_new. sym (ap (λ (x : View). x.number) is_new.1) ∙ number_after m.passes m.rows m.words v e ∙ mine ∙ ap Some (sym is_new.0))
            (λ was. is_sound.ordered k u was.1)
            (at_set m.views (pass_of e) k w u there);
        sound = event_sound m.passes m.rows is_sound.few m.words m.views cs is_sound.sound e v at mine ok;
        whole = whole_after m.passes m.rows m.words v cs e is_sound.whole;
      }

  by_view : (o : Option View) → slice_get m.views (pass_of e) ≡ o → allows_at m e o ≡ true → IsSound (after_at m e o) (copies_at m cs e o)
  by_view None is ok = absurd (false≢true ok)
  by_view (Some v) is ok = step_sound v (at_slice_get m.views (pass_of e) v is) ok

  by_test : (b : Bool) → allows m e ≡ b
      → IsSound (cond b (after_at m e (slice_get m.views (pass_of e))) m) (cond b (copies_at m cs e (slice_get m.views (pass_of e))) cs)
  by_test true ok = by_view (slice_get m.views (pass_of e)) refl ok
  by_test false refused = is_sound

  -- an event keeps a machine sound, whether it is allowed or not
  pub after_sound : IsSound (after m e) (copies_after m cs e)
  after_sound = by_test (allows m e) refl

-- so does a schedule
pub play_sound : (es : List Event) (m : Machine) (cs : List Copy) → IsSound m cs → IsSound (play es m) (copies es m cs)
play_sound [] m cs is_sound = is_sound
play_sound (e ∷ es) m cs is_sound = play_sound es (after m e) (copies_after m cs e) (after_sound m cs e is_sound)

-- every schedule from the start
pub every_schedule : (rows passes : ℕ) (es : List Event) → 0 < rows → rows ≤ MOST_ROWS → IsSound (play es (start rows passes)) (copies es (start rows passes) (start_copies rows passes))
every_schedule rows passes es some_row few = play_sound es (start rows passes) (start_copies rows passes) (starts passes rows some_row few)

-- a list of events and one more
pub play-push : (es : List Event) (e : Event) (m : Machine) → play (es ++ e ∷ []) m ≡ after (play es m) e
play-push [] e m = refl
play-push (d ∷ es) e m = play-push es e (after m d)

-- the first refusal of a list whose first event is allowed, and of one whose first event is not
refusal_later : (d : Event) (es : List Event) (m : Machine) → allows m d ≡ true → first_refused (d ∷ es) m ≡ option_map suc (first_refused es (after m d))
refusal_later d es m ok = ap (λ b. cond b (option_map suc (first_refused es (after m d))) (Some 0)) ok

refusal_now : (d : Event) (es : List Event) (m : Machine) → allows m d ≡ false → first_refused (d ∷ es) m ≡ Some 0
refusal_now d es m denied = ap (λ b. cond b (option_map suc (first_refused es (after m d))) (Some 0)) denied

none_under : (o : Option ℕ) → option_map suc o ≡ None → o ≡ None
none_under None e = refl
none_under (Some x) e = absurd (none-some (suc x) (sym e))

-- where no event of a list is refused, its first is allowed, and none of the others is refused
first_allowed : (d : Event) (es : List Event) (m : Machine) → first_refused (d ∷ es) m ≡ None → (allows m d ≡ true) × (first_refused es (after m d) ≡ None)
first_allowed d es m none = by_test (allows m d) refl
  where
    by_test : (b : Bool) → allows m d ≡ b → (allows m d ≡ true) × (first_refused es (after m d) ≡ None)
    by_test true ok = (ok, none_under (first_refused es (after m d)) (sym (refusal_later d es m ok) ∙ none))
    by_test false denied = absurd (none-some 0 (sym none ∙ refusal_now d es m denied))

-- events that are allowed, and one more that is
pub first_refused-push : (es : List Event) (e : Event) (m : Machine) → first_refused es m ≡ None → allows (play es m) e ≡ true → first_refused (es ++ e ∷ []) m ≡ None
first_refused-push [] e m none ok = refusal_later e [] m ok
first_refused-push (d ∷ es) e m none ok =
    let first = first_allowed d es m none in
    refusal_later d (es ++ e ∷ []) m first.0 ∙ ap (option_map suc) (first_refused-push es e (after m d) first.1 ok)

-- events that are allowed, and one that is not, whatever comes then
pub first_refused-here : (es more : List Event) (e : Event) (m : Machine) → first_refused es m ≡ None → allows (play es m) e ≡ false → first_refused (es ++ e ∷ more) m ≡ Some (length es)
first_refused-here [] more e m none denied = refusal_now e more m denied
first_refused-here (d ∷ es) more e m none denied =
    let first = first_allowed d es m none in
    refusal_later d (es ++ e ∷ more) m first.0 ∙ ap (option_map suc) (first_refused-here es more e (after m d) first.1 denied)

-- the events of a list up to one, and what that one leaves
module _ (es : List Event) (i : ℕ) (d : Event) (m core : Machine) (inside : i < length es) (so_far : core ≡ play (take i es) m) where
  pub play_more : (next : Machine) → next ≡ after core (get_or es i d) → next ≡ play (take (i + 1) es) m
  play_more next is =
      is ∙ ap (λ (x : Machine). after x (get_or es i d)) so_far ∙ sym (play-push (take i es) (get_or es i d) m) ∙ ap (λ (l : List Event). play l m) (sym (take_more es i d inside))

  module _ (none : first_refused (take i es) m ≡ None) (ok : Bool) (is : ok ≡ allows core (get_or es i d)) where
    allowed_there : ok ≡ allows (play (take i es) m) (get_or es i d)
    allowed_there = is ∙ ap (λ (x : Machine). allows x (get_or es i d)) so_far

    pub first_refused_later : ok ≡ true → first_refused (take (i + 1) es) m ≡ None
    first_refused_later allowed =
        ap (λ (l : List Event). first_refused l m) (take_more es i d inside) ∙ first_refused-push (take i es) (get_or es i d) m none (sym allowed_there ∙ allowed)

    pub first_refused_at : ok ≡ false → first_refused es m ≡ Some i
    first_refused_at denied =
        let parts : es ≡ take i es ++ get_or es i d ∷ drop (suc i) es = sym (take-append-drop i es) ∙ ap (λ (l : List Event). take i es ++ l) (drop-cons es i d inside) in
        let before : length (take i es) ≡ i = length-take-le i es (omega arith) in
        ap (λ (l : List Event). first_refused l m) parts
        ∙ first_refused-here (take i es) (drop (suc i) es) (get_or es i d) m none (sym allowed_there ∙ denied)
        ∙ ap (λ (n : ℕ). Some n) before

-- no event changes how many rows and passes there are
pub after_sizes : (m : Machine) (e : Event) → ((after m e).rows ≡ m.rows) × ((after m e).passes ≡ m.passes)
after_sizes m e = by_test (allows m e)
  where
    by_view : (o : Option View) → ((after_at m e o).rows ≡ m.rows) × ((after_at m e o).passes ≡ m.passes)
    by_view None = (refl, refl)
    by_view (Some v) = (refl, refl)

    by_test : (b : Bool) → ((cond b (after_at m e (slice_get m.views (pass_of e))) m).rows ≡ m.rows) × ((cond b (after_at m e (slice_get m.views (pass_of e))) m).passes ≡ m.passes)
    by_test true = by_view (slice_get m.views (pass_of e))
    by_test false = (refl, refl)

pub play_sizes : (es : List Event) (m : Machine) → ((play es m).rows ≡ m.rows) × ((play es m).passes ≡ m.passes)
play_sizes [] m = (refl, refl)
play_sizes (e ∷ es) m =
    let rest = play_sizes es (after m e) in
    let first = after_sizes m e in
    (rest.0 ∙ first.0, rest.1 ∙ first.1)
