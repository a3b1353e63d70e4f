-- What the running machine keeps, it keeps at every event.
use Rattle.std.proofs.Common.{◌≡◌, ℕ, ◌+◌, ◌<◌, ◌≤◌, ⊎_elim, Bool, true, false, cond, eqb, ltb, Option, Some, None, Result, Ok, Err, List, [], ◌∷◌, map, get_or, zero, suc, length, set, refl, sym, ap, subst, ◌∙◌, arith, length-set}
use Rattle.std.specs.Prelude.{◌&&◌, ◌||◌, slice_get, option_and_then, OnErr}
use Rattle.std.specs.List.{list_any}
use Rattle.std.proofs.Math.Logic.{∥∥₁_map, ∥∥₁_elim}
use Rattle.std.proofs.Math.Bridge.{le_prop}
use Rattle.std.proofs.lemmas.Bool.{cases_eq, and_parts, ltb-true, false≢true}
use Rattle.std.proofs.lemmas.Option.{slice_get_within}
use Rattle.std.proofs.lemmas.List.{length-map, map-set}
use Rattle.era_core.specs.Lists.{In, is_in}
use Rattle.era_core.specs.Words.{root_word, words_len, owner_at, reservation_at, cell_at, owner}
use Rattle.era_core.specs.Views.{View, rows_in, clears}
use Rattle.era_core.specs.Versions.{Copy}
use Rattle.era_core.specs.Machine.{Machine, IsSound, IsRunning, pass_of, pinned_rows, may, finds_pinned, words_announced, words_published, words_after, view_after, allows, allows_at, after, after_at, copies_after}
use Rattle.era_core.specs.declared.event.Event.{Event}
use Rattle.era_core.specs.declared.event.Event.TheVariants.{Note, Announce, Pin, Read, Take, Write, Publish, Unpin, Look, Free}
use Rattle.era_core.proofs.WordFacts.{owner_keeps_owner, owner_stored, reservation_keeps_owner, cell_keeps_owner, root_keeps_owner}
use Rattle.era_core.proofs.ListFacts.{set_again, times-append}
use Rattle.era_core.proofs.Frees.{held_within}
use Rattle.era_core.proofs.Readers.{pinned_within}
use Rattle.era_core.proofs.Runs.{after_sound, at_slice_get}

module _ (passes rows : ℕ) (ws : List ℕ) (long : length ws ≡ words_len passes rows) (small : (r : ℕ) → r < rows → owner passes rows ws r ≤ passes) where
  -- a store of a small owner
  stored_small : (x w : ℕ) → x < rows → w ≤ passes → (r : ℕ) → r < rows → owner passes rows (set ws (owner_at passes rows x) w) r ≤ passes
  stored_small x w row low r inside =
      ⊎_elim
      (λ e.
      let P : ℕ → Type 0 = λ y. owner passes rows (set ws (owner_at passes rows x) w) y ≤ passes in
      subst P (sym e) (omega (arith, owner_stored passes rows ws x w long row)))
      (λ apart. omega (arith, owner_keeps_owner passes rows ws x w r apart, small r inside))
      (cases_eq r x)

  owners_after : (v : View) (e : Event) → pass_of e < passes → may passes rows ws v e ≡ true → (r : ℕ) → r < rows → owner passes rows (words_after passes rows ws v e) r ≤ passes
  owners_after v (Note k) pass ok r inside = small r inside
  owners_after v (Announce k) pass ok r inside = announced v.noted
    where
      announced : (o : Option ℕ) → owner passes rows (words_announced passes rows ws k o) r ≤ passes
      announced None = small r inside
      announced (Some n) = omega (arith, reservation_keeps_owner passes rows ws k (n + 1) r pass, small r inside)
  owners_after v (Pin k) pass ok r inside = small r inside
  owners_after v (Read k x p) pass ok r inside = small r inside
  owners_after v (Take k x) pass ok r inside = taken (eqb (owner passes rows ws x) 0)
    where
      taken : (b : Bool) → owner passes rows (cond b (set ws (owner_at passes rows x) (k + 1)) ws) r ≤ passes
      taken true = stored_small x (k + 1) (ltb-true x rows ok) (omega arith) r inside
      taken false = small r inside
  owners_after v (Write k x p w) pass ok r inside = omega (arith, cell_keeps_owner passes rows ws x p w r inside, small r inside)
  owners_after v (Publish k q) pass ok r inside = published (finds_pinned passes rows ws v.pinned) v.pinned
    where
      published : (b : Bool) (o : Option (ℕ × ℕ)) → owner passes rows (cond b (words_published passes rows ws q o) ws) r ≤ passes
      published false o = small r inside
      published true None = small r inside
      published true (Some pin) = omega (arith, root_keeps_owner passes rows ws (root_word (pin.0 + 1) q) r, small r inside)
  owners_after v (Unpin k) pass ok r inside = omega (arith, reservation_keeps_owner passes rows ws k 0 r pass, small r inside)
  owners_after v (Look k j) pass ok r inside = small r inside
  owners_after v (Free k x) pass ok r inside =
      let both = and_parts (ltb x rows) (is_in x v.fresh || (eqb v.scanned passes && list_any (λ b. is_in x b.1 && clears v.least b.0) v.retired)) ok in
      stored_small x 0 (ltb-true x rows both.0) (omega arith) r inside

  -- an event stores one word at most
  length_after : (v : View) (e : Event) → length (words_after passes rows ws v e) ≡ length ws
  length_after v (Note k) = refl
  length_after v (Announce k) = announced v.noted
    where
      announced : (o : Option ℕ) → length (words_announced passes rows ws k o) ≡ length ws
      announced None = refl
      announced (Some n) = length-set ws (reservation_at passes rows k) (n + 1)
  length_after v (Pin k) = refl
  length_after v (Read k x p) = refl
  length_after v (Take k x) = taken (eqb (owner passes rows ws x) 0)
    where
      taken : (b : Bool) → length (cond b (set ws (owner_at passes rows x) (k + 1)) ws) ≡ length ws
      taken true = length-set ws (owner_at passes rows x) (k + 1)
      taken false = refl
  length_after v (Write k x p w) = length-set ws (cell_at passes rows x p) w
  length_after v (Publish k q) = published (finds_pinned passes rows ws v.pinned) v.pinned
    where
      published : (b : Bool) (o : Option (ℕ × ℕ)) → length (cond b (words_published passes rows ws q o) ws) ≡ length ws
      published false o = refl
      published true None = refl
      published true (Some pin) = length-set ws 0 (root_word (pin.0 + 1) q)
  length_after v (Unpin k) = length-set ws (reservation_at passes rows k) 0
  length_after v (Look k j) = refl
  length_after v (Free k x) = length-set ws (owner_at passes rows x) 0

module _ (m : Machine) (e : Event) (running : IsRunning m) where
  by_view : (o : Option View) → slice_get m.views (pass_of e) ≡ o → allows_at m e o ≡ true → ∥ ((cs : List Copy) × IsSound (after_at m e o) cs) ∥₁ → IsRunning (after_at m e o)
  by_view None is ok sound = absurd (false≢true ok)
  by_view (Some v) is ok sound = record {
    some_row = running.some_row;
    few_rows = running.few_rows;
    some_pass = running.some_pass;
    few_passes = running.few_passes;
    long = length_after m.passes m.rows m.words running.long running.owners v e ∙ running.long;
    counted = length-set m.views (pass_of e) (view_after m.passes m.rows m.words v e) ∙ running.counted;
    owners = owners_after m.passes m.rows m.words running.long running.owners v e (omega (arith, slice_get_within m.views (pass_of e) v is, running.counted)) ok;
    sound = sound;
  }

  by_test : (b : Bool) → allows m e ≡ b → ∥ ((cs : List Copy) × IsSound (cond b (after_at m e (slice_get m.views (pass_of e))) m) cs) ∥₁ → IsRunning (cond b (after_at m e (slice_get m.views (pass_of e))) m)
  by_test true ok sound = by_view (slice_get m.views (pass_of e)) refl ok sound
  by_test false refused sound = running

  pub running_after : IsRunning (after m e)
  running_after = by_test (allows m e) refl (∥∥₁_map running.sound (λ known. (copies_after m known.0 e, after_sound m known.0 e known.1)))

-- the machine with these words, and this view in the place of a pass's
abbrev pub put : Machine → ℕ → List ℕ → View → Machine
put m k words view = record { rows = m.rows; passes = m.passes; words = words; views = set m.views k view }

module _ (m : Machine) (e : Event) (v : View) (at : slice_get m.views (pass_of e) ≡ Some v) where
  -- an event of a pass is allowed where its view allows it
  pub allows_by : allows m e ≡ may m.passes m.rows m.words v e
  allows_by = ap (allows_at m e) at

  -- what an event leaves, where it is known whether the view allows it
  pub after_by : (done : Bool) (words : List ℕ) (view : View) → done ≡ may m.passes m.rows m.words v e
      → words ≡ cond done (words_after m.passes m.rows m.words v e) m.words
      → view ≡ cond done (view_after m.passes m.rows m.words v e) v
      → put m (pass_of e) words view ≡ after m e
  after_by true words view ok same_words same_view =
      ap (λ ws. put m (pass_of e) ws view) same_words ∙ ap (put m (pass_of e) (words_after m.passes m.rows m.words v e)) same_view
      ∙ ap (after_at m e) (sym at)
      ∙ ap (λ b. cond b (after_at m e (slice_get m.views (pass_of e))) m) (ok ∙ sym allows_by)
  after_by false words view refused same_words same_view =
      ap (λ ws. put m (pass_of e) ws view) same_words ∙ ap (put m (pass_of e) m.words) same_view
      ∙ ap (λ us. record { rows = m.rows; passes = m.passes; words = m.words; views = us }) (set_again m.views (pass_of e) v (at_slice_get m.views (pass_of e) v at))
      ∙ ap (λ b. cond b (after_at m e (slice_get m.views (pass_of e))) m) (refused ∙ sym allows_by)

-- the view of a running pass
pub slice_get-map : {A : Type 0} (f : A → View) (xs : List A) (i : ℕ) (d : A) → i < length xs → slice_get (map f xs) i ≡ Some (f (get_or xs i d))
slice_get-map f [] i d inside = absurd (omega arith)
slice_get-map f (x ∷ xs) zero d inside = refl
slice_get-map f (x ∷ xs) (suc i) d inside = slice_get-map f xs i d (omega arith)

module _ {A : Type 0} (f : A → View) (passes rows : ℕ) (ws : List ℕ) (xs : List A) where
  abbrev pub before : Machine
  before = record { rows = rows; passes = passes; words = ws; views = map f xs }

  -- what a running step shows: whether the event is allowed, what it leaves, and that what is kept is kept
  pub record Stepped (e : Event) (ok : Bool) (us : List ℕ) (q : A) : Type 0 where
    pub done : ok ≡ allows before e
    pub next : record { rows = rows; passes = passes; words = us; views = map f (set xs (pass_of e) q) } ≡ after before e
    pub running : IsRunning (record { rows = rows; passes = passes; words = us; views = map f (set xs (pass_of e) q) })

  pub stepped : (e : Event) (done : Bool) (us : List ℕ) (p q : A) → IsRunning before → pass_of e < passes → p ≡ get_or xs (pass_of e) p
      → done ≡ may passes rows ws (f p) e
      → us ≡ cond done (words_after passes rows ws (f p) e) ws
      → f q ≡ cond done (view_after passes rows ws (f p) e) (f p)
      → Stepped e done us q
  stepped e done us p q running inside is ok words view =
      let within : pass_of e < length xs = omega (arith, length-map xs f, running.counted) in
      let at : slice_get (map f xs) (pass_of e) ≡ Some (f p) = slice_get-map f xs (pass_of e) p within ∙ ap (λ (x : A). Some (f x)) (sym is) in
      let m : Machine = before in
      let moved : record { rows = rows; passes = passes; words = us; views = map f (set xs (pass_of e) q) } ≡ put before (pass_of e) us (f q) =
      ap (λ views. record { rows = rows; passes = passes; words = us; views = views }) (map-set f xs (pass_of e) q) in
      let next = moved ∙ after_by before e (f p) at done us (f q) ok words view in
      record {
        done = ok ∙ sym (allows_by before e (f p) at);
        next = next;
        running = subst IsRunning (sym next) (running_after before e running);
      }

  -- an event that the view of its pass refuses
  pub refused : (e : Event) (p : A) → IsRunning before → pass_of e < passes → p ≡ get_or xs (pass_of e) p → may passes rows ws (f p) e ≡ false
      → (allows before e ≡ false) × (after before e ≡ before)
  refused e p running inside is no_leave =
      let within : pass_of e < length xs = omega (arith, length-map xs f, running.counted) in
      let at : slice_get (map f xs) (pass_of e) ≡ Some (f p) = slice_get-map f xs (pass_of e) p within ∙ ap (λ (x : A). Some (f x)) (sym is) in
      let no : allows before e ≡ false = allows_by before e (f p) at ∙ no_leave in
      (no, ap (λ b. cond b (after_at before e (slice_get (map f xs) (pass_of e))) before) no)

-- a choice between equals
pub either_way : {A : Type 0} (b : Bool) (x : A) → x ≡ cond b x x
either_way true x = refl
either_way false x = refl

-- there is an element at each place below the length
pub at_place : {A : Type 0} (xs : List A) (i : ℕ) → i < length xs → (p : A) × (p ≡ get_or xs i p)
at_place [] i inside = absurd (omega arith)
at_place (x ∷ xs) zero inside = (x, refl)
at_place (x ∷ xs) (suc i) inside = at_place xs i (omega arith)

-- an element written where it stands
pub set_same : {A : Type 0} (xs : List A) (i : ℕ) (p : A) → p ≡ get_or xs i p → set xs i p ≡ xs
set_same [] i p is = refl
set_same (x ∷ xs) zero p is = ap (λ y. y ∷ xs) is
set_same (x ∷ xs) (suc i) p is = ap (λ ys. x ∷ ys) (set_same xs i p is)

module _ {A : Type 0} (f : A → View) (passes rows : ℕ) (ws : List ℕ) (xs : List A) where
  -- a running step that leaves the views
  pub record Stored (e : Event) (ok : Bool) (us : List ℕ) : Type 0 where
    pub done : ok ≡ allows (before f passes rows ws xs) e
    pub next : record { rows = rows; passes = passes; words = us; views = map f xs } ≡ after (before f passes rows ws xs) e
    pub running : IsRunning (record { rows = rows; passes = passes; words = us; views = map f xs })

  pub stored : (e : Event) (done : Bool) (us : List ℕ) (p : A) → IsRunning (before f passes rows ws xs) → pass_of e < passes → p ≡ get_or xs (pass_of e) p
      → done ≡ may passes rows ws (f p) e
      → us ≡ cond done (words_after passes rows ws (f p) e) ws
      → f p ≡ cond done (view_after passes rows ws (f p) e) (f p)
      → Stored e done us
  stored e done us p running inside is ok words view =
      let s = stepped f passes rows ws xs e done us p p running inside is ok words view in
      let same = set_same xs (pass_of e) p is in
      record {
        done = s.done;
        next = ap (λ (ys : List A). record { rows = rows; passes = passes; words = us; views = map f ys }) (sym same) ∙ s.next;
        running = subst (λ (ys : List A). IsRunning (record { rows = rows; passes = passes; words = us; views = map f ys })) same s.running;
      }

  -- a view that was written as it was
  pub view_again : (i : ℕ) (p q : A) → p ≡ get_or xs i p → f q ≡ f p
      → before f passes rows ws (set xs i q) ≡ before f passes rows ws xs
  view_again i p q is same =
      ap (λ vs. record { rows = rows; passes = passes; words = ws; views = vs })
      (map-set f xs i q ∙ ap (set (map f xs) i) same ∙ sym (map-set f xs i p) ∙ ap (map f) (set_same xs i p is))

module _ {A : Type 0} (f : A → View) (passes rows : ℕ) (ws : List ℕ) (xs : List A) (running : IsRunning (before f passes rows ws xs)) (k : ℕ) (inside : k < passes) (p : A) (is : p ≡ get_or xs k p) where
  view_there : slice_get (map f xs) k ≡ Some (f p)
  view_there =
      let within : k < length xs = omega (arith, length-map xs f, running.counted) in
      slice_get-map f xs k p within ∙ ap (λ (x : A). Some (f x)) (sym is)

  -- the rows of the version that a pass has pinned are rows
  pub pinned_inside : (x : ℕ) → In x (pinned_rows passes rows ws (f p).pinned) → x < rows
  pinned_inside x here = by_pin (f p).pinned refl here
    where
      by_pin : (o : Option (ℕ × ℕ)) → (f p).pinned ≡ o → In x (pinned_rows passes rows ws o) → x < rows
      by_pin None e none = absurd (omega arith)
      by_pin (Some pin) e there =
          ∥∥₁_elim running.sound le_prop (λ known.
          pinned_within (before f passes rows ws xs) known.0 known.1 k pin.0 pin.1 (ap (λ o. option_and_then (λ (v : View). v.pinned) o) view_there ∙ e) x there)

  -- so are its fresh rows
  pub fresh_inside : (x : ℕ) → In x (f p).fresh → x < rows
  fresh_inside x here =
      ∥∥₁_elim running.sound le_prop (λ known.
      let at = at_slice_get (map f xs) k (f p) view_there in
      held_within passes rows ws (map f xs) known.0 known.1.sound k k (f p) at (known.1.ordered k (f p) at) x (omega (arith, times-append x (f p).fresh (rows_in (f p).retired))))

-- a test that fails
pub none_of : (a b : Bool) → b ≡ false → (a && b) ≡ false
none_of true b e = e
none_of false b e = refl

-- what holds whatever the result is holds where it is an error
pub on_err : {A E : Type 0} {P : Type 0} (r : Result A E) → P → OnErr r P
on_err (Ok x) p = tt
on_err (Err e) p = p
