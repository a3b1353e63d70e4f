-- While a pass is pinned, its version stands, whatever the others do.
use Rattle.std.proofs.Common.{◌≡◌, ◌≢◌, ℕ, zero, suc, ⊎_elim, Bool, true, false, not, cond, eqb, Option, Some, None, List, [], ◌∷◌, ◌++◌, set, refl, sym, ap, subst, ◌∙◌, eq-eqb}
use Rattle.std.specs.Prelude.{is_none, nat_lt, slice_get, option_and_then}
use Rattle.std.specs.List.{list_all}
use Rattle.std.proofs.lemmas.Bool.{and_parts, cases_eq, false≢true}
use Rattle.std.proofs.lemmas.Option.{same_Some, none-some}
use Rattle.era_core.specs.Lists.{In, is_in, without}
use Rattle.era_core.specs.Words.{reservation, owner}
use Rattle.era_core.specs.Views.{View, taking, without_row}
use Rattle.era_core.specs.Versions.{Copy, copy_at, look_up}
use Rattle.era_core.specs.Machine.{Machine, IsSound, VersionStands, pass_of, may, finds_pinned, view_published, view_after, versions_after, allows, allows_at, after, after_at, copies_at, copies_after, play, copies, cell_of, tree_of, pin_of, published_word, keeps_pin}
use Rattle.era_core.specs.declared.event.Event.{Event}
use Rattle.era_core.specs.declared.event.Event.TheVariants.{Note, Announce, Pin, Read, Take, Write, Publish, Unpin, Look, Free}
use Rattle.era_core.proofs.ListFacts.{at_longer}
use Rattle.era_core.proofs.Runs.{none_from, play_sound}
use Rattle.era_core.proofs.Readers.{reader, slice_get_at, slice_get_set, pinned_owned, pinned_word}
use mathlib.Core.Option.{some, some-injective}
use lib.ListN.{get_elem?}

slice_get_other : {A : Type 0} (xs : List A) (i j : ℕ) (x : A) → j ≢ i → slice_get (set xs i x) j ≡ slice_get xs j
slice_get_other [] i j x apart = refl
slice_get_other (y ∷ ys) zero zero x apart = absurd (apart refl)
slice_get_other (y ∷ ys) zero (suc j) x apart = refl
slice_get_other (y ∷ ys) (suc i) zero x apart = refl
slice_get_other (y ∷ ys) (suc i) (suc j) x apart = slice_get_other ys i j x (λ e. apart (ap suc e))

cond_pinned : (b : Bool) (u v : View) → u.pinned ≡ v.pinned → (cond b u v).pinned ≡ v.pinned
cond_pinned true u v same = same
cond_pinned false u v same = refl

-- no event of a pinned pass but Unpin changes its pin
pinned_after : (passes rows : ℕ) (ws : List ℕ) (v : View) (pin : ℕ × ℕ) (e : Event) → v.pinned ≡ Some pin → may passes rows ws v e ≡ true → keeps_pin (pass_of e) e ≡ true
    → (view_after passes rows ws v e).pinned ≡ v.pinned
pinned_after passes rows ws v pin (Note k) pinned ok keeps = refl
pinned_after passes rows ws v pin (Announce k) pinned ok keeps = refl
pinned_after passes rows ws v pin (Pin k) pinned ok keeps = absurd (none-some pin (sym (none_from v.pinned (and_parts (is_none v.pinned) (nat_lt 0 (reservation passes rows ws k)) ok).0) ∙ pinned))
pinned_after passes rows ws v pin (Read k r p) pinned ok keeps = refl
pinned_after passes rows ws v pin (Take k r) pinned ok keeps = cond_pinned (eqb (owner passes rows ws r) 0) (taking r v) v refl
pinned_after passes rows ws v pin (Write k r p w) pinned ok keeps = refl
pinned_after passes rows ws v pin (Publish k q) pinned ok keeps = cond_pinned (finds_pinned passes rows ws v.pinned) (view_published passes rows ws v q v.pinned) v (published v.pinned)
  where
    published : (o : Option (ℕ × ℕ)) → (view_published passes rows ws v q o).pinned ≡ v.pinned
    published None = refl
    published (Some x) = refl
pinned_after passes rows ws v pin (Unpin k) pinned ok keeps = absurd (false≢true (ap not (sym (eq-eqb k k refl)) ∙ keeps))
pinned_after passes rows ws v pin (Look k j) pinned ok keeps = refl
pinned_after passes rows ws v pin (Free k r) pinned ok keeps = either (is_in r v.fresh) (record v { fresh = without (r ∷ []) v.fresh }) (record v { retired = without_row r v.retired }) refl refl
  where
    either : (b : Bool) (x y : View) → x.pinned ≡ v.pinned → y.pinned ≡ v.pinned → (cond b x y).pinned ≡ v.pinned
    either true x y a b = a
    either false x y a b = b

module _ (k : ℕ) (pin : ℕ × ℕ) where
  pub pin_after : (m : Machine) (e : Event) → pin_of m k ≡ Some pin → keeps_pin k e ≡ true → pin_of (after m e) k ≡ Some pin
  pin_after m e pinned keeps = by_test (allows m e) refl
    where
      by_view : (o : Option View) → slice_get m.views (pass_of e) ≡ o → allows_at m e o ≡ true → pin_of (after_at m e o) k ≡ Some pin
      by_view None is ok = pinned
      by_view (Some v) is ok =
          let w = view_after m.passes m.rows m.words v e in
          ⊎_elim
          (λ (same : k ≡ pass_of e).
          let own : v.pinned ≡ Some pin = ap (λ o. option_and_then (λ (x : View). x.pinned) o) (sym is ∙ ap (slice_get m.views) (sym same)) ∙ pinned in
          let own_keeps : keeps_pin (pass_of e) e ≡ true = ap (λ j. keeps_pin j e) (sym same) ∙ keeps in
          let after_it = pinned_after m.passes m.rows m.words v pin e own ok own_keeps in
          ap (λ o. option_and_then (λ (x : View). x.pinned) o) (ap (slice_get (set m.views (pass_of e) w)) same ∙ slice_get_set m.views (pass_of e) v w is) ∙ after_it ∙ own)
          (λ apart. ap (λ o. option_and_then (λ (x : View). x.pinned) o) (slice_get_other m.views (pass_of e) k w apart) ∙ pinned)
          (cases_eq k (pass_of e))

      by_test : (b : Bool) → allows m e ≡ b → pin_of (cond b (after_at m e (slice_get m.views (pass_of e))) m) k ≡ Some pin
      by_test true ok = by_view (slice_get m.views (pass_of e)) refl ok
      by_test false refused = pinned

  pub pin_played : (es : List Event) (m : Machine) → pin_of m k ≡ Some pin → list_all (keeps_pin k) es ≡ true → pin_of (play es m) k ≡ Some pin
  pin_played [] m pinned keeps = pinned
  pin_played (e ∷ es) m pinned keeps =
      let both = and_parts (keeps_pin k e) (list_all (keeps_pin k) es) keeps in
      pin_played es (after m e) (pin_after m e pinned both.0) both.1

-- a version stays among the versions
copy_after : (m : Machine) (cs : List Copy) (e : Event) (n : ℕ) (c : Copy) → get_elem? cs n ≡ some c → get_elem? (copies_after m cs e) n ≡ some c
copy_after m cs e n c there = by_test (allows m e)
  where
    more : (b : Bool) (x : Copy) → get_elem? (cond b (cs ++ x ∷ []) cs) n ≡ some c
    more true x = at_longer cs (x ∷ []) n c there
    more false x = there

    by_event : (v : View) (d : Event) → get_elem? (versions_after m.passes m.rows m.words v cs d) n ≡ some c
    by_event v (Note k) = there
    by_event v (Announce k) = there
    by_event v (Pin k) = there
    by_event v (Read k r p) = there
    by_event v (Take k r) = there
    by_event v (Write k r p w) = there
    by_event v (Publish k q) = more (finds_pinned m.passes m.rows m.words v.pinned) (copy_at m.passes m.rows m.words q)
    by_event v (Unpin k) = there
    by_event v (Look k j) = there
    by_event v (Free k r) = there

    by_view : (o : Option View) → get_elem? (copies_at m cs e o) n ≡ some c
    by_view None = there
    by_view (Some v) = by_event v e

    by_test : (b : Bool) → get_elem? (cond b (copies_at m cs e (slice_get m.views (pass_of e))) cs) n ≡ some c
    by_test true = by_view (slice_get m.views (pass_of e))
    by_test false = there

copy_played : (es : List Event) (m : Machine) (cs : List Copy) (n : ℕ) (c : Copy) → get_elem? cs n ≡ some c → get_elem? (copies es m cs) n ≡ some c
copy_played [] m cs n c there = there
copy_played (e ∷ es) m cs n c there = copy_played es (after m e) (copies_after m cs e) n c (copy_after m cs e n c there)

-- whatever is done meanwhile, the version of a pass that does not unpin stands
pub version_held : (m : Machine) (cs : List Copy) → IsSound m cs → (k n root : ℕ) → pin_of m k ≡ Some (n, root) → (es : List Event) → list_all (keeps_pin k) es ≡ true
    → (pin_of (play es m) k ≡ Some (n, root)) × VersionStands m (play es m) root
version_held m cs is_sound k n root pinned es keeps =
    let later = play es m in
    let ds = copies es m cs in
    let later_sound = play_sound es m cs is_sound in
    let later_pinned = pin_played k (n, root) es m pinned keeps in
    let a = reader m cs is_sound k n root pinned in
    let b = reader later ds later_sound k n root later_pinned in
    let still : get_elem? ds n ≡ some a.copy = copy_played es m cs n a.copy a.there in
    let one : a.copy ≡ b.copy = some-injective a.copy b.copy (sym still ∙ b.there) in
    let same_tree : tree_of later root ≡ tree_of m root = b.rows_are ∙ ap (λ (c : Copy). c.rows) (sym one) ∙ sym a.rows_are in
    let word : (r p : ℕ) → published_word ds n r p ≡ published_word cs n r p = λ r p.
    ap (λ o. option_and_then (λ (c : Copy). look_up c.cells r p) o) (slice_get_at ds n a.copy still ∙ sym (slice_get_at cs n a.copy a.there)) in (
      later_pinned,
      record {
        tree = same_tree;
        owned = λ r here. pinned_owned later ds later_sound k n root later_pinned r (subst (In r) (sym same_tree) here);
        words = λ r p here place.
            same_Some (cell_of later r p) (cell_of m r p)
            (sym (pinned_word later ds later_sound k n root later_pinned r p (subst (In r) (sym same_tree) here) place) ∙ word r p ∙ pinned_word m cs is_sound k n root pinned r p here place);
      },
    )
