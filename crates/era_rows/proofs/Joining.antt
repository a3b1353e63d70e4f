-- A pass that takes over what another knows and has keeps the rule.
use Rattle.std.proofs.Common.{◌≡◌, ◌≢◌, ℕ, zero, suc, ◌+◌, ◌-◌, ◌≤◌, ◌⊎◌, ⊎_elim, inl, inr, Bool, Some, None, List, [], ◌∷◌, ◌++◌, length, map, set, cond, ◌<◌, le-leb, refl, sym, ap, subst, ◌∙◌, arith}
use Rattle.std.proofs.lemmas.Bool.{cases_lt, lt-leb}
use Rattle.std.proofs.lemmas.List.{map-append}
use Rattle.std.proofs.lemmas.Option.{same_Some, none-some}
use Rattle.atomic_table.specs.Table.{State, Joins}
use Rattle.atomic_table.proofs.Lists.{at_longer}
use Rattle.era_core.specs.Lists.{times}
use Rattle.era_core.specs.Views.{View, held}
use Rattle.era_core.specs.Versions.{Copy}
use Rattle.era_core.specs.Sound.{Sound}
use Rattle.era_core.specs.Machine.{start_views}
use Rattle.era_core.proofs.ListFacts.{times-append, in-append_left, in-append_right, total-set, at_set, set_else}
use Rattle.era_rows.specs.Known.{longer, joining, spent_view}
use Rattle.era_rows.specs.Lists.{IsPrefix, IsListOf}
use Rattle.era_rows.specs.Rule.{core_of, callers_of, both_knows, spent_knows, AreWritten, Agrees, Kept}
use Rattle.era_rows.specs.declared.views.Knows.{Knows}
use Rattle.era_rows.specs.declared.sizes.Sizes.{Sizes}
use Rattle.era_rows.proofs.Seats.{core_at, core_set}
use Rattle.era_rows.proofs.Learning.{more_seen}
use Rattle.era_rows.proofs.JoinedViews.{joins}
use mathlib.Core.Option.{some}
use lib.ListN.{get_elem?}

module _ {A : Type 0} where
  -- an element of two lists is one of the first or one of the second
  pub at_either : (xs ys : List A) (i : ℕ) (a : A) → get_elem? (xs ++ ys) i ≡ some a → (get_elem? xs i ≡ some a) ⊎ ((n : ℕ) × (get_elem? ys n ≡ some a))
  at_either [] ys i a here = inr (i, here)
  at_either (x ∷ xs) ys zero a here = inl here
  at_either (x ∷ xs) ys (suc i) a here = at_either xs ys i a here

  longer_more : (xs ys : List A) → length xs < length ys → longer xs ys ≡ ys
  longer_more xs ys more = ap (λ s. cond s xs ys) (lt-leb (length ys) (length xs) more)

  longer_less : (xs ys : List A) → length ys ≤ length xs → longer xs ys ≡ xs
  longer_less xs ys less = ap (λ s. cond s xs ys) (le-leb (length ys) (length xs) less)

  -- the longer one of two lists that begin a third one begins it
  longer_begins : (xs ys all : List A) → IsPrefix xs all → IsPrefix ys all → IsPrefix (longer xs ys) all
  longer_begins xs ys all first second =
      ⊎_elim
      (λ more. subst (λ zs. IsPrefix zs all) (sym (longer_more xs ys more)) second)
      (λ less. subst (λ zs. IsPrefix zs all) (sym (longer_less xs ys less)) first)
      (cases_lt (length xs) (length ys))

  longer-length : (xs ys : List A) → length (longer xs ys) ≡ length xs + (length ys - length xs)
  longer-length xs ys =
      ⊎_elim
      (λ more. ap length (longer_more xs ys more) ∙ (let long : length ys ≡ length xs + (length ys - length xs) = omega arith in long))
      (λ less. ap length (longer_less xs ys less) ∙ (let long : length xs ≡ length xs + (length ys - length xs) = omega arith in long))
      (cases_lt (length xs) (length ys))

  pub longer_left : (xs ys : List A) → length xs ≤ length (longer xs ys)
  longer_left xs ys = let long = longer-length xs ys in omega arith

  pub longer_right : (xs ys : List A) → length ys ≤ length (longer xs ys)
  longer_right xs ys = let long = longer-length xs ys in omega arith

-- where each first list has one element more than the second one, the longer ones do
longer_paired : {A B : Type 0} (xs zs : List A) (ys us : List B) → length xs ≡ length ys + 1 → length zs ≡ length us + 1 → length (longer xs zs) ≡ length (longer ys us) + 1
longer_paired xs zs ys us first second = let a = longer-length xs zs in let b = longer-length ys us in omega arith

module _ {E : Type 0} (caller stamp : E → ℕ) (accepted : ℕ → E → Bool) (lawful : ℕ → Copy → Type 0) (stands : ℕ → Copy → List E → Type 0)
    (right : ℕ → E → List E → Type 0) (key : Sizes) where
  module _ (ws : List ℕ) (vs : List (Knows E)) (kept : Kept caller stamp accepted lawful stands right key ws vs) (i k : ℕ) (u : Knows E) (at : get_elem? vs i ≡ some u)
      (mine : u.view.core.number ≡ Some k) (j m : ℕ) (v : Knows E) (there : get_elem? vs j ≡ some v) (theirs : v.view.core.number ≡ Some m) (other : j ≢ i)
      (u_loose : u.view.core.pinned ≡ None) (v_loose : v.view.core.pinned ≡ None) (u_calm : u.view.core.noted ≡ None) (v_calm : v.view.core.noted ≡ None) where
    abbrev idle : List View
    idle = start_views kept.made (key.passes - kept.made)

    abbrev both : Knows E
    both = both_knows u v

    abbrev spent : Knows E
    spent = spent_knows

    abbrev half : List (Knows E)
    half = set vs i both

    still_there : get_elem? half j ≡ some v
    still_there = set_else vs i j both other ∙ there

    first : Agrees caller stamp accepted lawful stands right key ws kept.log kept.copies kept.made k u
    first = kept.each i k u at mine

    second : Agrees caller stamp accepted lawful stands right key ws kept.log kept.copies kept.made m v
    second = kept.each j m v there theirs

    cores_joined : set (set (map core_of vs ++ idle) i (joining u.view.core v.view.core)) j spent_view ≡ map core_of (set half j spent) ++ idle
    cores_joined = ap (λ xs. set xs j spent_view) (core_set vs idle i u both at) ∙ core_set half idle j v spent still_there

    held_lists : (n c : ℕ) (es : List E) → get_elem? (u.lists ++ v.lists) n ≡ some (c, es) → IsListOf caller stamp accepted right key.shape kept.log (length (longer u.seen v.seen)) c es
    held_lists n c es here =
        ⊎_elim
        (λ mine_here. more_seen caller stamp accepted right key.shape kept.log (length u.seen) (length (longer u.seen v.seen)) c es (longer_left u.seen v.seen) (first.hears.held n c es mine_here))
        (λ theirs_here. more_seen caller stamp accepted right key.shape kept.log (length v.seen) (length (longer u.seen v.seen)) c es (longer_right u.seen v.seen) (second.hears.held theirs_here.0 c es theirs_here.1))
        (at_either u.lists v.lists n (c, es) here)

    both_written : AreWritten key ws (u.view.core.fresh ++ v.view.core.fresh) (u.view.written ++ v.view.written)
    both_written = record {
      stand = λ n c here.
          ⊎_elim (λ one. first.written.stand n c one) (λ two. second.written.stand two.0 c two.1) (at_either u.view.written v.view.written n c here);
      in_fresh = λ n c here.
          ⊎_elim
          (λ one. in-append_left c.row u.view.core.fresh v.view.core.fresh (first.written.in_fresh n c one))
          (λ two. in-append_right c.row u.view.core.fresh v.view.core.fresh (second.written.in_fresh two.0 c two.1))
          (at_either u.view.written v.view.written n c here);
      placed = λ n c here.
          ⊎_elim (λ one. first.written.placed n c one) (λ two. second.written.placed two.0 c two.1) (at_either u.view.written v.view.written n c here);
    }

    both_agree : Agrees caller stamp accepted lawful stands right key ws kept.log kept.copies kept.made k both
    both_agree = record {
      begun = first.begun;
      sizes = first.sizes;
      makes = first.makes;
      reserves = first.reserves;
      hears = record {
        seen_first = longer_begins u.seen v.seen kept.log first.hears.seen_first second.hears.seen_first;
        known_first = longer_begins u.view.copies v.view.copies kept.copies first.hears.known_first second.hears.known_first;
        paired = longer_paired u.view.copies v.view.copies u.seen v.seen first.hears.paired second.hears.paired;
        pinned_seen = λ n r pinned. absurd (none-some (n, r) (sym u_loose ∙ pinned));
        own = (let own = first.hears.own in (own.0, own.1, at_longer u.lists v.lists own.0 (k, own.1) own.2));
        held = held_lists;
      };
      written = both_written;
    }

    pub joins_knows : Kept caller stamp accepted lawful stands right key ws (set (set vs i (both_knows u v)) j spent_knows)
    joins_knows = record {
      made = kept.made;
      log = kept.log;
      copies = kept.copies;
      enough = kept.enough;
      sound = subst (λ xs. Sound key.passes key.rows ws xs kept.copies) cores_joined
          (joins key.passes key.rows ws (map core_of vs ++ idle) kept.copies kept.sound i k u.view.core (core_at vs idle i u at) mine j m v.view.core (core_at vs idle j v there) theirs other u_loose v_loose u_calm v_calm);
      counted = kept.counted;
      logged = kept.logged;
      means = kept.means;
      once = λ c.
          let f : Knows E → ℕ = λ x. times c (callers_of x) in
          let one = total-set f vs i u both at in
          let two = total-set f half j v spent still_there in
          let sum : f both ≡ f u + f v = ap (times c) (map-append (λ (list : ℕ × List E). list.0) u.lists v.lists) ∙ times-append c (callers_of u) (callers_of v) in
          let none : f spent ≡ 0 = refl in
          let was = kept.once c in omega arith;
      each = λ a n x here is.
          ⊎_elim
          (λ gone. absurd (none-some n (ap (λ (y : Knows E). y.view.core.number) gone.1 ∙ is)))
          (λ rest. ⊎_elim
          (λ new.
          let e : k ≡ n = same_Some k n (sym mine ∙ ap (λ (y : Knows E). y.view.core.number) new.1 ∙ is) in
          subst (λ q. Agrees caller stamp accepted lawful stands right key ws kept.log kept.copies kept.made q x) e
          (subst (λ (y : Knows E). Agrees caller stamp accepted lawful stands right key ws kept.log kept.copies kept.made k y) new.1 both_agree))
          (λ old. kept.each a n x old.1 is)
          (at_set vs i a both x rest.1))
          (at_set half j a spent x here);
      spent = λ a x here none.
          ⊎_elim
          (λ gone. ap (λ (y : Knows E). held y.view.core) (sym gone.1))
          (λ rest. ⊎_elim
          (λ new. absurd (none-some k (sym none ∙ ap (λ (y : Knows E). y.view.core.number) (sym new.1) ∙ mine)))
          (λ old. kept.spent a x old.1 none)
          (at_set vs i a both x rest.1))
          (at_set half j a spent x here);
    }

  -- the step that joins two seats, where neither has pinned or noted a version
  pub joins_seats : {S : Type 0} (id k other m : ℕ) (u v : Knows E) → u.view.core.number ≡ Some k → v.view.core.number ≡ Some m
      → u.view.core.pinned ≡ None → v.view.core.pinned ≡ None → u.view.core.noted ≡ None → v.view.core.noted ≡ None
      → Joins (λ (s : State S (Knows E)). Kept caller stamp accepted lawful stands right key s.words s.views) id u other v (both_knows u v) spent_knows
  joins_seats id k other m u v mine theirs u_loose v_loose u_calm v_calm s kept at apart there =
      joins_knows s.words s.views kept id k u at mine other m v (sym (set_else s.views id other (both_knows u v) apart) ∙ there) theirs apart u_loose v_loose u_calm v_calm
