-- The first pass splits off the next one.
use Rattle.std.proofs.Common.{◌≡◌, ◌≢◌, ℕ, zero, suc, ◌+◌, ◌-◌, ◌<◌, ⊎_elim, Bool, cond, eqb, ltb, lt-ltb, le-ltb, ne_eqb, Some, None, List, [], ◌∷◌, ◌++◌, map, set, length, refl, sym, ap, subst, ◌∙◌, arith}
use Rattle.std.proofs.lemmas.Bool.{cases_eq, cases_lt}
use Rattle.std.proofs.lemmas.Option.{same_Some, none-some}
use Rattle.std.specs.Prelude.{unwrap_or}
use Rattle.atomic_table.proofs.Lists.{at_snoc}
use Rattle.era_core.specs.Lists.{times}
use Rattle.era_core.specs.Words.{reservation}
use Rattle.era_core.specs.Views.{View, start_view}
use Rattle.era_core.specs.Versions.{Copy}
use Rattle.era_core.specs.Sound.{Sound}
use Rattle.era_core.specs.Machine.{start_views}
use Rattle.era_core.proofs.ListFacts.{times-tail, times-head, total-append, total-set, at_set}
use Rattle.era_rows.specs.Known.{next_number}
use Rattle.era_rows.specs.Lists.{of_caller, IsListOf}
use Rattle.era_rows.specs.Rule.{core_of, callers_of, left_knows, right_knows, Agrees, Kept}
use Rattle.era_rows.specs.declared.views.Knows.{Knows}
use Rattle.era_rows.specs.declared.sizes.Sizes.{Sizes}
use Rattle.era_rows.proofs.Seats.{bit, core_at, at_behind, none_kept}
use Rattle.era_rows.proofs.Opening.{no_entries}
use mathlib.Core.Option.{some, some-injective, some-ne-none}
use lib.ListN.{get_elem?}

module _ {E : Type 0} where
  core_snoc : (vs : List (Knows E)) (w : Knows E) (rest : List View) → map core_of (vs ++ w ∷ []) ++ rest ≡ map core_of vs ++ core_of w ∷ rest
  core_snoc [] w rest = refl
  core_snoc (v ∷ vs) w rest = ap (λ us. core_of v ∷ us) (core_snoc vs w rest)

  -- a seat whose view of the machine stays, and a new seat behind all
  core_split : (vs : List (Knows E)) (i : ℕ) (k left w : Knows E) (rest : List View) → get_elem? vs i ≡ some k → core_of left ≡ core_of k
      → map core_of (set vs i left ++ w ∷ []) ++ rest ≡ map core_of vs ++ core_of w ∷ rest
  core_split [] i k left w rest at same = absurd (some-ne-none k (sym at))
  core_split (v ∷ vs) zero k left w rest at same =
      ap (λ u. u ∷ map core_of (vs ++ w ∷ []) ++ rest) (same ∙ sym (ap core_of (some-injective v k at))) ∙ ap (λ us. core_of v ∷ us) (core_snoc vs w rest)
  core_split (v ∷ vs) (suc i) k left w rest at same = ap (λ us. core_of v ∷ us) (core_split vs i k left w rest at same)

-- the passes that have not begun are the next one and those after it
next_idle : (made passes : ℕ) → made < passes → start_views made (passes - made) ≡ start_view made ∷ start_views (made + 1) (passes - (made + 1))
next_idle made passes some_left = let e : passes - made ≡ suc (passes - (made + 1)) = omega arith in ap (start_views made) e

-- where one caller more has begun, each list is held once again
one_more : (c made : ℕ) → bit (ltb c made) + times c (made ∷ []) ≡ bit (ltb c (made + 1))
one_more c made =
    ⊎_elim
    (λ below.
    let a : bit (ltb c made) ≡ 1 = ap bit (lt-ltb c made below) in
    let b : bit (ltb c (made + 1)) ≡ 1 = ap bit (lt-ltb c (made + 1) (omega arith)) in
    let n = times-tail c made [] (λ e. absurd (omega arith)) in omega arith)
    (λ past.
    let a : bit (ltb c made) ≡ 0 = ap bit (le-ltb c made past) in
    ⊎_elim
    (λ e.
    let b : bit (ltb c (made + 1)) ≡ 1 = ap bit (lt-ltb c (made + 1) (omega arith)) in
    let n : times c (made ∷ []) ≡ 1 = ap (λ x. times x (made ∷ [])) e ∙ times-head made [] in omega arith)
    (λ apart.
    let b : bit (ltb c (made + 1)) ≡ 0 = ap bit (le-ltb c (made + 1) (omega (arith, apart))) in
    let n = times-tail c made [] apart in omega arith)
    (cases_eq c made))
    (cases_lt c made)

module _ {E : Type 0} (caller stamp : E → ℕ) (accepted : ℕ → E → Bool) (lawful : ℕ → Copy → Type 0) (stands : ℕ → Copy → List E → Type 0)
    (right : ℕ → E → List E → Type 0) (key : Sizes) where
  module _ (ws : List ℕ) (vs : List (Knows E)) (kept : Kept caller stamp accepted lawful stands right key ws vs) (i : ℕ) (k : Knows E) (at : get_elem? vs i ≡ some k)
      (mine : k.view.core.number ≡ Some 0) (some_left : next_number k.view < key.passes) where
    abbrev made : ℕ
    made = kept.made

    abbrev idle : List View
    idle = start_views made (key.passes - made)

    abbrev cores : List View
    cores = map core_of vs ++ idle

    abbrev left : Knows E
    left = left_knows k

    abbrev next : Knows E
    next = right_knows k

    old : Agrees caller stamp accepted lawful stands right key ws kept.log kept.copies made 0 k
    old = kept.each i 0 k at mine

    next_is : next_number k.view ≡ made
    next_is = ap (λ o. unwrap_or o 0) old.makes

    room : made < key.passes
    room = subst (λ n. n < key.passes) next_is some_left

    cores_now : map core_of (set vs i left ++ next ∷ []) ++ start_views (made + 1) (key.passes - (made + 1)) ≡ cores
    cores_now =
        core_split vs i k left next (start_views (made + 1) (key.passes - (made + 1))) at refl
        ∙ ap (λ n. map core_of vs ++ start_view n ∷ start_views (made + 1) (key.passes - (made + 1))) next_is
        ∙ ap (λ rest. map core_of vs ++ rest) (sym (next_idle made key.passes room))

    idle_at : get_elem? cores (length (map core_of vs)) ≡ some (start_view made)
    idle_at =
        ap (get_elem? cores) (let e : length (map core_of vs) ≡ length (map core_of vs) + 0 = omega arith in e)
        ∙ at_behind (map core_of vs) idle 0
        ∙ ap (λ rest. get_elem? rest 0) (next_idle made key.passes room)

    -- a pass that has not begun has reserved nothing
    nothing_reserved : reservation key.passes key.rows ws made ≡ 0
    nothing_reserved = by_word (reservation key.passes key.rows ws made) refl
      where
        by_word : (n : ℕ) → reservation key.passes key.rows ws made ≡ n → n ≡ 0
        by_word zero e = refl
        by_word (suc n) e = absurd (none-some n ((kept.sound.each (length (map core_of vs)) (start_view made) idle_at).announced made n refl refl (let f : suc n ≡ n + 1 = omega arith in e ∙ f)))

    no_caller : of_caller caller (next_number k.view) kept.log ≡ []
    no_caller = none_kept (λ e. eqb (caller e) (next_number k.view)) kept.log (λ n e there. ne_eqb (caller e) (next_number k.view) (λ same. absurd (let low = kept.logged.begun n e there in omega (arith, next_is))))

    own_held : (n c : ℕ) (es : List E) → get_elem? next.lists n ≡ some (c, es) → IsListOf caller stamp accepted right key.shape kept.log (length k.seen) c es
    own_held zero c es there =
        subst (λ (t : ℕ × List E). IsListOf caller stamp accepted right key.shape kept.log (length k.seen) t.0 t.1) (some-injective (next_number k.view, []) (c, es) there)
        (no_entries caller stamp accepted lawful stands right key kept.log (length k.seen) (next_number k.view) no_caller)
    own_held (suc n) c es there = absurd (some-ne-none (c, es) (sym there))

    left_agrees : Agrees caller stamp accepted lawful stands right key ws kept.log kept.copies (made + 1) 0 left
    left_agrees = record {
      begun = omega arith;
      sizes = old.sizes;
      makes = ap (λ n. Some (n + 1)) next_is;
      reserves = old.reserves;
      hears = old.hears;
      written = old.written;
    }

    next_agrees : Agrees caller stamp accepted lawful stands right key ws kept.log kept.copies (made + 1) (next_number k.view) next
    next_agrees = record {
      begun = omega (arith, next_is);
      sizes = old.sizes;
      makes = sym (ap (λ b. cond b (Some (made + 1)) None) (ne_eqb (next_number k.view) 0 (λ e. absurd (let some_pass = old.begun in omega (arith, next_is)))));
      reserves = ap (λ n. reservation key.passes key.rows ws n) next_is ∙ nothing_reserved;
      hears = record {
        seen_first = old.hears.seen_first;
        known_first = old.hears.known_first;
        paired = old.hears.paired;
        pinned_seen = λ n r e. absurd (none-some (n, r) e);
        own = (0, [], refl);
        held = own_held;
      };
      written = record {
        stand = λ n c there. absurd (some-ne-none c (sym there));
        in_fresh = λ n c there. absurd (some-ne-none c (sym there));
        placed = λ n c there. absurd (some-ne-none c (sym there));
      };
    }

    other_agrees : (a m : ℕ) (u : Knows E) → a ≢ i → get_elem? vs a ≡ some u → u.view.core.number ≡ Some m → Agrees caller stamp accepted lawful stands right key ws kept.log kept.copies (made + 1) m u
    other_agrees a m u apart there is =
        let was = kept.each a m u there is in
        let other : m ≢ 0 = λ e. apart (kept.sound.apart a i u.view.core k.view.core 0 (core_at vs idle a u there) (core_at vs idle i k at) (is ∙ ap Some e) mine) in
        record {
          begun = (let low = was.begun in omega arith);
          sizes = was.sizes;
          makes = was.makes ∙ ap (λ b. cond b (Some made) None) (ne_eqb m 0 other) ∙ sym (ap (λ b. cond b (Some (made + 1)) None) (ne_eqb m 0 other));
          reserves = was.reserves;
          hears = was.hears;
          written = was.written;
        }

    pub splits : Kept caller stamp accepted lawful stands right key ws (set vs i left ++ next ∷ [])
    splits = record {
      made = made + 1;
      log = kept.log;
      copies = kept.copies;
      enough = omega (arith, room);
      sound = subst (λ us. Sound key.passes key.rows ws us kept.copies) (sym cores_now) kept.sound;
      counted = kept.counted;
      logged = record {
        accepts = kept.logged.accepts;
        judged = kept.logged.judged;
        stamped = kept.logged.stamped;
        begun = λ n e there. let low = kept.logged.begun n e there in omega arith;
      };
      means = kept.means;
      once = λ c.
          let f : Knows E → ℕ = λ u. times c (callers_of u) in
          let both = total-set f vs i k left at in
          let own : times c (next_number k.view ∷ []) ≡ times c (made ∷ []) = ap (λ n. times c (n ∷ [])) next_is in
          let more = one_more c made in
          let was = kept.once c in
          let sum = total-append f (set vs i left) (next ∷ []) in omega arith;
      each = λ a m u there is.
          ⊎_elim
          (λ in_old. ⊎_elim
          (λ t.
          let e : 0 ≡ m = same_Some 0 m (sym mine ∙ ap (λ (x : Knows E). x.view.core.number) t.1 ∙ is) in
          subst (λ n. Agrees caller stamp accepted lawful stands right key ws kept.log kept.copies (made + 1) n u) e
          (subst (λ (x : Knows E). Agrees caller stamp accepted lawful stands right key ws kept.log kept.copies (made + 1) 0 x) t.1 left_agrees))
          (λ t. other_agrees a m u t.0 t.1 is)
          (at_set vs i a left u in_old))
          (λ new.
          let e : next_number k.view ≡ m = same_Some (next_number k.view) m (ap (λ (x : Knows E). x.view.core.number) new ∙ is) in
          subst (λ n. Agrees caller stamp accepted lawful stands right key ws kept.log kept.copies (made + 1) n u) e
          (subst (λ (x : Knows E). Agrees caller stamp accepted lawful stands right key ws kept.log kept.copies (made + 1) (next_number k.view) x) new next_agrees))
          (at_snoc (set vs i left) next u a there);
      spent = λ a u there none.
          ⊎_elim
          (λ in_old. ⊎_elim
          (λ t. absurd (none-some 0 (sym none ∙ ap (λ (x : Knows E). x.view.core.number) (sym t.1) ∙ mine)))
          (λ t. kept.spent a u t.1 none)
          (at_set vs i a left u in_old))
          (λ new. absurd (none-some (next_number k.view) (sym none ∙ ap (λ (x : Knows E). x.view.core.number) (sym new))))
          (at_snoc (set vs i left) next u a there);
    }

-- what holds of the first and of each one after it holds of all
pub each_started : {A : Type 0} (P : ℕ → A → Type 0) (first : A) (others all : List A) → all ≡ first ∷ others → P 0 first → ((i : ℕ) (a : A) → get_elem? others i ≡ some a → P (i + 1) a)
    → (i : ℕ) (a : A) → get_elem? all i ≡ some a → P i a
each_started {A} P first others all same here rest i a there = by_place i (subst (λ xs. get_elem? xs i ≡ some a) same there)
  where
    by_place : (i : ℕ) → get_elem? (first ∷ others) i ≡ some a → P i a
    by_place zero at = subst (P 0) (some-injective first a at) here
    by_place (suc i) at = subst (λ n. P n a) (let e : i + 1 ≡ suc i = omega arith in e) (rest i a at)
