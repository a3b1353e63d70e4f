-- Where there is one pass, each row with an owner is its own, once it has pinned the current version.
use Rattle.std.proofs.Common.{◌≡◌, ◌≢◌, ℕ, zero, suc, ◌+◌, ◌-◌, ◌<◌, ◌≤◌, ⊎_elim, inl, inr, Bool, eqb, eq-eqb, Option, Some, None, List, [], ◌∷◌, ◌++◌, map, length, refl, sym, ap, subst, ◌∙◌, arith}
use Rattle.std.proofs.lemmas.Bool.{cases_lt}
use Rattle.era_core.specs.Lists.{times, In, total}
use Rattle.era_core.specs.Words.{version, owner, live}
use Rattle.era_core.specs.Views.{View, held}
use Rattle.era_core.specs.Versions.{Copy}
use Rattle.era_core.specs.Machine.{start_views}
use Rattle.era_core.proofs.ListFacts.{at_below}
use Rattle.era_core.proofs.Keeps.{owned_taken}
use Rattle.era_rows.specs.Known.{pinned_copy}
use Rattle.era_rows.specs.Held.{IsAlone, IsOwn}
use Rattle.era_rows.specs.Rule.{core_of, Agrees}
use Rattle.era_rows.specs.declared.views.Knows.{Knows}
use Rattle.era_rows.specs.declared.sizes.Sizes.{Sizes}
use Rattle.era_rows.proofs.Seats.{core_at, at_filter}
use Rattle.era_rows.proofs.Copies.{copy_is}
use Rattle.era_rows.proofs.Logs.{prefix_whole}
use Rattle.era_rows.proofs.Consistent.{filter_at}
use Rattle.era_rows.proofs.Moves.{Keeps}
use mathlib.Core.Option.{some, some-injective, some-ne-none}
use lib.ListN.{get_elem?}

module _ {A : Type 0} (f : A → ℕ) where
  -- a sum whose parts are all 0
  total_none : (l : List A) → ((b : ℕ) (x : A) → get_elem? l b ≡ some x → f x ≡ 0) → total f l ≡ 0
  total_none [] none = refl
  total_none (x ∷ xs) none = let first = none 0 x refl in let rest = total_none xs (λ b y there. none (suc b) y there) in omega arith

  -- a sum of which all parts but one are 0 is that part
  total_only : (l : List A) (i : ℕ) (a : A) → get_elem? l i ≡ some a → ((b : ℕ) (x : A) → b ≢ i → get_elem? l b ≡ some x → f x ≡ 0) → total f l ≡ f a
  total_only [] i a at none = absurd (some-ne-none a (sym at))
  total_only (x ∷ xs) zero a at none =
      let same : f x ≡ f a = ap f (some-injective x a at) in
      let rest = total_none xs (λ b y there. none (suc b) y (λ e. omega arith) there) in omega arith
  total_only (x ∷ xs) (suc i) a at none =
      let first = none 0 x (λ e. omega arith) refl in
      let rest = total_only xs i a at (λ b y apart there. none (suc b) y (λ e. apart (omega arith)) there) in omega arith

-- a sum over the views of the seats and those behind them
total_seats : {E : Type 0} (f : View → ℕ) (vs : List (Knows E)) (rest : List View) → total f (map core_of vs ++ rest) ≡ total (λ (u : Knows E). f u.view.core) vs + total f rest
total_seats f [] rest = omega arith
total_seats f (v ∷ vs) rest = let more = total_seats f vs rest in omega arith

module _ {E : Type 0} (caller stamp : E → ℕ) (accepted : ℕ → E → Bool) (lawful : ℕ → Copy → Type 0) (stands : ℕ → Copy → List E → Type 0)
    (right : ℕ → E → List E → Type 0) (key : Sizes) where
  module _ (ws : List ℕ) (vs : List (Knows E)) (kept : Keeps caller stamp accepted lawful stands right key ws vs) (i j : ℕ) (k : Knows E) (at : get_elem? vs i ≡ some k)
      (mine : k.view.core.number ≡ Some j) (one : k.view.passes ≡ 1) where
    abbrev idle : List View
    idle = start_views kept.made (key.passes - kept.made)

    old : Agrees caller stamp accepted lawful stands right key ws kept.log kept.copies kept.made j k
    old = kept.each i j k at mine

    one_pass : key.passes ≡ 1
    one_pass = omega (arith, old.sizes.passes_are, one)

    first : j ≡ 0
    first = omega (arith, one_pass, old.begun, kept.enough)

    -- each pass has begun
    none_idle : idle ≡ []
    none_idle = ap (start_views kept.made) (let none : key.passes - kept.made ≡ 0 = omega (arith, one_pass, old.begun, kept.enough) in none)

    -- another seat is one that was joined, and holds no row
    others_spent : (r b : ℕ) (u : Knows E) → b ≢ i → get_elem? vs b ≡ some u → times r (held u.view.core) ≡ 0
    others_spent r b u apart there = by_number u.view.core.number refl
      where
        by_number : (o : Option ℕ) → u.view.core.number ≡ o → times r (held u.view.core) ≡ 0
        by_number None is = ap (times r) (kept.spent b u there is)
        by_number (Some m) is =
            let there_core = core_at vs idle b u there in
            let low : m < key.passes = (kept.sound.each b u.view.core there_core).numbered m is in
            let same : j ≡ m = omega (arith, one_pass, first) in
            absurd (apart (kept.sound.apart b i u.view.core k.view.core m there_core (core_at vs idle i k at) is (mine ∙ ap Some same)))

    -- what all views hold is what this pass holds
    all_held : (r : ℕ) → total (λ (v : View). times r (held v)) (map core_of vs ++ idle) ≡ times r (held k.view.core)
    all_held r =
        let f : View → ℕ = λ v. times r (held v) in
        let seats = total_seats f vs idle in
        let none : total f idle ≡ 0 = ap (total f) none_idle in
        let own = total_only (λ (u : Knows E). f u.view.core) vs i k at (others_spent r) in omega arith

    -- the pass has seen all entries, since all of them are in its own list
    all_seen : length kept.log ≤ length k.seen
    all_seen = ⊎_elim (λ fewer. absurd (unseen fewer)) (λ all. all) (cases_lt (length k.seen) (length kept.log))
      where
        unseen : length k.seen < length kept.log → ⊥
        unseen fewer =
            let last = at_below kept.log (length k.seen) fewer in
            let its_caller : caller last.0 ≡ j = omega (arith, kept.logged.begun (length k.seen) last.0 last.1, kept.enough, one_pass, first) in
            let own = old.hears.own in
            let list = old.hears.held own.0 j own.1 own.2 in
            let kept_there = filter_at (λ x. eqb (caller x) j) kept.log (length k.seen) last.0 last.1 (eq-eqb (caller last.0) j its_caller) in
            let in_list = at_filter (accepted key.shape) own.1 kept_there.0 last.0 (ap (λ xs. get_elem? xs kept_there.0) list.told ∙ kept_there.1) in
            omega (arith, list.known in_list.0 last.0 in_list.1, kept.logged.stamped (length k.seen) last.0 last.1)

    -- the pass knows all versions
    all_known : k.view.copies ≡ kept.copies
    all_known = prefix_whole k.view.copies kept.copies old.hears.known_first (omega (arith, kept.sound.counted, kept.counted, old.hears.paired, all_seen))

    -- where the pass has pinned the last version that it knows, the rows of the current version are those of the pinned tree
    pinned_live : (n p : ℕ) → k.view.core.pinned ≡ Some (n, p) → length k.view.copies ≡ n + 1 → (pinned_copy k.view).rows ≡ live key.passes key.rows ws
    pinned_live n p pinned last =
        let whole : length k.view.copies ≡ length kept.copies = ap (λ (cs : List Copy). length cs) all_known in
        let current : version ws ≡ n = omega (arith, kept.sound.counted, whole, last) in
        let c = at_below kept.copies (version ws) (omega (arith, kept.sound.counted)) in
        let there : get_elem? k.view.copies n ≡ some c.0 = ap (λ cs. get_elem? cs n) all_known ∙ ap (get_elem? kept.copies) (sym current) ∙ c.1 in
        ap (λ (x : Copy). x.rows) (copy_is k.view.core.pinned k.view.copies n p c.0 pinned there) ∙ kept.sound.current c.0 c.1

  -- where there is one pass, which has pinned the last version that it knows, each row with an owner is its own
  pub owned_own : (ws : List ℕ) (vs : List (Knows E)) (kept : Keeps caller stamp accepted lawful stands right key ws vs) (i j : ℕ) (k : Knows E) → get_elem? vs i ≡ some k
      → k.view.core.number ≡ Some j → (r : ℕ) → r < key.rows → 0 < owner key.passes key.rows ws r → IsAlone k.view → IsOwn r k.view
  owned_own ws vs kept i j k at mine r row taken alone =
      let held_all = all_held ws vs kept i j k at mine alone.0 r in
      let places = kept.sound.places r in
      let is_owned = owned_taken key.passes key.rows ws r row taken in
      let pin = alone.1 in
      let same = pinned_live ws vs kept i j k at mine alone.0 pin.0 pin.1 pin.2 pin.3 in
      ⊎_elim
      (λ here. inl here)
      (λ none. inr (subst (In r) (sym same) (omega arith)))
      (cases_lt 0 (times r (held k.view.core)))
