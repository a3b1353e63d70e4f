-- A pass that leaves its version keeps the rule, with the entry that it adds.
use Rattle.std.proofs.Common.{◌≡◌, ℕ, ⊎_elim, Bool, false, Option, Some, None, List, [], ◌∷◌, ◌++◌, map, set, length, take, refl, sym, subst, ◌∙◌}
use Rattle.std.proofs.lemmas.Option.{none-some, same_Some}
use Rattle.atomic_table.specs.Table.{Me, keeps, step, Allows}
use Rattle.era_core.specs.Words.{reservation_at}
use Rattle.era_core.specs.Versions.{Copy}
use Rattle.era_core.proofs.ListFacts.{set_here}
use Rattle.era_rows.specs.Lists.{IsListOf, add_named}
use Rattle.era_rows.specs.Rule.{callers_of, Hears, Agrees}
use Rattle.era_rows.specs.Plays.{having_left, has_left}
use Rattle.era_rows.specs.May.{MayAdd}
use Rattle.era_rows.specs.declared.views.Knows.{Knows}
use Rattle.era_rows.specs.declared.sizes.Sizes.{Sizes}
use Rattle.era_rows.proofs.Consistent.{consistent}
use Rattle.era_rows.proofs.Logs.{take_prefix, added_at, added_own, added_callers, list_named}
use Rattle.era_rows.proofs.Moves.{Keeps, agrees, unpinned}
use Rattle.era_rows.proofs.Allowing.{Held}
use mathlib.Core.Option.{some, none}
use lib.ListN.{get_elem?}

module _ {E : Type 0} (caller stamp : E → ℕ) (accepted : ℕ → E → Bool) (lawful : ℕ → Copy → Type 0) (stands : ℕ → Copy → List E → Type 0)
    (right : ℕ → E → List E → Type 0) (key : Sizes) where
  module _ (ws : List ℕ) (vs : List (Knows E)) (kept : Keeps caller stamp accepted lawful stands right key ws vs) (i j : ℕ) (k : Knows E) (at : get_elem? vs i ≡ some k)
      (mine : k.view.core.number ≡ Some j) (n p : ℕ) where
    old : Agrees caller stamp accepted lawful stands right key ws kept.log kept.copies kept.made j k
    old = agrees caller stamp accepted lawful stands right key ws vs kept i j k at mine

    abbrev HearsOf : List (ℕ × List E) → Type 0
    HearsOf lists = Hears caller stamp accepted lawful stands right key kept.log kept.copies j k.seen lists k.view.copies None

    -- what the lists that it holds then say agrees with the longest list
    hears_named : (entry : Option E) → ((e : E) → entry ≡ Some e → MayAdd caller stamp accepted lawful stands right n p e k) → HearsOf (add_named caller entry k.lists)
    hears_named None may = record {
      seen_first = old.hears.seen_first;
      known_first = old.hears.known_first;
      paired = old.hears.paired;
      pinned_seen = λ m q e. absurd (none-some (m, q) e);
      own = old.hears.own;
      held = old.hears.held;
    }
    hears_named (Some e) may = record {
      seen_first = old.hears.seen_first;
      known_first = old.hears.known_first;
      paired = old.hears.paired;
      pinned_seen = λ m q same. absurd (none-some (m, q) same);
      own =
          let mine_is : j ≡ caller e = same_Some j (caller e) (sym mine ∙ adds.named) in (
            old.hears.own.0,
            old.hears.own.1 ++ e ∷ [],
            subst (λ c. get_elem? (add_named caller (Some e) k.lists) old.hears.own.0 ≡ some (c, old.hears.own.1 ++ e ∷ [])) (sym mine_is)
                (added_own (caller e) e k.lists old.hears.own.0 old.hears.own.1 (subst (λ c. get_elem? k.lists old.hears.own.0 ≡ some (c, old.hears.own.1)) mine_is old.hears.own.2)),
          );
      held = λ m c es there.
          let was = added_at (caller e) e k.lists m c es there in
          let before = old.hears.held m c was.0 was.1 in
          ⊎_elim
          (λ own.
          subst (IsListOf caller stamp accepted right key.shape kept.log (length k.seen) c) (sym own.1)
          (list_named caller stamp accepted right key.shape kept.log (length k.seen) c was.0 e before (sym own.0) refused its_stamp is_right))
          (λ other. subst (IsListOf caller stamp accepted right key.shape kept.log (length k.seen) c) (sym other.1) before)
          was.2;
    }
      where
        adds : MayAdd caller stamp accepted lawful stands right n p e k
        adds = may e refl

        refused : accepted key.shape e ≡ false
        refused = subst (λ s. accepted s e ≡ false) old.sizes.shape_is adds.not_accepted

        its_stamp : stamp e ≡ length k.seen
        its_stamp = adds.stamped ∙ sym adds.current

        is_right : right key.shape e (take (length k.seen) kept.log)
        is_right = subst (right key.shape e) (sym (take_prefix k.seen kept.log old.hears.seen_first)) (subst (λ s. right s e k.seen) old.sizes.shape_is adds.is_right)

    named_callers : (entry : Option E) → map (λ list. list.0) (add_named caller entry k.lists) ≡ callers_of k
    named_callers None = refl
    named_callers (Some e) = added_callers (caller e) e k.lists

    pub leaves : (entry : Option E) → k.view.core.pinned ≡ Some (n, p) → ((e : E) → entry ≡ Some e → MayAdd caller stamp accepted lawful stands right n p e k)
        → Keeps caller stamp accepted lawful stands right key (set ws (reservation_at key.passes key.rows j) 0) (set vs i (having_left caller entry k))
    leaves entry pinned may =
        unpinned caller stamp accepted lawful stands right key ws vs kept i j k at mine n p pinned (add_named caller entry k.lists) (named_callers entry) (hears_named entry may)

  pub leaves_at : {S : Type 0} (slots id j : ℕ) (me : Me S (Knows E)) → me.0.view.core.number ≡ Some j → (n p : ℕ) (entry : Option E) → me.0.view.core.pinned ≡ Some (n, p)
      → ((e : E) → entry ≡ Some e → MayAdd caller stamp accepted lawful stands right n p e me.0) → (place : ℕ) → place ≡ reservation_at key.passes key.rows j
      → Allows (Held caller stamp accepted lawful stands right key) slots id me place (λ _. 0) (λ _. has_left caller stamp accepted lawful stands right entry (step slots place 0 0 none) me 0)
  leaves_at slots id j me mine n p entry pinned may place place_is s kept homes at bound =
      let now = having_left caller entry me.0 in
      let kept_now = leaves s.words s.views kept id j me.0 at mine n p entry pinned may in (
        now,
        keeps,
        tt,
        subst (λ x. Keeps caller stamp accepted lawful stands right key (set s.words x 0) (set s.views id now)) (sym place_is) kept_now,
        (refl, refl, consistent caller stamp accepted lawful stands right key (set s.words (reservation_at key.passes key.rows j) 0) (set s.views id now) kept_now id j now (set_here s.views id me.0 now at) mine),
      )
