-- What a pass knows is consistent wherever the rule holds.
use Rattle.std.proofs.Common.{◌≡◌, ℕ, zero, suc, ◌+◌, ◌≤◌, Bool, true, false, cond, eqb, ltb, eq-eqb, ne_eqb, Some, List, [], ◌∷◌, ◌++◌, filter, length, take, sym, ap, subst, ◌∙◌, arith}
use Rattle.std.proofs.lemmas.List.{append-nil}
use Rattle.std.proofs.lemmas.List.Elements.{filter-append}
use Rattle.era_core.specs.Lists.{times}
use Rattle.era_core.specs.Versions.{Copy}
use Rattle.era_core.proofs.ListFacts.{total-le, at_within}
use Rattle.era_rows.specs.Lists.{IsPrefix, of_caller, IsLog, IsListOf}
use Rattle.era_rows.specs.Rule.{callers_of, Agrees}
use Rattle.era_rows.specs.Plays.{IsConsistent}
use Rattle.era_rows.specs.declared.views.Knows.{Knows}
use Rattle.era_rows.specs.declared.sizes.Sizes.{Sizes}
use Rattle.era_rows.proofs.Seats.{bit, prefix_at, at_filter, at_behind, none_kept}
use Rattle.era_rows.proofs.Logs.{take_within}
use Rattle.era_rows.proofs.Moves.{Keeps, agrees}
use mathlib.Core.Option.{some, some-injective, some-ne-none}
use lib.ListN.{get_elem?}

-- what a filter keeps is there still
pub filter_at : {A : Type 0} (f : A → Bool) (xs : List A) (i : ℕ) (a : A) → get_elem? xs i ≡ some a → f a ≡ true → (j : ℕ) × (get_elem? (filter f xs) j ≡ some a)
filter_at f [] i a there keep = absurd (some-ne-none a (sym there))
filter_at {A} f (x ∷ xs) zero a there keep = (0, ap (λ b. get_elem? (cond b (x ∷ filter f xs) (filter f xs)) 0) (ap f (some-injective x a there) ∙ keep) ∙ there)
filter_at {A} f (x ∷ xs) (suc i) a there keep = by_test (f x) (filter_at f xs i a there keep)
  where
    by_test : (b : Bool) → (j : ℕ) × (get_elem? (filter f xs) j ≡ some a) → (j : ℕ) × (get_elem? (cond b (x ∷ filter f xs) (filter f xs)) j ≡ some a)
    by_test true rest = (suc rest.0, rest.1)
    by_test false rest = rest

bit_most : (b : Bool) → bit b ≤ 1
bit_most true = omega arith
bit_most false = omega arith

module _ {E : Type 0} (caller stamp : E → ℕ) (accepted : ℕ → E → Bool) (lawful : ℕ → Copy → Type 0) (stands : ℕ → Copy → List E → Type 0)
    (right : ℕ → E → List E → Type 0) where
  -- a list that a pass holds has all entries of its caller that the pass has seen, and there are no others
  list_seen : (shape made : ℕ) (log seen : List E) (c : ℕ) (es : List E) → IsPrefix seen log → IsLog caller stamp accepted right shape made log
      → IsListOf caller stamp accepted right shape log (length seen) c es → IsListOf caller stamp accepted right shape seen (length seen) c es
  list_seen shape made log seen c es begins logged list = record {
    named = list.named;
    told = list.told ∙ sym (ap (of_caller caller c) begins.1) ∙ filter-append (λ e. eqb (caller e) c) seen begins.0 ∙ ap (λ xs. of_caller caller c seen ++ xs) none_later ∙ append-nil (of_caller caller c seen);
    known = list.known;
    judged = λ n e there refused. subst (right shape e) (take_within seen log (stamp e) begins (list.known n e there)) (list.judged n e there refused);
    ordered = list.ordered;
    rising = list.rising;
  }
    where
      none_later : of_caller caller c begins.0 ≡ []
      none_later = none_kept (λ e. eqb (caller e) c) begins.0 (λ m e there. ne_eqb (caller e) c (λ same.
          let at : get_elem? log (length seen + m) ≡ some e = ap (λ xs. get_elem? xs (length seen + m)) (sym begins.1) ∙ at_behind seen begins.0 m ∙ there in
          let kept = filter_at (λ x. eqb (caller x) c) log (length seen + m) e at (eq-eqb (caller e) c same) in
          let own = at_filter (accepted shape) es kept.0 e (ap (λ xs. get_elem? xs kept.0) list.told ∙ kept.1) in
          absurd (let low = list.known own.0 e own.1 in let high = logged.stamped (length seen + m) e at in omega arith)))

  module _ (key : Sizes) (ws : List ℕ) (vs : List (Knows E)) (kept : Keeps caller stamp accepted lawful stands right key ws vs) (i j : ℕ) (k : Knows E) (at : get_elem? vs i ≡ some k)
      (mine : k.view.core.number ≡ Some j) where
    old : Agrees caller stamp accepted lawful stands right key ws kept.log kept.copies kept.made j k
    old = agrees caller stamp accepted lawful stands right key ws vs kept i j k at mine

    pub consistent : IsConsistent caller stamp accepted lawful stands right k
    consistent = record {
      logged = subst (λ s. IsLog caller stamp accepted right s k.view.passes k.seen) (sym old.sizes.shape_is) (record {
        accepts = λ n e there. kept.logged.accepts n e (in_log n e there);
        judged = λ n e there. subst (right key.shape e) (take_within k.seen kept.log n old.hears.seen_first (let low = at_within k.seen n e there in omega arith)) (kept.logged.judged n e (in_log n e there));
        stamped = λ n e there. kept.logged.stamped n e (in_log n e there);
        begun = λ n e there. (let low = kept.logged.begun n e (in_log n e there) in let enough = kept.enough in let same = old.sizes.passes_are in omega arith);
      });
      held = λ n c es there.
          subst (λ s. IsListOf caller stamp accepted right s k.seen (length k.seen) c es) (sym old.sizes.shape_is)
          (list_seen key.shape kept.made kept.log k.seen c es old.hears.seen_first kept.logged (old.hears.held n c es there));
      once = λ c. (let own = total-le (λ (u : Knows E). times c (callers_of u)) vs i k at in let all = kept.once c in let most = bit_most (ltb c kept.made) in omega arith);
      paired = old.hears.paired;
      means = λ n c there.
          let meant = kept.means n c (prefix_at k.view.copies kept.copies n c old.hears.known_first there) in
          let low = at_within k.view.copies n c there in
          let same = take_within k.seen kept.log n old.hears.seen_first (let all = old.hears.paired in omega arith) in
          subst (λ s. lawful s c × stands s c (take n k.seen)) (sym old.sizes.shape_is) (meant.0, subst (stands key.shape c) same meant.1);
    }
      where
        in_log : (n : ℕ) (e : E) → get_elem? k.seen n ≡ some e → get_elem? kept.log n ≡ some e
        in_log n e there = prefix_at k.seen kept.log n e old.hears.seen_first there
