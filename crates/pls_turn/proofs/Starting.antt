-- The table at the start keeps the rule.
use Rattle.std.proofs.Common.{◌≡◌, ℕ, zero, suc, ◌+◌, ◌-◌, ◌<◌, ◌≤◌, ◌==◌, eqb-true, Bool, true, false, List, [], ◌∷◌, length, drop, refl, ap, sym, subst, ◌∙◌, inl, arith}
use Rattle.atomic_table.specs.Table.{opening}
use Rattle.pls_archive.specs.declared.point.Point.{Point}
use Rattle.pls_archive.specs.declared.call.Call.{Call}
use Rattle.pls_archive.specs.declared.call.Reply.{Reply}
use Rattle.pls_archive.specs.declared.call.Entry.{Entry}
use Rattle.pls_archive.specs.Lists.{Every, In, one_if, how_many}
use Rattle.pls_archive.specs.Rule.{IsRule}
use Rattle.pls_archive.specs.View.{new_view}
use Rattle.pls_archive.specs.declared.rule.Rule as rule
use Rattle.pls_archive.specs.declared.single.Single as single
use Rattle.pls_archive.proofs.KeepingLists.{IsListWithin, no_entries}
use Rattle.pls_turn.specs.declared.seen.Turn.{Turn}
use Rattle.pls_turn.specs.declared.terms.Terms.{Terms}
use Rattle.pls_turn.specs.Turns.{no_calls, view_with, first_turn}
use Rattle.pls_turn.specs.TurnRule.{IsSound, Holds}
use Rattle.pls_turn.proofs.Lists.{times_in}
use mathlib.Core.Option.{some, some-injective, some-ne-none}
use lib.ListN.{get_elem?}

-- of the lists without a call none is there twice, and none of a caller before the first
no_calls_once : (c from n : ℕ) → (times_in c (no_calls from n) ≤ 1) × (c < from → times_in c (no_calls from n) ≡ 0)
no_calls_once c from zero = (omega arith, λ low. refl)
no_calls_once c from (suc n) = by_first (no_calls_once c (from + 1) n) (from == c) refl
  where
    by_first :
        (times_in c (no_calls (from + 1) n) ≤ 1) × (c < from + 1 → times_in c (no_calls (from + 1) n) ≡ 0) → (b : Bool) → (from == c) ≡ b
        → (times_in c (no_calls from (suc n)) ≤ 1) × (c < from → times_in c (no_calls from (suc n)) ≡ 0)
    by_first rest true is =
        let same : from ≡ c = eqb-true from c is in
        let one = ap one_if is in
        let none = rest.1 (omega arith) in (omega arith, λ low. absurd (omega arith))
    by_first rest false is =
        let one = ap one_if is in
        let most = rest.0 in (omega arith, λ low. let none = rest.1 (omega arith) in omega arith)

no_calls_below : (passes from n : ℕ) → from + n ≤ passes → Every (λ (list : ℕ × List Entry). list.0 < passes) (no_calls from n)
no_calls_below passes from zero low = tt
no_calls_below passes from (suc n) low = (omega arith, no_calls_below passes (from + 1) n (omega arith))

-- so many lists; the first of them is that of the first caller
pub no_calls_length : (from n : ℕ) → length (no_calls from n) ≡ n
no_calls_length from zero = refl
no_calls_length from (suc n) = ap suc (no_calls_length (from + 1) n)

pub no_calls_rest : (from n m : ℕ) → n ≡ suc m → drop 1 (no_calls from n) ≡ no_calls (from + 1) m
no_calls_rest from n m more = ap (λ k. drop 1 (no_calls from k)) more

pub no_calls_first : (from n m : ℕ) → n ≡ suc m → view_with [] (no_calls from n) ≡ new_view from
no_calls_first from n m more = ap (λ k. view_with [] (no_calls from k)) more

no_calls_within : (reply : List Point → Call → Reply) (from n : ℕ) → Every (λ (list : ℕ × List Entry). IsListWithin reply [] 0 list.0 list.1) (no_calls from n)
no_calls_within reply from zero = tt
no_calls_within reply from (suc n) = (no_entries reply [] from [] 0 refl, no_calls_within reply (from + 1) n)

-- an archive without submissions has no members
no_members : (xs : List Point) → ((p : Point) → In p xs → ⊥) → xs ≡ []
no_members [] none = refl
no_members (x ∷ xs) none = absurd (none x (inl refl))

module _ {S L : Type 0} (R : rule.Ghosts L) (One : single.Ghosts S L)
    (laws : (n : ℕ) → IsRule (R.front n) (R.reply n)) where
  pub opens : (key : Terms S) (single : S) → key.single.value ≡ single → One.points single ≡ [] → 1 ≤ key.passes
      → Holds R One key (opening (0 ∷ []) (single ∷ []) (first_turn key))
  opens key single same empty some_passes = (
    [],
    false,
    record {
      word = refl;
      few = omega arith;
      observed = record { legal = tt; accepted = tt; begun = tt };
      slot = (
        single,
        refl,
        record {
          members = λ test. ap (λ xs. how_many test xs) (none ∙ sym empty);
          number_is = ap One.number (sym same);
          objectives_is = ap One.objectives (sym same);
        },
      );
      holders = refl;
      once = λ c. by_caller c (0 == c) refl;
      each = alone;
    },
  )
    where
      none : R.front (One.number key.single.value) [] ≡ []
      none = no_members (R.front (One.number key.single.value) []) (λ p here. (laws (One.number key.single.value)).members_submitted [] p here)

      by_caller : (c : ℕ) (b : Bool) → (0 == c) ≡ b → one_if (0 == c) + times_in c (no_calls 1 (key.passes - 1)) + 0 ≤ 1
      by_caller c true is =
          let same : 0 ≡ c = eqb-true 0 c is in
          let one = ap one_if is in
          let rest = (no_calls_once c 1 (key.passes - 1)).1 (omega arith) in omega arith
      by_caller c false is = let one = ap one_if is in let rest = (no_calls_once c 1 (key.passes - 1)).0 in omega arith

      first : IsSound R One key [] (first_turn key)
      first = record {
        terms_are = λ _. refl;
        agrees = λ _. record {
          observed = ([], refl);
          lists = (no_entries (R.reply (One.number key.single.value)) [] 0 [] 0 refl, no_calls_within (R.reply (One.number key.single.value)) 1 (key.passes - 1));
        };
        begun = λ _. (omega arith, no_calls_below key.passes 1 (key.passes - 1) (omega arith));
        turn = λ held. absurd (false_true held);
      }
        where
          false_true : false ≡ true → ⊥
          false_true e = cc

      alone : (i : ℕ) (t : Turn S) → get_elem? (first_turn key ∷ []) i ≡ some t → IsSound R One key [] t
      alone zero t there = subst (IsSound R One key []) (some-injective (first_turn key) t there) first
      alone (suc i) t there = absurd (some-ne-none t (sym there))
