-- Prefixes, and the lists of callers that a pass holds.
use Rattle.std.proofs.Common.{◌≡◌, ℕ, zero, suc, ◌+◌, ◌==◌, ◌⊎◌, inl, inr, ⊎_elim, Bool, true, Some, is_some, if◌then◌else◌, List, [], ◌∷◌, ◌++◌, length, refl, ap, sym, subst, ◌∙◌, arith, append-nil, append_assoc}
use Rattle.std.specs.Prelude.{All}
use Rattle.std.proofs.lemmas.Bool.{eq-eqb}
use Rattle.pls_archive.specs.declared.call.Entry.{Entry}
use Rattle.pls_archive.specs.Lists.{IsPrefix, one_if, how_many}
use Rattle.pls_archive.specs.View.{lists_of}
use Rattle.pls_archive.proofs.Keeping.{HoldsNoneOf}
use Rattle.pls_turn.specs.declared.seen.Turn.{Turn}
use Rattle.pls_turn.specs.declared.terms.Terms.{Terms}
use Rattle.pls_turn.specs.Turns.{is_live}
use Rattle.pls_turn.specs.TurnRule.{times_held}
use mathlib.Core.Option.{some, some-injective, some-ne-none}
use lib.ListN.{get_elem?}

pub whole_prefix : {A : Type 0} (xs : List A) → IsPrefix xs xs
whole_prefix xs = ([], append-nil xs)

pub snoc_prefix : {A : Type 0} (xs : List A) (x : A) → IsPrefix xs (xs ++ x ∷ [])
snoc_prefix xs x = (x ∷ [], refl)

pub prefix_trans : {A : Type 0} (xs ys zs : List A) → IsPrefix xs ys → IsPrefix ys zs → IsPrefix xs zs
prefix_trans xs ys zs p q = (p.0 ++ q.0, sym (append_assoc xs p.0 q.0) ∙ (ap (λ ls. ls ++ q.0) p.1 ∙ q.1))

-- how often these lists have one of this caller
abbrev pub times_in : ℕ → List (ℕ × List Entry) → ℕ
times_in c lists = how_many (λ (list : ℕ × List Entry). list.0 == c) lists

pub none_of : (c : ℕ) (lists : List (ℕ × List Entry)) → times_in c lists ≡ 0 → HoldsNoneOf c lists
none_of c [] none = tt
none_of c (list ∷ lists) none =
    ((λ same. absurd (let one = ap one_if (eq-eqb list.0 c same) in omega arith)), none_of c lists (omega arith))

abbrev so_many : ℕ → Bool → ℕ
so_many n b = if b then n else 0

module _ {S : Type 0} where
  pub live_of : (t : Turn S) (key : Terms S) → t.terms ≡ Some key → is_live t ≡ true
  live_of t key mine = ap is_some mine

  pub held_is : (t : Turn S) → is_live t ≡ true → (c : ℕ) → times_held c t ≡ times_in c (lists_of t.view)
  held_is t live c = ap (so_many (times_in c (lists_of t.view))) live

-- what stands in a list after one more, and with one before it
module _ {A : Type 0} where
  pub at_push : (xs : List A) (x a : A) (i : ℕ) → get_elem? (xs ++ x ∷ []) i ≡ some a → (get_elem? xs i ≡ some a) ⊎ ((x ≡ a) × (i ≡ length xs))
  at_push [] x a zero there = inr (some-injective x a there, refl)
  at_push [] x a (suc i) there = absurd (some-ne-none a (sym there))
  at_push (y ∷ ys) x a zero there = inl there
  at_push (y ∷ ys) x a (suc i) there = ⊎_elim (λ old. inl old) (λ new. inr (new.0, ap suc new.1)) (at_push ys x a i there)

  pub each_before : (P : ℕ → A → Type 0) (x : A) (xs ys : List A) → ys ≡ x ∷ xs → P 0 x → ((i : ℕ) (a : A) → get_elem? xs i ≡ some a → P (i + 1) a)
      → (i : ℕ) (a : A) → get_elem? ys i ≡ some a → P i a
  each_before P x xs ys same first each i a there = by_place i (subst (λ zs. get_elem? zs i ≡ some a) same there)
    where
      by_place : (k : ℕ) → get_elem? (x ∷ xs) k ≡ some a → P k a
      by_place zero here = subst (P 0) (some-injective x a here) first
      by_place (suc k) here = subst (λ n. P n a) (let next : k + 1 ≡ suc k = omega arith in next) (each k a here)

  pub each_all : (P : A → Type 0) (xs : List A) → ((i : ℕ) (a : A) → get_elem? xs i ≡ some a → P a) → All P xs
  each_all P [] each k d below = absurd (omega arith)
  each_all P (x ∷ xs) each zero d below = each 0 x refl
  each_all P (x ∷ xs) each (suc k) d below = each_all P xs (λ i a at. each (suc i) a at) k d (omega arith)
