-- A row that was taken and written is fresh, and the words that were written are known.
use Rattle.std.proofs.Common.{◌≡◌, ℕ, zero, suc, Some, List, [], ◌∷◌, refl, sym, subst, eq-eqb}
use Rattle.era_core.specs.Lists.{In}
use Rattle.era_core.specs.Versions.{look_up}
use Rattle.era_core.proofs.ListFacts.{in_head, in_tail, in-append_right}
use Rattle.era_rows.specs.Known.{Known, known_words, taking_row, writing}
use mathlib.Core.Option.{some, some-injective, some-ne-none}
use lib.ListN.{get_elem?}

-- what stands at a place of a list stands in the list
pub in_listed : (xs : List ℕ) (i x : ℕ) → get_elem? xs i ≡ some x → In x xs
in_listed [] i x there = absurd (some-ne-none x (sym there))
in_listed (y ∷ ys) zero x there = subst (λ z. In z (y ∷ ys)) (some-injective y x there) (in_head y ys)
in_listed (y ∷ ys) (suc i) x there = in_tail x y ys (in_listed ys i x there)

-- a row that was taken is fresh
pub in_taken : (r : ℕ) (k after : Known) → after ≡ taking_row r k → In r after.core.fresh
in_taken r k after now = subst (λ (x : Known). In r x.core.fresh) (sym now) (in-append_right r k.core.fresh (r ∷ []) (in_head r []))

module _ (k : Known) (r w : ℕ) where
  pub no_links-written : look_up (known_words (writing r 1 w (writing r 0 0 k))) r 0 ≡ Some 0
  no_links-written = simp (eq-eqb r r refl)

  pub word-written : look_up (known_words (writing r 1 w (writing r 0 0 k))) r 1 ≡ Some w
  word-written = simp (eq-eqb r r refl)
