-- Views keep their numbers where one of them is written with its own number again.
use Rattle.std.proofs.Common.{◌≡◌, ◌≢◌, ℕ, ⊎_elim, Some, List, set, sym, ap, ◌∙◌}
use Rattle.std.proofs.lemmas.Bool.{cases_eq}
use Rattle.era_core.specs.Views.{View}
use Rattle.era_core.proofs.ListFacts.{at_set, set_here, set_else}
use mathlib.Core.Option.{some, some-injective}
use lib.ListN.{get_elem?}

-- no two views have one number
abbrev pub IsApart : List View → Type 0
IsApart vs = (i j : ℕ) (u v : View) (k : ℕ) → get_elem? vs i ≡ some u → get_elem? vs j ≡ some v → u.number ≡ Some k → v.number ≡ Some k → i ≡ j

module _ (vs : List View) (i k : ℕ) (v w : View) (at : get_elem? vs i ≡ some v) (before : v.number ≡ Some k) (number : w.number ≡ Some k) where
  pub apart_still : IsApart vs → IsApart (set vs i w)
  apart_still apart a b x y m xa yb xm ym =
      ⊎_elim
      (λ x_new. ⊎_elim
      (λ y_new. x_new.0 ∙ sym y_new.0)
      (λ y_old. x_new.0 ∙ apart i b v y m at y_old.1 (before ∙ sym number ∙ ap (λ (u : View). u.number) x_new.1 ∙ xm) ym)
      (at_set vs i b w y yb))
      (λ x_old. ⊎_elim
      (λ y_new. apart a i x v m x_old.1 at xm (before ∙ sym number ∙ ap (λ (u : View). u.number) y_new.1 ∙ ym) ∙ sym y_new.0)
      (λ y_old. apart a b x y m x_old.1 y_old.1 xm ym)
      (at_set vs i b w y yb))
      (at_set vs i a w x xa)

  -- a pass without a view has had none before
  pub none_before : (m : ℕ) → ((j : ℕ) (u : View) → get_elem? (set vs i w) j ≡ some u → u.number ≢ Some m) → (j : ℕ) (u : View) → get_elem? vs j ≡ some u → u.number ≢ Some m
  none_before m none j u there is =
      ⊎_elim
      (λ e. none i w (set_here vs i v w at) (number ∙ sym before ∙ ap (λ (x : View). x.number) (some-injective v u (sym at ∙ ap (λ z. get_elem? vs z) (sym e) ∙ there)) ∙ is))
      (λ apart. none j u (set_else vs i j w apart ∙ there) is)
      (cases_eq j i)
