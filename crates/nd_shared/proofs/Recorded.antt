-- What a pass has recorded where no row was free, from one call to the next.
use Rattle.std.proofs.Common.{◌≡◌, ◌↔◌, ◌⊎◌, ⊎_elim, inl, inr, Option, Some, None, refl, sym, ap, subst, ◌∙◌}
use Rattle.std.proofs.lemmas.Option.{same_Some, none-some}
use Rattle.era_rows.specs.Known.{Known, Shortage, either_full, leaving}
use Rattle.era_rows.specs.Passes.{known_of, IsPassOf}
use Rattle.era_rows.specs.declared.pass.Pass.{Pass}
use Rattle.era_rows.specs.declared.rows.Rows.{Rows}
use Rattle.era_rows.specs.declared.law.Law.{Ghosts}
use Rattle.pls_archive.specs.declared.call.Entry.{Entry}
use Rattle.nd_update.specs.Counted.{IsShort, IsShortage, KeepsShortage}
use Rattle.nd_update.proofs.Counting.{short_same}
use Rattle.nd_shared.specs.Views.{HasEvidence}

-- what is found from a pin on is an evidence
pub evidence_short : (k : Known) → IsShort k → HasEvidence k
evidence_short k short s recorded = subst (IsShortage k.shape k.passes k.rows) (same_Some short.shortage s (sym short.recorded ∙ recorded)) short.shows

pub keeps_short : (k : Known) → IsShort k → KeepsShortage k
keeps_short k short = (short.shortage, short.recorded, short.shows)

-- it stays where the version is left
pub short_left : (k l : Known) → l ≡ leaving k → IsShort k → IsShort l
short_left k l left short = subst IsShort (sym left) (short_same k (leaving k) refl refl refl refl refl refl refl refl short)

-- an evidence for rows of another pass is one for these
abbrev IsOne : Known → Shortage → Type 0
IsOne k s = IsShortage k.shape k.passes k.rows s

module _ {L : Type 0} {G : Ghosts L Entry} (r : Rows L Entry) (p q : Pass L Entry G) (first : IsPassOf r p) (second : IsPassOf r q) where
  same_rows : (s : Shortage) → IsOne (known_of p) s → IsOne (known_of q) s
  same_rows s shows =
      subst (λ shape. IsShortage shape (known_of q).passes (known_of q).rows s) (first.sized.shape_is ∙ sym second.sized.shape_is)
      (subst (λ passes. IsShortage (known_of p).shape passes (known_of q).rows s) (first.sized.passes_are ∙ sym second.sized.passes_are)
      (subst (λ rows. IsShortage (known_of p).shape (known_of p).passes rows s) (first.sized.rows_are ∙ sym second.sized.rows_are) shows))

  -- what is recorded is the same
  module _ (full : (known_of q).full ≡ (known_of p).full) where
    pub evidence_kept : HasEvidence (known_of p) → HasEvidence (known_of q)
    evidence_kept short s recorded = same_rows s (short s (sym full ∙ recorded))

    pub keeps_same : KeepsShortage (known_of p) → KeepsShortage (known_of q)
    keeps_same keeps = (keeps.0, full ∙ keeps.1, same_rows keeps.0 keeps.2)

module _ {L : Type 0} {G : Ghosts L Entry} (r : Rows L Entry) (p q : Pass L Entry G) where
  pub keeps_alike : IsPassOf r p → IsPassOf r q → (known_of q).full ≡ (known_of p).full → KeepsShortage (known_of q) ↔ KeepsShortage (known_of p)
  keeps_alike first second full = (keeps_same r q p second first (sym full), keeps_same r p q first second full)

-- of two passes that are joined the first that has recorded something keeps it
module _ {L : Type 0} {G : Ghosts L Entry} (r : Rows L Entry) (p other q : Pass L Entry G) (first : IsPassOf r p) (second : IsPassOf r other) (third : IsPassOf r q)
    (full : (known_of q).full ≡ either_full (known_of p).full (known_of other).full) where
  by_first : {X : Type 0} → (None ≡ (known_of p).full → X) → ((s : Shortage) → Some s ≡ (known_of p).full → X) → X
  by_first {X} nothing something = go (known_of p).full refl
    where
      go : (kept : Option Shortage) → kept ≡ (known_of p).full → X
      go None is = nothing is
      go (Some s) is = something s is

  as_first : (s : Shortage) → Some s ≡ (known_of p).full → (known_of q).full ≡ (known_of p).full
  as_first s is = full ∙ ap (λ x. either_full x (known_of other).full) (sym is) ∙ is

  as_second : None ≡ (known_of p).full → (known_of q).full ≡ (known_of other).full
  as_second is = full ∙ ap (λ x. either_full x (known_of other).full) (sym is)

  pub evidence_joined : HasEvidence (known_of p) → HasEvidence (known_of other) → HasEvidence (known_of q)
  evidence_joined mine theirs =
      by_first
      (λ is. evidence_kept r other q second third (as_second is) theirs)
      (λ s is. evidence_kept r p q first third (as_first s is) mine)

  pub keeps_either : KeepsShortage (known_of q) → KeepsShortage (known_of p) ⊎ KeepsShortage (known_of other)
  keeps_either keeps =
      by_first
      (λ is. inr (keeps_same r q other third second (sym (as_second is)) keeps))
      (λ s is. inl (keeps_same r q p third first (sym (as_first s is)) keeps))

  -- where the second one keeps an evidence, what the first has recorded is one too
  pub keeps_both : HasEvidence (known_of p) → KeepsShortage (known_of p) ⊎ KeepsShortage (known_of other) → KeepsShortage (known_of q)
  keeps_both mine keeps =
      by_first
      (λ is. ⊎_elim
      (λ own. absurd (none-some own.0 (is ∙ own.1)))
      (keeps_same r other q second third (as_second is))
      keeps)
      (λ s is. keeps_same r p q first third (as_first s is) (s, sym is, mine s (sym is)))
