-- What the parser holds between two words, and what it makes of that.
use Rattle.std.proofs.Common.{◌≡◌, ◌∙◌, ◌⊎◌, inl, inr, ⊎_elim, ℕ, Bool, true, false, List, [], ◌∷◌, ◌++◌, map, Option, Some, None, refl, ap, sym}
use Rattle.std.proofs.lemmas.List.{map-append}
use Rattle.std.specs.Option.{option_map_or}
use Rattle.clap.specs.Faults.{settle_fault, use_fault}
use Rattle.clap.specs.Kinds.{Kinds}
use Rattle.clap.specs.Walk.{Held, Row, Rule, Text, has_row, settled, used, used_by_id}
use Rattle.clap.specs.declared.error.kind.ErrorKind.{ErrorKind}
use Rattle.clap.specs.declared.error.kind.ErrorKind.TheVariants.{ArgumentConflict, InvalidValue}
use Rattle.pls_settings.specs.Line.{Given, are_once}
use Rattle.pls_settings.proofs.Rows.{row, are_once-add, has_row-is, use_fault-is, used-is}
use Rattle.pls_settings.proofs.Rules.{IsKnown, rules, single}

-- nothing waits to be used
abbrev pub at_rest : List Given → Held
at_rest seen = record { rows = map row seen; pending = None; skip = 0 }

-- a name waits with these texts
abbrev pub pending_at : List Given → Text → List Text → Held
pending_at seen name texts = record { rows = map row seen; pending = Some (name, texts); skip = 0 }

-- none where the parser refuses the words
abbrev pub unless_refused : {A : Type 0} → Kinds → Option A → Option A
unless_refused [] x = x
unless_refused (k ∷ ks) x = None

-- there is a fault
abbrev pub IsRefused : Kinds → Type 0
IsRefused kinds = (k : ErrorKind) × (ks : Kinds) × (kinds ≡ k ∷ ks)

-- what is held stands for what was given; or a name was given twice, which the next step refuses
pub record Holds (names : List Text) (h : Held) (seen : List Given) : Type 0 where
  pub skip : h.skip ≡ 0
  pub settles :
      ((settle_fault (rules names) false h ≡ []) × (settled (rules names) h ≡ at_rest seen) × (are_once seen ≡ true))
      ⊎ (IsRefused (settle_fault (rules names) false h) × (are_once seen ≡ false))

pub holds-rest : (names : List Text) (seen : List Given) → are_once seen ≡ true → Holds names (at_rest seen) seen
holds-rest names seen once = record { skip = refl; settles = inl (refl, refl, once) }

-- one use more, unless the name has one already
pub one_use :
    (long : Option Text) (index : Option ℕ) (required : Bool) (seen : List Given) (g : Given) → are_once seen ≡ true
    → ((use_fault false (single g.0 long index required) (g.1 ∷ []) (map row seen) ≡ [])
    × (used (single g.0 long index required) (g.1 ∷ []) (map row seen) ≡ map row (seen ++ g ∷ []))
    × (are_once (seen ++ g ∷ []) ≡ true))
    ⊎ (IsRefused (use_fault false (single g.0 long index required) (g.1 ∷ []) (map row seen)) × (are_once (seen ++ g ∷ []) ≡ false))
one_use long index required seen g once = go (has_row g.0 (map row seen)) refl
  where
    go : (b : Bool) → has_row g.0 (map row seen) ≡ b
        → ((use_fault false (single g.0 long index required) (g.1 ∷ []) (map row seen) ≡ [])
        × (used (single g.0 long index required) (g.1 ∷ []) (map row seen) ≡ map row (seen ++ g ∷ []))
        × (are_once (seen ++ g ∷ []) ≡ true))
        ⊎ (IsRefused (use_fault false (single g.0 long index required) (g.1 ∷ []) (map row seen)) × (are_once (seen ++ g ∷ []) ≡ false))
    go true has = inr (
      (ArgumentConflict, [], use_fault-is long index required g (map row seen) ∙ rw has refl),
      are_once-add seen g ∙ rw (once, ← has_row-is seen g.0, has) refl,
    )
    go false none = inl (
      use_fault-is long index required g (map row seen) ∙ rw none refl,
      used-is long index required g (map row seen) none ∙ sym (map-append row seen (g ∷ [])),
      are_once-add seen g ∙ rw (once, ← has_row-is seen g.0, none) refl,
    )

pub holds-one :
    (names : List Text) (seen : List Given) (g : Given) → IsKnown names g.0 → are_once seen ≡ true
    → Holds names (pending_at seen g.0 (g.1 ∷ [])) (seen ++ g ∷ [])
holds-one names seen g known once = record {
  skip = refl;
  settles = ⊎_elim
      (λ h. inl (fault ∙ h.0, ap (λ (rows : List Row). record { rows = rows; pending = None; skip = 0 }) (rows ∙ h.1), h.2))
      (λ h. inr ((h.0.0, h.0.1, fault ∙ h.0.2), h.1))
      (one_use known.0 known.1 known.2 seen g once);
}
  where
    fault : settle_fault (rules names) false (pending_at seen g.0 (g.1 ∷ [])) ≡ use_fault false (single g.0 known.0 known.1 known.2) (g.1 ∷ []) (map row seen)
    fault = ap (λ (a : Option Rule). option_map_or (λ b. use_fault false b (g.1 ∷ []) (map row seen)) a []) known.3

    rows : (settled (rules names) (pending_at seen g.0 (g.1 ∷ []))).rows ≡ used (single g.0 known.0 known.1 known.2) (g.1 ∷ []) (map row seen)
    rows = ap (λ (a : Option Rule). used_by_id a (g.1 ∷ []) (map row seen)) known.3

-- an option that waits for its value can't be used
pub no_value : (names : List Text) (seen : List Given) (name : Text) → IsKnown names name → IsRefused (settle_fault (rules names) false (pending_at seen name []))
no_value names seen name known =
    (InvalidValue, [], ap (λ (a : Option Rule). option_map_or (λ b. use_fault false b [] (map row seen)) a []) known.3)
