use Rattle.std.specs.Prelude.{ℕ, ◌-◌, ◌≤◌, ◌≡◌, ℤ, pos, List, ◌++◌, length, take, drop, replicate}
use Rattle.std.proofs.Common.{ap, sym, subst, ◌∙◌}
use Rattle.std.proofs.lemmas.List.{take-append-drop, length-take-le}
use Rattle.pls_vectors.specs.Dominance.{IsValue}

-- how a vector is stored: its parts are the first `len` of four places, and each other place is 0
pub record IsStored (len : ℕ) (places : List ℤ) : Type 0 where
  pub four : length places ≡ 4
  pub within : len ≤ 4
  pub value : IsValue (take len places)
  pub unused : drop len places ≡ replicate (4 - len) (pos 0)

-- the four places of a vector with these parts
abbrev pub places_of : List ℤ → List ℤ
places_of parts = parts ++ replicate (4 - length parts) (pos 0)

-- the parts give both fields back
pub length-stored : (len : ℕ) (places : List ℤ) → IsStored len places → length (take len places) ≡ len
length-stored len places s =
    length-take-le len places (subst (λ (n : ℕ). len ≤ n) (sym s.four) s.within)

pub places_of-stored : (len : ℕ) (places : List ℤ) → IsStored len places → places_of (take len places) ≡ places
places_of-stored len places s =
    ap (λ (n : ℕ). take len places ++ replicate (4 - n) (pos 0)) (length-stored len places s)
    ∙ (ap (λ (rest : List ℤ). take len places ++ rest) (sym s.unused) ∙ take-append-drop len places)
