-- Words separated by spaces, written one after another.
use Rattle.std.proofs.Common.{◌≡◌, ℕ, Bool, List, [], ◌∷◌, ◌++◌, true, false, refl, sym, ap, ◌∙◌, append_assoc, append-nil}
use Rattle.std.proofs.lemmas.Grind.{flat_map-append}
use Rattle.std.specs.List.{join_by, flat_map}
use Rattle.pls_io.specs.Lines.{gap}

abbrev pub is_some_list : {X : Type 0} → List X → Bool
is_some_list [] = false
is_some_list (x ∷ xs) = true

module _ {X : Type 0} (f : X → List ℕ) where
  abbrev pub joined : List X → List ℕ
  joined xs = join_by f (32 ∷ []) xs

  joined-push : (xs : List X) (y : X) → joined (xs ++ y ∷ []) ≡ joined xs ++ (gap (is_some_list xs) ++ f y)
  joined-push [] y = append-nil (f y)
  joined-push (x ∷ xs) y =
      ap (λ (t : List ℕ). f x ++ t)
      (flat_map-append (λ z. 32 ∷ f z) xs (y ∷ [])
      ∙ ap (λ (t : List ℕ). flat_map (λ z. 32 ∷ f z) xs ++ (32 ∷ t)) (append-nil (f y)))
      ∙ sym (append_assoc (f x) (flat_map (λ z. 32 ∷ f z) xs) (32 ∷ f y))

  -- a word behind those that a text ends with
  joined-written :
      (text before : List ℕ) (xs : List X) (y : X) → text ≡ before ++ joined xs
      → text ++ (gap (is_some_list xs) ++ f y) ≡ before ++ joined (xs ++ y ∷ [])
  joined-written text before xs y written =
      ap (λ (t : List ℕ). t ++ (gap (is_some_list xs) ++ f y)) written
      ∙ (append_assoc before (joined xs) (gap (is_some_list xs) ++ f y)
      ∙ ap (λ (t : List ℕ). before ++ t) (sym (joined-push xs y)))

is_some_list-push : {X : Type 0} (xs : List X) (y : X) → is_some_list (xs ++ y ∷ []) ≡ true
is_some_list-push [] y = refl
is_some_list-push (x ∷ xs) y = refl

-- a text is what it was before with these words joined behind it
pub record Joins {X : Type 0} (f : X → List ℕ) (before : List ℕ) (xs : List X) (text : List ℕ) (any : Bool) : Type 0 where
  pub written : text ≡ before ++ joined f xs
  pub some : any ≡ is_some_list xs

-- one more word
pub Joins-push :
    {X : Type 0} (f : X → List ℕ) (before : List ℕ) (xs : List X) (text : List ℕ) (any : Bool) → Joins f before xs text any
    → (y : X) (text' : List ℕ) → text' ≡ text ++ (gap any ++ f y) → Joins f before (xs ++ y ∷ []) text' true
Joins-push f before xs text any joins y text' more = record {
  written =
      more
      ∙ (ap (λ (b : Bool). text ++ (gap b ++ f y)) joins.some
      ∙ joined-written f text before xs y joins.written);
  some = sym (is_some_list-push xs y);
}
