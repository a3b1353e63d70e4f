-- Induction from the end of a list.
use Rattle.std.proofs.Common.{List, [], ◌∷◌, ◌++◌, sym, subst, append_assoc}
use Rattle.std.proofs.lemmas.List.{append-nil}

module _ {X : Type 0} (Q : List X → Type 0) (more : (xs : List X) (x : X) → Q xs → Q (xs ++ x ∷ [])) where
  from_front : (front : List X) → Q front → (xs : List X) → Q (front ++ xs)
  from_front front q [] = subst Q (sym (append-nil front)) q
  from_front front q (x ∷ xs) = subst Q (append_assoc front (x ∷ []) xs) (from_front (front ++ x ∷ []) (more front x q) xs)

  -- induction from the end of a list
  pub from_end : Q [] → (xs : List X) → Q xs
  from_end none xs = from_front [] none xs
