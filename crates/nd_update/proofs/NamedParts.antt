-- Named nodes side by side: the names of parts are those of the whole.
use Rattle.std.proofs.Common.{◌≡◌, ℕ, List, ◌++◌, refl, sym, ap, ◌∙◌, append_assoc}
use Rattle.era_core.specs.Versions.{Cell}
use Rattle.nd_rows.specs.Nodes.{Nodes, no_nodes, leaf, inner, followed_by}
use Rattle.nd_update.specs.Naming.{AreNamed, name_of, names_with, names_of, AreNamesWritten}

-- three parts and the rest of two lists
three : {A : Type 0} (one two rest xs ys : List A) → rest ≡ xs ++ ys → one ++ (two ++ rest) ≡ (one ++ (two ++ xs)) ++ ys
three one two rest xs ys e =
    ap (λ zs. one ++ (two ++ zs)) e ∙ ap (λ zs. one ++ zs) (sym (append_assoc two xs ys)) ∙ sym (append_assoc one (two ++ xs) ys)

module _ (new : ℕ) where
  pub named-followed : (ns ms ns' ms' : Nodes) → AreNamed new ns ms → AreNamed new ns' ms' → AreNamed new (followed_by ns ns') (followed_by ms ms')
  named-followed no_nodes no_nodes ns' ms' are next = next
  named-followed no_nodes (leaf name box named others) ns' ms' are next = absurd are
  named-followed no_nodes (inner name box named others) ns' ms' are next = absurd are
  named-followed (leaf r b placed later) no_nodes ns' ms' are next = absurd are
  named-followed (leaf r b placed later) (leaf name box named others) ns' ms' are next = (are.0, are.1, are.2, named-followed later others ns' ms' are.3 next)
  named-followed (leaf r b placed later) (inner name box named others) ns' ms' are next = absurd are
  named-followed (inner r b kids later) no_nodes ns' ms' are next = absurd are
  named-followed (inner r b kids later) (leaf name box named others) ns' ms' are next = absurd are
  named-followed (inner r b kids later) (inner name box named others) ns' ms' are next = (are.0, are.1, are.2, named-followed later others ns' ms' are.3 next)

  pub names-followed : (ns ms ns' ms' : Nodes) → AreNamed new ns ms → names_of new (followed_by ns ns') (followed_by ms ms') ≡ names_of new ns ms ++ names_of new ns' ms'
  names-followed no_nodes no_nodes ns' ms' are = refl
  names-followed no_nodes (leaf name box named others) ns' ms' are = absurd are
  names-followed no_nodes (inner name box named others) ns' ms' are = absurd are
  names-followed (leaf r b placed later) no_nodes ns' ms' are = absurd are
  names-followed (leaf r b placed later) (leaf name box named others) ns' ms' are = three (name_of new r name) (names_with new placed named) _ _ _ (names-followed later others ns' ms' are.3)
  names-followed (leaf r b placed later) (inner name box named others) ns' ms' are = absurd are
  names-followed (inner r b kids later) no_nodes ns' ms' are = absurd are
  names-followed (inner r b kids later) (leaf name box named others) ns' ms' are = absurd are
  names-followed (inner r b kids later) (inner name box named others) ns' ms' are = three (name_of new r name) (names_of new kids named) _ _ _ (names-followed later others ns' ms' are.3)

  module _ (objectives : ℕ) (cells : List Cell) where
    pub names_written-followed : (ns ms ns' ms' : Nodes) → AreNamed new ns ms → AreNamesWritten new objectives cells ns ms → AreNamesWritten new objectives cells ns' ms' → AreNamesWritten new objectives cells (followed_by ns ns') (followed_by ms ms')
    names_written-followed no_nodes no_nodes ns' ms' are first next = next
    names_written-followed no_nodes (leaf name box named others) ns' ms' are first next = absurd are
    names_written-followed no_nodes (inner name box named others) ns' ms' are first next = absurd are
    names_written-followed (leaf r b placed later) no_nodes ns' ms' are first next = absurd are
    names_written-followed (leaf r b placed later) (leaf name box named others) ns' ms' are first next = (first.0, first.1, names_written-followed later others ns' ms' are.3 first.2 next)
    names_written-followed (leaf r b placed later) (inner name box named others) ns' ms' are first next = absurd are
    names_written-followed (inner r b kids later) no_nodes ns' ms' are first next = absurd are
    names_written-followed (inner r b kids later) (leaf name box named others) ns' ms' are first next = absurd are
    names_written-followed (inner r b kids later) (inner name box named others) ns' ms' are first next = (first.0, first.1, names_written-followed later others ns' ms' are.3 first.2 next)
