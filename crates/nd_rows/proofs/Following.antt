-- Nodes that are followed by others.
use Rattle.std.proofs.Common.{◌≡◌, ℕ, List, [], ◌∷◌, ◌++◌, refl, sym, ap, ◌∙◌, append_assoc, ℤ}
use Rattle.std.specs.Prelude.{if◌then◌else◌}
use Rattle.era_core.specs.Versions.{Cell}
use Rattle.nd_rows.specs.Nodes.{Nodes, no_nodes, leaf, inner, heads, rows_of, rows_with, points_of, points_with, followed_by, AreFormed, AreBoxed, is_mixed, necessary}
use Rattle.nd_rows.specs.Layout.{AreWritten}

pub heads-followed : (ns others : Nodes) → heads (followed_by ns others) ≡ heads ns ++ heads others
heads-followed no_nodes others = refl
heads-followed (leaf r b placed later) others = ap (λ xs. r ∷ xs) (heads-followed later others)
heads-followed (inner r b kids later) others = ap (λ xs. r ∷ xs) (heads-followed later others)

-- a part, and then the rest of two lists
joined : {A : Type 0} (part rest one two : List A) → rest ≡ one ++ two → part ++ rest ≡ (part ++ one) ++ two
joined part rest one two e = ap (λ xs. part ++ xs) e ∙ sym (append_assoc part one two)

pub rows-followed : (ns others : Nodes) → rows_of (followed_by ns others) ≡ rows_of ns ++ rows_of others
rows-followed no_nodes others = refl
rows-followed (leaf r b placed later) others = ap (λ xs. r ∷ xs) (joined (rows_with placed) _ _ _ (rows-followed later others))
rows-followed (inner r b kids later) others = ap (λ xs. r ∷ xs) (joined (rows_of kids) _ _ _ (rows-followed later others))

pub points-followed : (ns others : Nodes) → points_of (followed_by ns others) ≡ points_of ns ++ points_of others
points-followed no_nodes others = refl
points-followed (leaf r b placed later) others = joined (points_with placed) _ _ _ (points-followed later others)
points-followed (inner r b kids later) others = joined (points_of kids) _ _ _ (points-followed later others)

pub necessary-followed : (v : List ℤ) (ns others : Nodes) → necessary v (followed_by ns others) ≡ necessary v ns ++ necessary v others
necessary-followed v no_nodes others = refl
necessary-followed v (leaf r b placed later) others = ap (λ xs. r ∷ xs) (joined (if is_mixed b v then rows_with placed else []) _ _ _ (necessary-followed v later others))
necessary-followed v (inner r b kids later) others = ap (λ xs. r ∷ xs) (joined (if is_mixed b v then necessary v kids else []) _ _ _ (necessary-followed v later others))

pub written-followed : (objectives : ℕ) (cells : List Cell) (ns others : Nodes) → AreWritten objectives cells ns → AreWritten objectives cells others → AreWritten objectives cells (followed_by ns others)
written-followed objectives cells no_nodes others first second = second
written-followed objectives cells (leaf r b placed later) others first second = (first.0, first.1, first.2, written-followed objectives cells later others first.3 second)
written-followed objectives cells (inner r b kids later) others first second = (first.0, first.1, first.2, written-followed objectives cells later others first.3 second)

pub formed-followed : (objectives : ℕ) (ns others : Nodes) → AreFormed objectives ns → AreFormed objectives others → AreFormed objectives (followed_by ns others)
formed-followed objectives no_nodes others first second = second
formed-followed objectives (leaf r b placed later) others first second = (first.0, first.1, formed-followed objectives later others first.2 second)
formed-followed objectives (inner r b kids later) others first second = (first.0, first.1, first.2, first.3, formed-followed objectives later others first.4 second)

pub boxed-followed : (ns others : Nodes) → AreBoxed ns → AreBoxed others → AreBoxed (followed_by ns others)
boxed-followed no_nodes others first second = second
boxed-followed (leaf r b placed later) others first second = (first.0, boxed-followed later others first.1 second)
boxed-followed (inner r b kids later) others first second = (first.0, first.1, boxed-followed later others first.2 second)
