-- One node after another is asked.
use Rattle.std.proofs.Common.{◌≡◌, ℕ, ◌+◌, Bool, true, false, Option, Some, None, List, [], ◌∷◌, ◌++◌, length, reverse, refl, sym, ap, subst, ◌∙◌, ℤ}
use Rattle.std.specs.Prelude.{if◌then◌else◌, ◌||◌, unwrap_or}
use Rattle.std.proofs.lemmas.List.Folds.{list_any-append}
use Rattle.std.proofs.lemmas.Bool.{or_left}
use Rattle.era_core.specs.Lists.{In}
use Rattle.era_core.specs.Versions.{Copy}
use Rattle.era_core.proofs.ListFacts.{in_tail, in-append_right}
use Rattle.pls_archive.specs.declared.point.Point.{Point}
use Rattle.pls_archive.specs.Lists as lists
use Rattle.pls_archive.proofs.Every.{In-right}
use Rattle.nd_rows.specs.declared.question.Question.{Question}
use Rattle.nd_rows.specs.Nodes.{Nodes, no_nodes, leaf, inner, rows_with, points_of, followed_by, AreFormed, is_mixed, necessary}
use Rattle.nd_rows.specs.Walk.{meets, some_meets, Asks, Asked, AreOnList, AreLeft, points_below, kids_of, later_of, is_open}
use Rattle.nd_rows.proofs.Following as followed
use Rattle.nd_rows.proofs.Left.{left_first, left_none, left_later, left_kids}

points_first : (ns : Nodes) → points_of ns ≡ points_below ns ++ points_of (later_of ns)
points_first no_nodes = refl
points_first (leaf r b placed later) = refl
points_first (inner r b kids later) = refl

kids_same : (ns : Nodes) → points_below ns ≡ points_of (kids_of ns) → points_of (followed_by (kids_of ns) (later_of ns)) ≡ points_of ns
kids_same ns same = followed.points-followed (kids_of ns) (later_of ns) ∙ ap (λ points. points ++ points_of (later_of ns)) (sym same) ∙ sym (points_first ns)

later_below : (ns : Nodes) (p : Point) → lists.In p (points_of (later_of ns)) → lists.In p (points_of ns)
later_below ns p here = subst (lists.In p) (sym (points_first ns)) (In-right p (points_below ns) (points_of (later_of ns)) here)

module _ (objectives : ℕ) where
  later_formed : (ns : Nodes) → AreFormed objectives ns → AreFormed objectives (later_of ns)
  later_formed no_nodes formed = tt
  later_formed (leaf r b placed later) formed = formed.2
  later_formed (inner r b kids later) formed = formed.4

  kids_formed : (ns : Nodes) → AreFormed objectives ns → AreFormed objectives (followed_by (kids_of ns) (later_of ns))
  kids_formed no_nodes formed = tt
  kids_formed (leaf r b placed later) formed = formed.2
  kids_formed (inner r b kids later) formed = followed.formed-followed objectives kids later formed.3 formed.4

module _ (v : List ℤ) where
  later_necessary : (ns : Nodes) (x : ℕ) → In x (necessary v (later_of ns)) → In x (necessary v ns)
  later_necessary no_nodes x here = here
  later_necessary (leaf r b placed later) x here = in_tail x r _ (in-append_right x (if is_mixed b v then rows_with placed else []) (necessary v later) here)
  later_necessary (inner r b kids later) x here = in_tail x r _ (in-append_right x (if is_mixed b v then necessary v kids else []) (necessary v later) here)

  kids_necessary : (ns : Nodes) → is_open v ns ≡ true → (x : ℕ) → In x (necessary v (followed_by (kids_of ns) (later_of ns))) → In x (necessary v ns)
  kids_necessary no_nodes mixed x here = here
  kids_necessary (leaf r b placed later) mixed x here = later_necessary (leaf r b placed later) x here
  kids_necessary (inner r b kids later) mixed x here =
      in_tail x r _ (subst (λ t. In x ((if t then necessary v kids else []) ++ necessary v later)) (sym mixed) (subst (In x) (followed.necessary-followed v kids later) here))

module _ (objectives : ℕ) (c : Copy) (ask : Question) (v : List ℤ) where
  -- at the start
  pub asked_none : (rows : ℕ) (work : List ℕ) (ns : Nodes) → AreFormed objectives ns → AreOnList objectives c rows work ns → Asked objectives c ask v ns 0 work
  asked_none rows work ns formed is = record { left = ns; are_left = left_first objectives c rows work ns is; formed = formed; same_answer = refl; needed = λ x here. here; below = λ p here. here }

  module _ (ns : Nodes) (k : ℕ) (work : List ℕ) (asked : Asked objectives c ask v ns k work) where
    -- nothing is left
    pub asked_all : length work ≡ 0 → false ≡ some_meets ask (points_of ns) v
    asked_all none = ap (λ ns. some_meets ask (points_of ns) v) (sym (left_none objectives c ns k work asked.left asked.are_left none)) ∙ asked.same_answer

    module _ (row : ℕ) (rest : List ℕ) (top : reverse work ≡ row ∷ reverse rest) where
      -- a node that answers yes answers for all
      pub asked_yes : (result : Option Bool) (after : List ℕ) → unwrap_or result false ≡ true → Asks ask v asked.left result rest after → true ≡ some_meets ask (points_of ns) v
      asked_yes None after is_yes asks = absurd (never is_yes)
        where
          never : false ≡ true → ⊥
          never e = cc
      asked_yes (Some answer) after is_yes asks =
          sym (sym asked.same_answer ∙ ap (λ points. some_meets ask points v) (points_first asked.left)
          ∙ list_any-append (λ p. meets ask p.value v) (points_below asked.left) (points_of (later_of asked.left)) ∙ or_left _ _ (asks.0 ∙ is_yes))

      -- and else the question is about the others, or its children and the others
      pub asked_more : (result : Option Bool) (after : List ℕ) → unwrap_or result false ≡ false → Asks ask v asked.left result rest after → Asked objectives c ask v ns (k + 1) after
      asked_more (Some answer) after not_yes asks = record {
        left = later_of asked.left;
        are_left = subst (λ ws. AreLeft objectives c ns (k + 1) ws (later_of asked.left)) (sym asks.1) (left_later objectives c ns k work asked.left asked.are_left row rest top);
        formed = later_formed objectives asked.left asked.formed;
        same_answer =
            sym (ap (λ points. some_meets ask points v) (points_first asked.left)
            ∙ list_any-append (λ p. meets ask p.value v) (points_below asked.left) (points_of (later_of asked.left))
            ∙ ap (λ b. b || some_meets ask (points_of (later_of asked.left)) v) (asks.0 ∙ not_yes))
            ∙ asked.same_answer;
        needed = λ x here. asked.needed x (later_necessary v asked.left x here);
        below = λ p here. asked.below p (later_below asked.left p here);
      }
      asked_more None after not_yes asks = record {
        left = followed_by (kids_of asked.left) (later_of asked.left);
        are_left = left_kids objectives c ns k work asked.left asked.are_left row rest top after asks.2;
        formed = kids_formed objectives asked.left asked.formed;
        same_answer =
            ap (λ points. some_meets ask points v) (kids_same asked.left asks.0) ∙ asked.same_answer;
        needed = λ x here. asked.needed x (kids_necessary v asked.left asks.1 x here);
        below = λ p here. asked.below p (subst (lists.In p) (kids_same asked.left asks.0) here);
      }
