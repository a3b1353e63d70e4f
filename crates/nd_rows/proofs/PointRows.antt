-- The row of a point that a leaf links, as a pass finds it.
use Rattle.std.proofs.Common.{◌≡◌, ℕ, ◌+◌, ◌<◌, Some, List, [], ◌∷◌, length, get_or, sym, subst, ◌∙◌, arith}
use Rattle.era_core.specs.Lists.{In}
use Rattle.era_core.specs.Versions.{look_up}
use Rattle.era_core.proofs.ListFacts.{in_head, in_tail}
use Rattle.era_rows.specs.Known.{pinned_copy}
use Rattle.era_rows.specs.Passes.{known_of}
use Rattle.era_rows.specs.declared.pass.Pass.{Pass}
use Rattle.era_rows.specs.declared.rows.Rows.{Rows}
use Rattle.era_rows.specs.declared.law.Law.{Ghosts}
use Rattle.pls_archive.specs.Lists as lists
use Rattle.nd_rows.specs.Nodes.{Placed, rows_with, points_with}
use Rattle.nd_rows.specs.Layout.{IsPointRow, HasValue, HasPoint}
use Rattle.nd_rows.specs.Reads.{LooksIn}
use Rattle.nd_rows.specs.Walk.{HasPlaced, IsRowOf}
use Rattle.nd_rows.proofs.Looks.{looks_more, looks_among, looks_two, link_there, row_there, row_small, in_get, in_only, value_there, stays}
use Rattle.nd_rows.proofs.Pending.{length_rows}

module _ {L E : Type 0} {G : Ghosts L E} (r : Rows L E) (objectives : ℕ) (p q : Pass L E G) (row : ℕ) (placed : List Placed) (has : HasPlaced objectives (pinned_copy (known_of p)) row placed)
    (looks : LooksIn r (row ∷ rows_with placed) p q) (k : ℕ) (low : k < length placed) (word : ℕ) (found : (w : ℕ) → look_up (pinned_copy (known_of q)).cells row (1 + k) ≡ Some w → word ≡ w) where
  inside : k < length (rows_with placed)
  inside = let e = length_rows placed in omega arith

  word_is : word ≡ get_or (rows_with placed) k 0
  word_is = found _ (link_there r (row ∷ rows_with placed) p q looks row 1 (rows_with placed) has.linked k inside)

  word_in : In word (rows_with placed)
  word_in = subst (λ x. In x (rows_with placed)) (sym word_is) (in_get (rows_with placed) k inside)

  -- it is a row of the pinned version
  pub word_small : word < 262144
  word_small = row_small p word (has.among word word_in)

  -- which has the point
  pub row_of_point : (point : Placed) → IsPointRow objectives (pinned_copy (known_of p)).cells point → get_or (rows_with placed) k 0 ≡ point.row → lists.In point.point (points_with placed)
      → IsRowOf objectives (pinned_copy (known_of p)) (rows_with placed) (points_with placed) word
  row_of_point point is at among = record {
    point = point.point;
    has = subst (λ x. HasPoint objectives (pinned_copy (known_of p)) x point.point) (sym (word_is ∙ at)) is;
    needed = word_in;
    among = among;
  }

  module _ (s : Pass L E G) (one : LooksIn r (row ∷ []) q s) where
    pub word_among : In word (pinned_copy (known_of s)).rows
    word_among = row_there r (row ∷ []) q s one word (row_there r (row ∷ rows_with placed) p q looks word (has.among word word_in))

    first : (x : ℕ) → In x (row ∷ []) → In x (row ∷ rows_with placed)
    first x here = in_only (row ∷ rows_with placed) x row (in_head row (rows_with placed)) here

    -- and its value stands there
    pub value_found : (point : Placed) → IsPointRow objectives (pinned_copy (known_of p)).cells point → get_or (rows_with placed) k 0 ≡ point.row → HasValue objectives (pinned_copy (known_of s)).cells word 1 point.point.value
    value_found point is at =
        let all = row ∷ rows_with placed in
        value_there r objectives all p s (looks_more r all p q s looks (looks_among r all (row ∷ []) q s first one)) word 1 point.point.value
        (subst (λ x. HasValue objectives (pinned_copy (known_of p)).cells x 1 point.point.value) (sym (word_is ∙ at)) is.value)

    pub point_there : (point : Placed) → IsPointRow objectives (pinned_copy (known_of p)).cells point → get_or (rows_with placed) k 0 ≡ point.row → HasPoint objectives (pinned_copy (known_of s)) word point.point
    point_there point is at =
        let all = row ∷ rows_with placed in
        stays r (λ c. HasPoint objectives c word point.point) all p s (looks_more r all p q s looks (looks_among r all (row ∷ []) q s first one))
        (subst (λ x. HasPoint objectives (pinned_copy (known_of p)) x point.point) (sym (word_is ∙ at)) is)

    -- after a look at it, the pass has looked at the leaf and its points alone
    pub looks_point : (t : Pass L E G) → LooksIn r (word ∷ []) s t → LooksIn r (row ∷ rows_with placed) p t
    looks_point t two = looks_two r (row ∷ rows_with placed) p q s t row word (in_head row (rows_with placed)) (in_tail word row (rows_with placed) word_in) looks one two
