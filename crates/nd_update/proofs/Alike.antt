-- Words of the rows of nodes that stand in other cells too: what is written in the one is written in the other.
use Rattle.std.proofs.Common.{◌≡◌, Some, ℕ, ◌+◌, List, [], ◌∷◌, ◌++◌, ℤ}
use Rattle.era_core.specs.Lists.{In}
use Rattle.era_core.specs.Versions.{Cell, look_up}
use Rattle.era_core.proofs.ListFacts.{in_head, in_tail, in-append_left, in-append_right}
use Rattle.pls_vectors.specs.Box.{Box}
use Rattle.pls_archive.specs.Lists.{Every}
use Rattle.nd_rows.specs.Nodes.{Placed, Nodes, no_nodes, leaf, inner, rows_of, rows_with}
use Rattle.nd_rows.specs.Layout.{HasWords, HasValue, IsLinkRow, IsBoxRow, IsPointRow, AreWritten}

module _ (objectives : ℕ) (cells cells' : List Cell) where
  -- each word of the row stands in the second cells too
  abbrev pub Agree : ℕ → Type 0
  Agree r = (p w : ℕ) → look_up cells r p ≡ Some w → look_up cells' r p ≡ Some w

  pub words-alike : (r p : ℕ) (ws : List ℕ) → Agree r → HasWords cells r p ws → HasWords cells' r p ws
  words-alike r p [] same has = tt
  words-alike r p (w ∷ ws) same has = (same p w has.0, words-alike r (p + 1) ws same has.1)

  pub value-alike : (r p : ℕ) (v : List ℤ) → Agree r → HasValue objectives cells r p v → HasValue objectives cells' r p v
  value-alike r p v same has = record { words = words-alike r p _ same has.words; is_value = has.is_value; parts = has.parts }

  pub links-alike : (kind r : ℕ) (links : List ℕ) → Agree r → IsLinkRow cells kind r links → IsLinkRow cells' kind r links
  links-alike kind r links same is = record { first = same 0 _ is.first; linked = words-alike r _ links same is.linked }

  pub box-alike : (r : ℕ) (b : Box) → Agree r → IsBoxRow objectives cells r b → IsBoxRow objectives cells' r b
  box-alike r b same is = record { ideal = value-alike r _ b.ideal same is.ideal; nadir = value-alike r _ b.nadir same is.nadir }

  pub point-alike : (p : Placed) → Agree p.row → IsPointRow objectives cells p → IsPointRow objectives cells' p
  point-alike p same is = record {
    first = links-alike _ p.row [] same is.first;
    value = value-alike p.row _ p.point.value same is.value;
    sol_len = same _ _ is.sol_len;
    sol_words = words-alike p.row _ p.point.sol.words same is.sol_words;
    parts = same _ _ is.parts;
    some_items = is.some_items;
    few_items = is.few_items;
    all_words = is.all_words;
  }

  pub points-alike : (placed : List Placed) → ((r : ℕ) → In r (rows_with placed) → Agree r) → Every (IsPointRow objectives cells) placed → Every (IsPointRow objectives cells') placed
  points-alike [] same each = tt
  points-alike (p ∷ placed) same each =
      (point-alike p (same p.row (in_head p.row (rows_with placed))) each.0, points-alike placed (λ r here. same r (in_tail r p.row (rows_with placed) here)) each.1)

  pub written-alike : (ns : Nodes) → ((r : ℕ) → In r (rows_of ns) → Agree r) → AreWritten objectives cells ns → AreWritten objectives cells' ns
  written-alike no_nodes same written = tt
  written-alike (leaf r b placed later) same written =
      let mine = same r (in_head r (rows_with placed ++ rows_of later)) in (
        links-alike _ r _ mine written.0,
        (λ some. box-alike r b mine (written.1 some)),
        points-alike placed (λ x here. same x (in_tail x r _ (in-append_left x (rows_with placed) (rows_of later) here))) written.2,
        written-alike later (λ x here. same x (in_tail x r _ (in-append_right x (rows_with placed) (rows_of later) here))) written.3,
      )
  written-alike (inner r b kids later) same written =
      let mine = same r (in_head r (rows_of kids ++ rows_of later)) in (
        links-alike _ r _ mine written.0,
        box-alike r b mine written.1,
        written-alike kids (λ x here. same x (in_tail x r _ (in-append_left x (rows_of kids) (rows_of later) here))) written.2,
        written-alike later (λ x here. same x (in_tail x r _ (in-append_right x (rows_of kids) (rows_of later) here))) written.3,
      )
