-- The children of a node in a row: their rows and boxes, and each alone.
use Rattle.std.proofs.Common.{◌≡◌, ℕ, zero, suc, ◌+◌, ◌-◌, ◌<◌, ◌≤◌, Some, List, [], ◌∷◌, ◌++◌, length, take, get_or, set, refl, sym, ap, ◌∙◌, arith}
use Rattle.std.specs.Prelude.{replicate}
use Rattle.std.proofs.lemmas.List.{take_all}
use Rattle.era_core.specs.Lists.{times, In}
use Rattle.era_core.specs.Versions.{Cell, look_up}
use Rattle.era_core.proofs.ListFacts.{times-append, in_head, in_tail, in-append_left, in-append_right}
use Rattle.era_rows.specs.Known.{Known, known_words}
use Rattle.era_rows.specs.Passes.{known_of, IsReadable}
use Rattle.era_rows.specs.declared.pass.Pass.{Pass}
use Rattle.era_rows.specs.declared.rows.Rows.{Rows}
use Rattle.era_rows.specs.declared.law.Law.{Ghosts}
use Rattle.pls_archive.specs.declared.call.Entry.{Entry}
use Rattle.pls_vectors.specs.Box.{Box}
use Rattle.nd_rows.specs.declared.layout.TheConstants.{FIRST_LINK}
use Rattle.nd_rows.specs.Nodes.{Nodes, no_nodes, leaf, inner, heads, rows_of, rows_with}
use Rattle.nd_rows.specs.Layout.{IsBoxRow, AreWritten}
use Rattle.nd_rows.proofs.Sides.{word_at}
use Rattle.nd_update.specs.Insertion.{boxes_of}
use Rattle.nd_update.specs.Ways.{IsBox, HaveSome, AreFit, HasNode, at_node}
use Rattle.nd_update.specs.Building.{Does}
use Rattle.nd_update.proofs.Alike.{box-alike}
use Rattle.nd_update.proofs.Filling.{still_words}
use Rattle.nd_update.proofs.FullLeaves.{put_one}

pub length_boxes : (ns : Nodes) → length (boxes_of ns) ≡ length (heads ns)
length_boxes no_nodes = refl
length_boxes (leaf r b placed later) = ap suc (length_boxes later)
length_boxes (inner r b kids later) = ap suc (length_boxes later)

-- one more box stands in its place
pub put_box : (xs read : List Box) (k : ℕ) (d e x : Box) → k < length xs → k < 5 → x ≡ get_or xs k e → read ≡ take k xs ++ replicate (5 - k) d → set read k x ≡ take (k + 1) xs ++ replicate (5 - (k + 1)) d
put_box xs read k d e x low less is before =
    ap (λ y. set read k y) is
    ∙ ap (λ ys. set ys k (get_or xs k e)) (before ∙ ap (λ n. take k xs ++ replicate n d) (let same : 5 - k ≡ suc (5 - (k + 1)) = omega arith in same))
    ∙ put_one xs k (5 - (k + 1)) d e low
    ∙ ap (λ n. take n xs ++ replicate (5 - (k + 1)) d) (let same : suc k ≡ k + 1 = omega arith in same)

pub all_boxes : (xs read : List Box) (k count : ℕ) (d : Box) → k ≡ count → length xs ≡ count → read ≡ take k xs ++ replicate (5 - k) d → take count read ≡ xs
all_boxes xs read k count d done long is =
    ap (take count) (is ∙ ap (λ n. take n xs ++ replicate (5 - n) d) done ∙ ap (λ ys. ys ++ replicate (5 - count) d) (take_all count xs (omega arith))) ∙ front xs count (replicate (5 - count) d) long
  where
    front : (ys : List Box) (n : ℕ) (zs : List Box) → length ys ≡ n → take n (ys ++ zs) ≡ ys
    front [] zero zs e = refl
    front [] (suc n) zs e = absurd (omega arith)
    front (y ∷ ys) zero zs e = absurd (omega arith)
    front (y ∷ ys) (suc n) zs e = ap (λ ws. y ∷ ws) (front ys n zs (omega arith))

-- a child
pub child_in : (kids : Nodes) (k : ℕ) → k < length (heads kids) → In (get_or (heads kids) k 0) (rows_of kids)
child_in no_nodes k low = absurd (omega arith)
child_in (leaf r b placed later) zero low = in_head r (rows_with placed ++ rows_of later)
child_in (inner r b kids later) zero low = in_head r (rows_of kids ++ rows_of later)
child_in (leaf r b placed later) (suc k) low =
    in_tail (get_or (heads later) k 0) r (rows_with placed ++ rows_of later) (in-append_right (get_or (heads later) k 0) (rows_with placed) (rows_of later) (child_in later k (omega arith)))
child_in (inner r b kids later) (suc k) low =
    in_tail (get_or (heads later) k 0) r (rows_of kids ++ rows_of later) (in-append_right (get_or (heads later) k 0) (rows_of kids) (rows_of later) (child_in later k (omega arith)))

pub at_rows : (kids : Nodes) (k x : ℕ) → times x (rows_of (at_node kids k)) ≤ times x (rows_of kids)
at_rows no_nodes k x = omega arith
at_rows (leaf r b placed later) zero x =
    let one = times-append x (r ∷ rows_with placed) (rows_of later) in let two = times-append x (r ∷ rows_with placed) [] in omega arith
at_rows (inner r b kids later) zero x =
    let one = times-append x (r ∷ rows_of kids) (rows_of later) in let two = times-append x (r ∷ rows_of kids) [] in omega arith
at_rows (leaf r b placed later) (suc k) x =
    let rest = at_rows later k x in let one = times-append x (r ∷ rows_with placed) (rows_of later) in omega arith
at_rows (inner r b kids later) (suc k) x =
    let rest = at_rows later k x in let one = times-append x (r ∷ rows_of kids) (rows_of later) in omega arith

at_heads : (kids : Nodes) (k : ℕ) → k < length (heads kids) → heads (at_node kids k) ≡ get_or (heads kids) k 0 ∷ []
at_heads no_nodes k low = absurd (omega arith)
at_heads (leaf r b placed later) zero low = refl
at_heads (inner r b kids later) zero low = refl
at_heads (leaf r b placed later) (suc k) low = at_heads later k (omega arith)
at_heads (inner r b kids later) (suc k) low = at_heads later k (omega arith)

module _ (objectives : ℕ) (cells : List Cell) where
  at_written : (kids : Nodes) (k : ℕ) → AreWritten objectives cells kids → AreWritten objectives cells (at_node kids k)
  at_written no_nodes k written = tt
  at_written (leaf r b placed later) zero written = (written.0, written.1, written.2, tt)
  at_written (inner r b kids later) zero written = (written.0, written.1, written.2, tt)
  at_written (leaf r b placed later) (suc k) written = at_written later k written.3
  at_written (inner r b kids later) (suc k) written = at_written later k written.3

  at_box : (kids : Nodes) (k : ℕ) (e : Box) → AreWritten objectives cells kids → AreFit objectives kids → HaveSome kids → k < length (heads kids)
      → IsBoxRow objectives cells (get_or (heads kids) k 0) (get_or (boxes_of kids) k e) × IsBox objectives (get_or (boxes_of kids) k e)
  at_box no_nodes k e written fit some low = absurd (omega arith)
  at_box (leaf r b placed later) zero e written fit some low = (written.1 some.0, fit.1 some.0)
  at_box (inner r b kids later) zero e written fit some low = (written.1, fit.2)
  at_box (leaf r b placed later) (suc k) e written fit some low = at_box later k e written.3 fit.2 some.1 (omega arith)
  at_box (inner r b kids later) (suc k) e written fit some low = at_box later k e written.3 fit.5 some (omega arith)

at_fit : (objectives : ℕ) (kids : Nodes) (k : ℕ) → AreFit objectives kids → AreFit objectives (at_node kids k)
at_fit objectives no_nodes k fit = tt
at_fit objectives (leaf r b placed later) zero fit = (fit.0, fit.1, tt)
at_fit objectives (inner r b kids later) zero fit = (fit.0, fit.1, fit.2, fit.3, fit.4, tt)
at_fit objectives (leaf r b placed later) (suc k) fit = at_fit objectives later k fit.2
at_fit objectives (inner r b kids later) (suc k) fit = at_fit objectives later k fit.5

module _ (objectives : ℕ) (kn : Known) (row : ℕ) (b : Box) (kids : Nodes) (has : HasNode objectives kn row (inner row b kids no_nodes)) (k : ℕ) (low : k < length (heads kids)) where
  pub child_word : look_up (known_words kn) row (FIRST_LINK + k) ≡ Some (get_or (heads kids) k 0)
  child_word = word_at (known_words kn) row FIRST_LINK (heads kids) has.nodes.written.0.linked k low

  pub below_rows : (x : ℕ) → times x (rows_of (inner row b kids no_nodes)) ≡ times x (row ∷ []) + times x (rows_of kids)
  below_rows x = let one = times-append x (row ∷ []) (rows_of kids ++ []) in let two = times-append x (rows_of kids) [] in omega arith

  pub child_readable : IsReadable (get_or (heads kids) k 0) kn
  child_readable = has.nodes.readable (get_or (heads kids) k 0) (in_tail (get_or (heads kids) k 0) row (rows_of kids ++ []) (in-append_left (get_or (heads kids) k 0) (rows_of kids) [] (child_in kids k low)))

  pub child_box : (e : Box) → IsBoxRow objectives (known_words kn) (get_or (heads kids) k 0) (get_or (boxes_of kids) k e) × IsBox objectives (get_or (boxes_of kids) k e)
  child_box e = at_box objectives (known_words kn) kids k e has.nodes.written.2 has.nodes.fit.4 has.nodes.fit.3 low

  pub child_node : HasNode objectives kn (get_or (heads kids) k 0) (at_node kids k)
  child_node = record {
    nodes = record {
      written = at_written objectives (known_words kn) kids k has.nodes.written.2;
      fit = at_fit objectives kids k has.nodes.fit.4;
      readable = λ x here. has.nodes.readable x (let few = at_rows kids k x in let all = below_rows x in omega (arith, few, all, here));
      once = λ x. (let few = at_rows kids k x in let all = below_rows x in let once = has.nodes.once x in omega (arith, few, all, once));
    };
    here = at_heads kids k low;
  }

-- the boxes that were read have as many parts as the value
pub boxes_long : (objectives : ℕ) (kn : Known) (row : ℕ) (b : Box) (kids : Nodes) → HasNode objectives kn row (inner row b kids no_nodes) → (read : List Box) → read ≡ boxes_of kids → (d : ℕ) → d ≡ objectives
    → (k : ℕ) (e : Box) → k < length read → length (get_or read k e).ideal ≡ d
boxes_long objectives kn row b kids has read is d long k e low =
    let here : k < length (heads kids) = (let a = ap length is in let same = length_boxes kids in omega arith) in
    ap (λ bs. length (get_or bs k e).ideal) is ∙ (child_box objectives kn row b kids has k here e).1.long ∙ sym long

-- a box of a row that was not changed
pub box_read : {L : Type 0} {G : Ghosts L Entry} (r : Rows L Entry) (t m c : List ℕ) (p q : Pass L Entry G) → Does r t m c p q → (objectives row : ℕ) (b : Box) → times row c ≡ 0
    → IsBoxRow objectives (known_words (known_of p)) row b → IsBoxRow objectives (known_words (known_of q)) row b
box_read r t m c p q one objectives row b none is = box-alike objectives (known_words (known_of p)) (known_words (known_of q)) row b (still_words r t m c p q one objectives row none) is
