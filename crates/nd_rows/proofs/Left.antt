-- Nodes that are left on a work list, when the last one is taken off it.
use Rattle.std.proofs.Common.{◌≡◌, ℕ, zero, suc, ◌+◌, ◌≤◌, ◌⊎◌, ⊎_elim, inr, List, [], ◌∷◌, ◌++◌, length, length-append, take, drop, reverse, refl, sym, ap, subst, ◌∙◌, arith}
use Rattle.std.proofs.lemmas.List.{reverse-append, length-reverse}
use Rattle.era_core.specs.Lists.{In}
use Rattle.era_core.specs.Versions.{Copy}
use Rattle.era_core.proofs.ListFacts.{in_tail, in-append_right}
use Rattle.nd_rows.specs.Nodes.{Nodes, no_nodes, leaf, inner, heads, rows_of, rows_with, followed_by, AreFormed, IsEmptyLeaf}
use Rattle.nd_rows.specs.Walk.{ArePending, BeginAt, AreOnList, AreLeft, kids_of, later_of}
use Rattle.nd_rows.proofs.Following as followed
use Rattle.nd_rows.proofs.Pending.{nothing_first, first_is}
use mathlib.Core.Option.{some, some-injective}
use lib.ListN.{get_elem?}

-- the last of a list is the first of it from its end
pub from_end : (xs : List ℕ) (n x : ℕ) → n + 1 ≡ length xs → get_elem? xs n ≡ some x → reverse xs ≡ x ∷ reverse (take n xs)
from_end xs n x len there = ap reverse (all xs n x len there) ∙ reverse-append (take n xs) (x ∷ [])
  where
    all : (xs : List ℕ) (n x : ℕ) → n + 1 ≡ length xs → get_elem? xs n ≡ some x → xs ≡ take n xs ++ x ∷ []
    all [] n x len there = absurd (omega arith)
    all (y ∷ []) zero x len there = ap (λ z. z ∷ []) (some-injective y x there)
    all (y ∷ z ∷ ys) zero x len there = absurd (omega arith)
    all (y ∷ ys) (suc n) x len there = ap (λ zs. y ∷ zs) (all ys n x (omega arith) there)

pub nothing_left : (xs : List ℕ) → length xs ≡ 0 → xs ≡ []
nothing_left [] none = refl
nothing_left (x ∷ xs) none = absurd (omega arith)

-- a list that begins with a row
pub begins : (ns : Nodes) (row : ℕ) (rest : List ℕ) → heads ns ≡ row ∷ rest → (heads ns ≡ row ∷ heads (later_of ns)) × (heads (later_of ns) ≡ rest)
begins no_nodes row rest e = absurd (nothing_first _ _ e)
begins (leaf r b placed later) row rest e = (ap (λ x. x ∷ heads later) (first_is _ _ r row e), ap (drop 1) e)
begins (inner r b kids later) row rest e = (ap (λ x. x ∷ heads later) (first_is _ _ r row e), ap (drop 1) e)

-- no nodes stand in no rows
no_heads : (ns : Nodes) → heads ns ≡ [] → ns ≡ no_nodes
no_heads no_nodes e = refl
no_heads (leaf r b placed later) e = absurd (nothing_first _ _ (sym e))
no_heads (inner r b kids later) e = absurd (nothing_first _ _ (sym e))

later_fewer : (ns : Nodes) (row : ℕ) (rest : List ℕ) → heads ns ≡ row ∷ rest → length (rows_of (later_of ns)) + 1 ≤ length (rows_of ns)
later_fewer no_nodes row rest e = absurd (nothing_first _ _ e)
later_fewer (leaf r b placed later) row rest e = let n = length-append (rows_with placed) (rows_of later) in omega arith
later_fewer (inner r b kids later) row rest e = let n = length-append (rows_of kids) (rows_of later) in omega arith

kids_fewer : (ns : Nodes) (row : ℕ) (rest : List ℕ) → heads ns ≡ row ∷ rest → length (rows_of (followed_by (kids_of ns) (later_of ns))) + 1 ≤ length (rows_of ns)
kids_fewer no_nodes row rest e = absurd (nothing_first _ _ e)
kids_fewer (leaf r b placed later) row rest e = later_fewer (leaf r b placed later) row rest e
kids_fewer (inner r b kids later) row rest e =
    let n = ap length (followed.rows-followed kids later) in omega arith

-- each node has a row
heads_few : (ns : Nodes) → length (heads ns) ≤ length (rows_of ns)
heads_few no_nodes = omega arith
heads_few (leaf r b placed later) = let rest = heads_few later in let n = length-append (rows_with placed) (rows_of later) in omega arith
heads_few (inner r b kids later) = let rest = heads_few later in let n = length-append (rows_of kids) (rows_of later) in omega arith

-- what the children take of the work list there is room for
kids_room : (ns : Nodes) (row : ℕ) (rest : List ℕ) → heads ns ≡ row ∷ rest → length rest + length (heads (kids_of ns)) ≤ length (rows_of ns)
kids_room ns row rest e =
    let all = heads_few (followed_by (kids_of ns) (later_of ns)) in
    let parts = ap length (followed.heads-followed (kids_of ns) (later_of ns)) ∙ length-append (heads (kids_of ns)) (heads (later_of ns)) in
    let same = ap length (begins ns row rest e).1 in
    let fewer = kids_fewer ns row rest e in omega arith

module _ (objectives : ℕ) (c : Copy) where
  later_pending : (ns : Nodes) → ArePending objectives c ns → ArePending objectives c (later_of ns)
  later_pending no_nodes p = p
  later_pending (leaf r b placed later) p = record {
    written = p.written.3;
    formed = ⊎_elim (λ empty. subst (λ ns. IsEmptyLeaf ns ⊎ AreFormed objectives ns) (sym empty.1) (inr tt)) (λ formed. inr formed.2) p.formed;
    boxed = p.boxed.1;
    among = λ x here. p.among x (in_tail x r _ (in-append_right x (rows_with placed) (rows_of later) here));
  }
  later_pending (inner r b kids later) p = record {
    written = p.written.3;
    formed = ⊎_elim (λ empty. absurd empty) (λ formed. inr formed.4) p.formed;
    boxed = p.boxed.2;
    among = λ x here. p.among x (in_tail x r _ (in-append_right x (rows_of kids) (rows_of later) here));
  }

  kids_pending : (ns : Nodes) → ArePending objectives c ns → ArePending objectives c (followed_by (kids_of ns) (later_of ns))
  kids_pending no_nodes p = p
  kids_pending (leaf r b placed later) p = later_pending (leaf r b placed later) p
  kids_pending (inner r b kids later) p = record {
    written = followed.written-followed objectives c.cells kids later p.written.2 p.written.3;
    formed = ⊎_elim (λ empty. absurd empty) (λ formed. inr (followed.formed-followed objectives kids later formed.3 formed.4)) p.formed;
    boxed = followed.boxed-followed kids later p.boxed.1 p.boxed.2;
    among = λ x here. p.among x (in_tail x r _ (subst (In x) (followed.rows-followed kids later) here));
  }

  -- at the start
  pub left_first : (rows : ℕ) (work : List ℕ) (ns : Nodes) → AreOnList objectives c rows work ns → AreLeft objectives c ns 0 work ns
  left_first rows work ns is = record { pending = is.pending; on_list = is.on_list; counted = omega arith }

  module _ (ns : Nodes) (k : ℕ) (work : List ℕ) (left : Nodes) (are : AreLeft objectives c ns k work left) where
    -- as many nodes were taken as there are rows
    pub left_out : length (rows_of ns) ≤ k → length work ≡ 0
    left_out many =
        let few = heads_few left in let before = are.counted in let on = ap length are.on_list ∙ length-reverse work in omega arith

    pub left_none : length work ≡ 0 → left ≡ no_nodes
    left_none none = no_heads left (are.on_list ∙ ap reverse (nothing_left work none))

    module _ (row : ℕ) (rest : List ℕ) (top : reverse work ≡ row ∷ reverse rest) where
      abbrev first : heads left ≡ row ∷ reverse rest
      first = are.on_list ∙ top

      pub left_at : BeginAt objectives c row left
      left_at = record { pending = are.pending; here = (begins left row (reverse rest) first).0 }

      pub left_room : length rest + length (heads (kids_of left)) ≤ length (rows_of ns)
      left_room =
          let room = kids_room left row (reverse rest) first in let same = length-reverse rest in let before = are.counted in omega arith

      -- without the first one
      pub left_later : AreLeft objectives c ns (k + 1) rest (later_of left)
      left_later = record {
        pending = later_pending left are.pending;
        on_list = (begins left row (reverse rest) first).1;
        counted = (let fewer = later_fewer left row (reverse rest) first in let before = are.counted in omega arith);
      }

      -- and with its children in its place
      pub left_kids : (after : List ℕ) → reverse after ≡ heads (kids_of left) ++ reverse rest → AreLeft objectives c ns (k + 1) after (followed_by (kids_of left) (later_of left))
      left_kids after work_is = record {
        pending = kids_pending left are.pending;
        on_list = followed.heads-followed (kids_of left) (later_of left)
            ∙ ap (λ xs. heads (kids_of left) ++ xs) (begins left row (reverse rest) first).1 ∙ sym work_is;
        counted = (let fewer = kids_fewer left row (reverse rest) first in let before = are.counted in omega arith);
      }
