-- The nodes that may change are put on the list of a pass: what one node adds, and what is left.
use Rattle.std.proofs.Common.{◌≡◌, ℕ, zero, suc, ◌+◌, ◌/◌, ◌%◌, ◌<◌, ◌≤◌, ◌⊎◌, inr, ⊎_elim, Bool, true, false, nat_lt, if◌then◌else◌, Some, List, [], ◌∷◌, ◌++◌, length, set, refl, sym, ap, ap₂, subst, ◌∙◌, arith, append-nil, append_assoc, length-append, ℤ}
use Rattle.std.specs.Prelude.{◌&&◌, None, is_none, is_some}
use Rattle.std.proofs.lemmas.Bool.{lt-ltb, cases_eq}
use Rattle.std.proofs.Math.Seq.{set-append_seam}
use Rattle.era_core.specs.Lists.{In}
use Rattle.era_core.specs.Versions.{Copy, look_up}
use Rattle.era_core.proofs.ListFacts.{times-append, in_tail, in-append_right}
use Rattle.pls_vectors.specs.Box.{Box}
use Rattle.pls_vectors.specs.Dominance.{weakly_dominates}
use Rattle.nd_rows.specs.Nodes.{Nodes, no_nodes, leaf, inner, heads, rows_of, rows_with, followed_by, AreFormed, IsEmptyLeaf}
use Rattle.nd_rows.specs.Walk.{ArePending, BeginAt, sided, later_of, kids_of}
use Rattle.nd_rows.proofs.Following.{heads-followed, rows-followed, written-followed, formed-followed, boxed-followed}
use Rattle.nd_rows.proofs.Pending.{links_of, box_of_first, first_is, nothing_first, first_word}
use Rattle.nd_update.specs.Left.{entry, next, left, entries, leaf_word, inner_word, AreListed, AreAllListed}
use Rattle.nd_update.proofs.Filters.{by_test}
use Rattle.nd_update.proofs.Swept.{followed-none}
use mathlib.Core.Option.{some, some-injective}
use lib.ListN.{get_elem?}

-- each node has a row
pub heads_few : (ns : Nodes) → length (heads ns) ≤ length (rows_of ns)
heads_few no_nodes = omega arith
heads_few (leaf r b placed later) = let rest = heads_few later in let n = length-append (rows_with placed) (rows_of later) in omega (arith, rest, n)
heads_few (inner r b kids later) = let rest = heads_few later in let n = length-append (rows_of kids) (rows_of later) in omega (arith, rest, n)

pub no_heads : (ns : Nodes) → length (heads ns) ≡ 0 → ns ≡ no_nodes
no_heads no_nodes e = refl
no_heads (leaf r b placed later) e = absurd (omega (arith, e))
no_heads (inner r b kids later) e = absurd (omega (arith, e))

pub at_seam : (others : List ℕ) (x : ℕ) (xs : List ℕ) → get_elem? (others ++ x ∷ xs) (length others) ≡ some x
at_seam [] x xs = refl
at_seam (y ∷ others) x xs = at_seam others x xs

pub seam_is : (others : List ℕ) (x : ℕ) (xs work : List ℕ) (k row : ℕ) → work ≡ others ++ x ∷ xs → length others ≡ k → get_elem? work k ≡ some row → row ≡ x
seam_is others x xs work k row is at there =
    sym (some-injective x row (sym (at_seam others x xs) ∙ ap (λ ws. get_elem? ws (length others)) (sym is) ∙ ap (get_elem? work) at ∙ there))

module _ (v : List ℤ) where
  pub next_inner : (r : ℕ) (b : Box) (kids later : Nodes) → weakly_dominates v b.nadir ≡ true → next v (inner r b kids later) ≡ followed_by later kids
  next_inner r b kids later over = ap (λ s. followed_by later (if s then kids else no_nodes)) over

  pub next_outer : (r : ℕ) (b : Box) (kids later : Nodes) → weakly_dominates v b.nadir ≡ false → next v (inner r b kids later) ≡ later
  next_outer r b kids later under = ap (λ s. followed_by later (if s then kids else no_nodes)) under ∙ followed-none later

  -- each step looks at one row more
  pub next_fewer : (ns : Nodes) → 0 < length (heads ns) → length (rows_of (next v ns)) + 1 ≤ length (rows_of ns)
  next_fewer no_nodes nonempty = absurd (omega (arith, nonempty))
  next_fewer (leaf r b placed later) nonempty = let n = length-append (rows_with placed) (rows_of later) in omega (arith, n)
  next_fewer (inner r b kids later) nonempty =
      let n = length-append (rows_of kids) (rows_of later) in
      by_test (λ s. length (rows_of (followed_by later (if s then kids else no_nodes))) + 1 ≤ length (rows_of (inner r b kids later))) (weakly_dominates v b.nadir)
      (λ over. let m = ap length (rows-followed later kids) ∙ length-append (rows_of later) (rows_of kids) in omega (arith, n, m))
      (λ under. let m = ap (λ ns. length (rows_of ns)) (followed-none later) in omega (arith, n, m))

  pub length-entries : (k : ℕ) (t : Nodes) → length (entries v k t) ≡ k
  length-entries zero t = refl
  length-entries (suc k) t = let rest = length-entries k t in let both = length-append (entries v k t) (entry v (left v k t) ∷ []) in omega (arith, rest, both)

  -- and those that are left are pending
  module _ (objectives : ℕ) (c : Copy) where
    pub pending_next : (ns : Nodes) → ArePending objectives c ns → ArePending objectives c (next v ns)
    pending_next no_nodes p = p
    pending_next (leaf r b placed later) p = record {
      written = p.written.3;
      formed = ⊎_elim (λ empty. subst (λ ns. IsEmptyLeaf ns ⊎ AreFormed objectives ns) (sym empty.1) (inr tt)) (λ formed. inr formed.2) p.formed;
      boxed = p.boxed.1;
      among = λ x here. p.among x (in_tail x r _ (in-append_right x (rows_with placed) (rows_of later) here));
    }
    pending_next (inner r b kids later) p =
        by_test (λ s. ArePending objectives c (followed_by later (if s then kids else no_nodes))) (weakly_dominates v b.nadir)
        (λ over. record {
          written = written-followed objectives c.cells later kids p.written.3 p.written.2;
          formed = ⊎_elim (λ empty. absurd empty) (λ formed. inr (formed-followed objectives later kids formed.4 formed.3)) p.formed;
          boxed = boxed-followed later kids p.boxed.2 p.boxed.1;
          among = λ x here. p.among x (in_tail x r _ (swap x (rows_of later) (rows_of kids) (subst (In x) (rows-followed later kids) here)));
        })
        (λ under. subst (ArePending objectives c) (sym (followed-none later)) (record {
          written = p.written.3;
          formed = ⊎_elim (λ empty. absurd empty) (λ formed. inr formed.4) p.formed;
          boxed = p.boxed.2;
          among = λ x here. p.among x (in_tail x r _ (in-append_right x (rows_of kids) (rows_of later) here));
        }))
      where
        swap : (x : ℕ) (xs ys : List ℕ) → In x (xs ++ ys) → In x (ys ++ xs)
        swap x xs ys here = let one = times-append x xs ys in let two = times-append x ys xs in omega (arith, here, one, two)

    pub pending_left : (k : ℕ) (t : Nodes) → ArePending objectives c t → ArePending objectives c (left v k t)
    pending_left zero t p = p
    pending_left (suc k) t p = pending_next (left v k t) (pending_left k t p)

  -- and have points below them
  module _ (objectives : ℕ) where
    formed_next : (ns : Nodes) → AreFormed objectives ns → AreFormed objectives (next v ns)
    formed_next no_nodes formed = tt
    formed_next (leaf r b placed later) formed = formed.2
    formed_next (inner r b kids later) formed =
        by_test (λ s. AreFormed objectives (followed_by later (if s then kids else no_nodes))) (weakly_dominates v b.nadir)
        (λ over. formed-followed objectives later kids formed.4 formed.3) (λ under. formed-followed objectives later no_nodes formed.4 tt)

    pub formed_left : (k : ℕ) (t : Nodes) → AreFormed objectives t → AreFormed objectives (left v k t)
    formed_left zero t formed = formed
    formed_left (suc k) t formed = formed_next (left v k t) (formed_left k t formed)

  -- ---- one node is looked at: its word, and the nodes that are left
  module _ (objectives : ℕ) (c : Copy) (row : ℕ) where
    -- nothing is below it
    pub plain_empty : (ns : Nodes) → BeginAt objectives c row ns → length (links_of ns) ≡ 0 → (entry v ns ≡ row) × (heads (next v ns) ≡ heads (later_of ns))
    plain_empty no_nodes at none = absurd (nothing_first _ _ at.here)
    plain_empty (leaf r b [] later) at none = (first_is _ _ r row at.here, refl)
    plain_empty (leaf r b (p ∷ placed) later) at none = absurd (omega (arith, none))
    plain_empty (inner r b kids later) at none = absurd (⊎_elim (λ empty. empty) (λ formed. let two = formed.0 in omega (arith, two, none)) at.pending.formed)

    and_none : (s : Bool) → (s && false) ≡ false
    and_none true = refl
    and_none false = refl

    -- no point below it goes
    pub plain_outer : (ns : Nodes) → BeginAt objectives c row ns → weakly_dominates v (box_of_first ns).nadir ≡ false → (entry v ns ≡ row) × (heads (next v ns) ≡ heads (later_of ns))
    plain_outer no_nodes at under = absurd (nothing_first _ _ at.here)
    plain_outer (leaf r b placed later) at under =
        (ap (λ t. if nat_lt 0 (length placed) && t then leaf_word r else r) under ∙ ap (λ t. if t then leaf_word r else r) (and_none (nat_lt 0 (length placed))) ∙ first_is _ _ r row at.here, refl)
    plain_outer (inner r b kids later) at under =
        (ap (λ t. if t then inner_word (length (heads kids)) r else r) under ∙ first_is _ _ r row at.here, ap heads (next_outer r b kids later under))

    module _ (first : ℕ) where
      -- it is a leaf, or an inner node
      pub leaf_told : (ns : Nodes) → BeginAt objectives c row ns → look_up c.cells row 0 ≡ Some first → AreFormed objectives ns → first % 4 ≡ 0 → weakly_dominates v (box_of_first ns).nadir ≡ true
          → (entry v ns ≡ leaf_word row) × (heads (next v ns) ≡ heads (later_of ns))
      leaf_told no_nodes at there formed kind over = absurd (nothing_first _ _ at.here)
      leaf_told (leaf r b [] later) at there formed kind over = absurd (let one = formed.0 in omega (arith, one))
      leaf_told (leaf r b (p ∷ placed) later) at there formed kind over =
          (ap (λ t. if nat_lt 0 (length (p ∷ placed)) && t then leaf_word r else r) over ∙ ap (λ t. if t && true then leaf_word r else r) (lt-ltb 0 (length (p ∷ placed)) (omega arith)) ∙ ap leaf_word (first_is _ _ r row at.here), refl)
      leaf_told (inner r b kids later) at there formed kind over = absurd (let e = first_word objectives c row (inner r b kids later) first at there in omega (arith, e, kind))

      pub inner_told : (ns : Nodes) → BeginAt objectives c row ns → look_up c.cells row 0 ≡ Some first → (first % 4 ≡ 0 → ⊥) → weakly_dominates v (box_of_first ns).nadir ≡ true
          → (entry v ns ≡ inner_word (first / 4) row) × (heads (next v ns) ≡ heads (later_of ns) ++ links_of ns)
      inner_told no_nodes at there kind over = absurd (nothing_first _ _ at.here)
      inner_told (leaf r b placed later) at there kind over = absurd (kind (let e = first_word objectives c row (leaf r b placed later) first at there in omega (arith, e)))
      inner_told (inner r b kids later) at there kind over =
          let e = first_word objectives c row (inner r b kids later) first at there in (
            ap (λ t. if t then inner_word (length (heads kids)) r else r) over ∙ ap₂ (λ n x. inner_word n x) (let e' : length (heads kids) ≡ first / 4 = omega (arith, e) in e') (first_is _ _ r row at.here),
            ap heads (next_inner r b kids later over) ∙ heads-followed later kids,
          )

-- the side of a value that is not there
pub side_none : (x y : List ℤ) → is_none (sided x y) ≡ true → weakly_dominates x y ≡ false
side_none x y none = by_test (λ s. is_none (if s then Some (weakly_dominates y x) else None) ≡ true → s ≡ false) (weakly_dominates x y) (λ over e. sym e) (λ under e. refl) none

pub side_some : (x y : List ℤ) → is_none (sided x y) ≡ false → weakly_dominates x y ≡ true
side_some x y nonempty = by_test (λ s. is_none (if s then Some (weakly_dominates y x) else None) ≡ false → s ≡ true) (weakly_dominates x y) (λ over e. refl) (λ under e. sym e) nonempty

pub is_some-sided : (x y : List ℤ) → is_some (sided x y) ≡ weakly_dominates x y
is_some-sided x y = by_test (λ s. is_some (if s then Some (weakly_dominates y x) else None) ≡ s) (weakly_dominates x y) (λ over. refl) (λ under. refl)

module _ (objectives : ℕ) (c : Copy) (rows : ℕ) (ns : Nodes) (others work : List ℕ) (listed : AreListed objectives c rows ns others work) (k row : ℕ) (at : length others ≡ k) where
  first_here : (ns : Nodes) → work ≡ others ++ heads ns → 0 < length (heads ns) → get_elem? work k ≡ some row → heads ns ≡ row ∷ heads (later_of ns)
  first_here no_nodes is nonempty there = absurd (omega (arith, nonempty))
  first_here (leaf r b placed later) is nonempty there = ap (λ x. x ∷ heads later) (sym (seam_is others r (heads later) work k row is at there))
  first_here (inner r b kids later) is nonempty there = ap (λ x. x ∷ heads later) (sym (seam_is others r (heads later) work k row is at there))

  pub begin_at : 0 < length (heads ns) → get_elem? work k ≡ some row → BeginAt objectives c row ns
  begin_at nonempty there = record { pending = listed.pending; here = first_here ns listed.listed nonempty there }

  module _ (begin : BeginAt objectives c row ns) where
    now_first : work ≡ others ++ row ∷ heads (later_of ns)
    now_first = listed.listed ∙ ap (λ xs. others ++ xs) begin.here

    -- there is room for its children
    room_of : (ns : Nodes) → length others + length (rows_of ns) ≤ rows → length work ≡ length others + length (heads ns) → BeginAt objectives c row ns → length work + length (heads (kids_of ns)) ≤ rows
    room_of no_nodes room len at = absurd (nothing_first _ _ at.here)
    room_of (leaf r b placed later) room len at = let few = heads_few (leaf r b placed later) in omega (arith, room, len, few)
    room_of (inner r b kids later) room len at =
        let one = heads_few kids in let two = heads_few later in let n = length-append (rows_of kids) (rows_of later) in omega (arith, room, len, one, two, n)

    pub room_kids : length work + length (heads (kids_of ns)) ≤ rows
    room_kids = room_of ns listed.room (ap length listed.listed ∙ length-append others (heads ns)) begin

    -- it stays as it is
    pub stays_here : (e : ℕ) (n : Nodes) → (e ≡ row) × (heads n ≡ heads (later_of ns)) → (work' : List ℕ) → work' ≡ work → work' ≡ (others ++ e ∷ []) ++ heads n
    stays_here e n is work' same = same ∙ now_first ∙ ap₂ (λ x xs. others ++ x ∷ xs) (sym is.0) (sym is.1) ∙ sym (append_assoc others (e ∷ []) (heads n))

    told_now : (w : ℕ) → set work k w ≡ others ++ w ∷ heads (later_of ns)
    told_now w = ap (λ i. set work i w) (sym at) ∙ ap (λ xs. set xs (length others) w) now_first ∙ set-append_seam others row (heads (later_of ns)) w

    -- or is told by another word
    pub told_here : (w e : ℕ) (n : Nodes) → (e ≡ w) × (heads n ≡ heads (later_of ns)) → (work' : List ℕ) → work' ≡ set work k w → work' ≡ (others ++ e ∷ []) ++ heads n
    told_here w e n is work' now = now ∙ told_now w ∙ ap₂ (λ x xs. others ++ x ∷ xs) (sym is.0) (sym is.1) ∙ sym (append_assoc others (e ∷ []) (heads n))

    -- and its children come last
    pub told_more : (w e : ℕ) (n : Nodes) (more : List ℕ) → (e ≡ w) × (heads n ≡ heads (later_of ns) ++ more) → (work' : List ℕ) → work' ≡ set work k w ++ more → work' ≡ (others ++ e ∷ []) ++ heads n
    told_more w e n more is work' now =
        now ∙ ap (λ xs. xs ++ more) (told_now w) ∙ append_assoc others (w ∷ heads (later_of ns)) more
        ∙ ap₂ (λ x xs. others ++ x ∷ xs) (sym is.0) (sym is.1) ∙ sym (append_assoc others (e ∷ []) (heads n))

-- ---- all nodes of a tree are looked at
module _ (v : List ℤ) (objectives : ℕ) (c : Copy) (rows : ℕ) (t : Nodes) (k : ℕ) (work : List ℕ) (listed : AreListed objectives c rows (left v k t) (entries v k t) work) where
  len_now : length work ≡ k + length (heads (left v k t))
  len_now = let e = ap length listed.listed ∙ length-append (entries v k t) (heads (left v k t)) in let n = length-entries v k t in omega (arith, e, n)

  -- nothing is left
  module _ (each : (j : ℕ) → j < k → 0 < length (heads (left v j t))) where
    listed_all : length (heads (left v k t)) ≡ 0 → (n : ℕ) × AreAllListed v t n work
    listed_all none =
        let e = no_heads (left v k t) none in
        (k, record { none_left = e; some = each; listed = listed.listed ∙ ap (λ ns. entries v k t ++ heads ns) e ∙ append-nil (entries v k t) })

    pub listed_len : k ≡ length work → (n : ℕ) × AreAllListed v t n work
    listed_len e = listed_all (let n = len_now in omega (arith, e, n))

    pub listed_end : rows ≤ k → (n : ℕ) × AreAllListed v t n work
    listed_end many = listed_all (let few = heads_few (left v k t) in let room = listed.room in let n = length-entries v k t in omega (arith, many, few, room, n))

    pub each_more : 0 < length (heads (left v k t)) → (n : ℕ) → n ≡ k + 1 → (j : ℕ) → j < n → 0 < length (heads (left v j t))
    each_more nonempty n is j low = ⊎_elim (λ e. subst (λ i. 0 < length (heads (left v i t))) (sym e) nonempty) (λ other. each j (omega (arith, is, low, other))) (cases_eq j k)

  pub listed_some : (k ≡ length work → ⊥) → 0 < length (heads (left v k t))
  listed_some more = let n = len_now in positive (length (heads (left v k t))) (λ e. more (omega (arith, n, e)))
    where
      positive : (n : ℕ) → (n ≡ 0 → ⊥) → 0 < n
      positive zero h = absurd (h refl)
      positive (suc n) h = omega arith

  pub listed_more : 0 < length (heads (left v k t)) → (work' : List ℕ) → work' ≡ (entries v k t ++ entry v (left v k t) ∷ []) ++ heads (next v (left v k t)) → (n : ℕ) → n ≡ k + 1 → AreListed objectives c rows (left v n t) (entries v n t) work'
  listed_more nonempty work' now n is =
      subst (λ m. AreListed objectives c rows (left v m t) (entries v m t) work') (let e : suc k ≡ n = omega (arith, is) in e) (record {
        pending = pending_next v objectives c (left v k t) listed.pending;
        listed = now;
        room = (let fewer = next_fewer v (left v k t) nonempty in let room = listed.room in let n = length-entries v k t in let m = length-entries v (suc k) t in omega (arith, fewer, room, n, m));
      })
