-- What is left of nodes side by side: named, in words, and put together from what is left of each.
use Rattle.std.proofs.Common.{◌≡◌, ◌≢◌, ℕ, suc, ◌+◌, ◌%◌, ◌<◌, ◌≤◌, inr, ⊎_elim, Bool, true, false, nat_le, if◌then◌else◌, List, [], ◌∷◌, ◌++◌, length, refl, sym, ap, ap₂, subst, ◌∙◌, arith, ℤ}
use Rattle.std.specs.Prelude.{◌||◌}
use Rattle.std.proofs.lemmas.Bool.{lt-ltb}
use Rattle.std.proofs.lemmas.List.Folds.{list_any-append}
use Rattle.era_core.specs.declared.sizes.TheConstants.{ROOT_ROWS}
use Rattle.era_core.specs.Lists.{times, In}
use Rattle.era_core.specs.Versions.{Cell}
use Rattle.era_core.proofs.ListFacts.{times-append, times-head, in_head, in_tail, in_cases, in-append_left, in-append_right}
use Rattle.pls_vectors.specs.Box.{Box}
use Rattle.pls_vectors.specs.Dominance.{weakly_dominates}
use Rattle.pls_archive.specs.declared.point.Point.{Point}
use Rattle.pls_archive.specs.Lists.{one_if}
use Rattle.pls_archive.proofs.Every.{total-append}
use Rattle.nd_rows.specs.Nodes.{Placed, Nodes, no_nodes, leaf, inner, heads, rows_of, rows_with, points_of, points_with, followed_by}
use Rattle.nd_rows.proofs.Following.{heads-followed, points-followed}
use Rattle.nd_update.specs.Removal.{is_hit, staying, going, changed_leaf, changed_inner, without_dominated, dropped}
use Rattle.nd_update.specs.Naming.{ArePlacedNamed, AreNamed, name_of, names_with, names_of, IsLeafRow, IsInnerRow, ArePlacedWritten, AreNamesWritten}
use Rattle.nd_update.specs.Building.{Elsewhere}
use Rattle.nd_update.specs.Left.{hits, gone_word, result_word, is_touched, alive, AreResults}
use Rattle.nd_update.proofs.Removal.{heads-without}
use Rattle.nd_update.proofs.Naming.{heads-named, name-new, name-known, known-name}
use Rattle.nd_update.proofs.NamedParts.{named-followed}
use Rattle.nd_update.proofs.Results.{followed-assoc, without-followed}
use Rattle.nd_update.proofs.Alike.{Agree, links-alike, box-alike, point-alike}

pub followed-none : (ns : Nodes) → followed_by ns no_nodes ≡ ns
followed-none no_nodes = refl
followed-none (leaf r b placed later) = ap (λ ns. leaf r b placed ns) (followed-none later)
followed-none (inner r b kids later) = ap (λ ns. inner r b kids ns) (followed-none later)

-- ---- what goes, of nodes and then others
module _ (v : List ℤ) where
  pub hit-followed : (ns others : Nodes) → is_hit v (points_of (followed_by ns others)) ≡ (is_hit v (points_of ns) || is_hit v (points_of others))
  hit-followed ns others = ap (is_hit v) (points-followed ns others) ∙ list_any-append (λ (p : Point). weakly_dominates v p.value) (points_of ns) (points_of others)

  pub hits-followed : (ns others : Nodes) → hits v (points_of (followed_by ns others)) ≡ hits v (points_of ns) + hits v (points_of others)
  hits-followed ns others = ap (hits v) (points-followed ns others) ∙ total-append (λ (p : Point). one_if (weakly_dominates v p.value)) (points_of ns) (points_of others)

  pub dropped-followed : (x : ℕ) (ns others : Nodes) → times x (dropped v (followed_by ns others)) ≡ times x (dropped v ns) + times x (dropped v others)
  dropped-followed x no_nodes others = omega arith
  dropped-followed x (leaf r b placed later) others =
      let rest = dropped-followed x later others in
      let one = times-append x (if is_hit v (points_with placed) then r ∷ rows_with (going v placed) else []) (dropped v later) in
      let two = times-append x (if is_hit v (points_with placed) then r ∷ rows_with (going v placed) else []) (dropped v (followed_by later others)) in omega (arith, rest, one, two)
  dropped-followed x (inner r b kids later) others =
      let rest = dropped-followed x later others in
      let one = times-append x (if is_hit v (points_of kids) then r ∷ dropped v kids else []) (dropped v later) in
      let two = times-append x (if is_hit v (points_of kids) then r ∷ dropped v kids else []) (dropped v (followed_by later others)) in omega (arith, rest, one, two)

-- where no point goes, nothing does
or_none : (s t : Bool) → (s || t) ≡ false → (s ≡ false) × (t ≡ false)
or_none true t e = absurd (let h : true ≡ false = e in cc)
or_none false t e = (refl, e)

pub none_of : (v : List ℤ) (points : List Point) → is_hit v points ≡ false → hits v points ≡ 0
none_of v [] none = refl
none_of v (p ∷ points) none =
    let parts = or_none (weakly_dominates v p.value) (is_hit v points) none in
    let rest = none_of v points parts.1 in let one = ap one_if parts.0 in omega (arith, rest, one)

module _ (v : List ℤ) where
  first_none : (points others : List Point) → is_hit v (points ++ others) ≡ false → (is_hit v points ≡ false) × (is_hit v others ≡ false)
  first_none points others none = or_none (is_hit v points) (is_hit v others) (sym (list_any-append (λ (p : Point). weakly_dominates v p.value) points others) ∙ none)

  pub none_without : (new : ℕ) (ns : Nodes) → is_hit v (points_of ns) ≡ false → without_dominated new v ns ≡ ns
  none_without new no_nodes none = refl
  none_without new (leaf r b placed later) none =
      let parts = first_none (points_with placed) (points_of later) none in
      ap (λ s. if s then changed_leaf new b (staying v placed) (without_dominated new v later) else leaf r b placed (without_dominated new v later)) parts.0
      ∙ ap (λ ns. leaf r b placed ns) (none_without new later parts.1)
  none_without new (inner r b kids later) none =
      let parts = first_none (points_of kids) (points_of later) none in
      ap (λ s. if s then changed_inner new b (without_dominated new v kids) (without_dominated new v later) else inner r b kids (without_dominated new v later)) parts.0
      ∙ ap (λ ns. inner r b kids ns) (none_without new later parts.1)

  pub none_dropped : (ns : Nodes) → is_hit v (points_of ns) ≡ false → dropped v ns ≡ []
  none_dropped no_nodes none = refl
  none_dropped (leaf r b placed later) none =
      let parts = first_none (points_with placed) (points_of later) none in
      ap₂ (λ s xs. (if s then r ∷ rows_with (going v placed) else []) ++ xs) parts.0 (none_dropped later parts.1)
  none_dropped (inner r b kids later) none =
      let parts = first_none (points_of kids) (points_of later) none in
      ap₂ (λ s xs. (if s then r ∷ dropped v kids else []) ++ xs) parts.0 (none_dropped later parts.1)

-- ---- names
module _ (new : ℕ) where
  pub placed_self : (placed : List Placed) → ArePlacedNamed new placed placed
  placed_self [] = tt
  placed_self (p ∷ placed) = (inr refl, refl, placed_self placed)

  -- nodes are named by themselves
  pub named_self : (ns : Nodes) → AreNamed new ns ns
  named_self no_nodes = tt
  named_self (leaf r b placed later) = (inr refl, refl, placed_self placed, named_self later)
  named_self (inner r b kids later) = (inr refl, refl, named_self kids, named_self later)

  known_head : (r : ℕ) (xs : List ℕ) → times new (r ∷ xs) ≡ 0 → r ≢ new
  known_head r xs known e = let head = times-head new xs in let same = ap (λ n. times new (n ∷ xs)) e in omega (arith, head, same, known)

  -- where all rows are known, none is named, and no other nodes are named like that
  pub names_with-none : (placed named : List Placed) → times new (rows_with placed) ≡ 0 → names_with new placed named ≡ []
  names_with-none [] named known = refl
  names_with-none (p ∷ placed) [] known = refl
  names_with-none (p ∷ placed) (q ∷ named) known =
      ap₂ (λ xs ys. xs ++ ys) (name-known new p.row q.row (known_head p.row (rows_with placed) known)) (names_with-none placed named (omega (arith, known)))

  pub names_none : (ns ms : Nodes) → times new (rows_of ns) ≡ 0 → names_of new ns ms ≡ []
  names_none no_nodes ms known = refl
  names_none (leaf r b placed later) no_nodes known = refl
  names_none (leaf r b placed later) (leaf name box named others) known =
      let both = times-append new (rows_with placed) (rows_of later) in
      ap₂ (λ xs ys. xs ++ ys) (name-known new r name (known_head r _ known))
      (ap₂ (λ xs ys. xs ++ ys) (names_with-none placed named (omega (arith, known, both))) (names_none later others (omega (arith, known, both))))
  names_none (leaf r b placed later) (inner name box kids others) known = refl
  names_none (inner r b kids later) no_nodes known = refl
  names_none (inner r b kids later) (leaf name box named others) known = refl
  names_none (inner r b kids later) (inner name box named others) known =
      let both = times-append new (rows_of kids) (rows_of later) in
      ap₂ (λ xs ys. xs ++ ys) (name-known new r name (known_head r _ known))
      (ap₂ (λ xs ys. xs ++ ys) (names_none kids named (omega (arith, known, both))) (names_none later others (omega (arith, known, both))))

  same_placed : (placed named : List Placed) → ArePlacedNamed new placed named → times new (rows_with placed) ≡ 0 → named ≡ placed
  same_placed [] [] are known = refl
  same_placed [] (q ∷ named) are known = absurd are
  same_placed (p ∷ placed) [] are known = absurd are
  same_placed (p ∷ placed) (q ∷ named) are known =
      ap₂ (λ x xs. x ∷ xs) (ap₂ (λ r x. record { row = r; point = x }) (known-name new p.row q.row are.0 (known_head p.row (rows_with placed) known)) are.1)
      (same_placed placed named are.2 (omega (arith, known)))

  pub same_named : (ns ms : Nodes) → AreNamed new ns ms → times new (rows_of ns) ≡ 0 → ms ≡ ns
  same_named no_nodes no_nodes are known = refl
  same_named no_nodes (leaf name box named others) are known = absurd are
  same_named no_nodes (inner name box named others) are known = absurd are
  same_named (leaf r b placed later) no_nodes are known = absurd are
  same_named (leaf r b placed later) (leaf name box named others) are known =
      let both = times-append new (rows_with placed) (rows_of later) in
      ap₂ (λ n x. leaf n x named others) (known-name new r name are.0 (known_head r _ known)) are.1
      ∙ ap₂ (λ x ns. leaf r b x ns) (same_placed placed named are.2 (omega (arith, known, both))) (same_named later others are.3 (omega (arith, known, both)))
  same_named (leaf r b placed later) (inner name box named others) are known = absurd are
  same_named (inner r b kids later) no_nodes are known = absurd are
  same_named (inner r b kids later) (leaf name box named others) are known = absurd are
  same_named (inner r b kids later) (inner name box named others) are known =
      let both = times-append new (rows_of kids) (rows_of later) in
      ap₂ (λ n x. inner n x named others) (known-name new r name are.0 (known_head r _ known)) are.1
      ∙ ap₂ (λ x ns. inner r b x ns) (same_named kids named are.2 (omega (arith, known, both))) (same_named later others are.3 (omega (arith, known, both)))

  module _ (objectives : ℕ) (cells : List Cell) where
    -- and nothing is to be written
    pub written_placed-none : (placed named : List Placed) → ArePlacedNamed new placed named → times new (rows_with placed) ≡ 0 → ArePlacedWritten new objectives cells placed named
    written_placed-none [] named are known = tt
    written_placed-none (p ∷ placed) [] are known = absurd are
    written_placed-none (p ∷ placed) (q ∷ named) are known =
        ((λ e. absurd (known_head p.row (rows_with placed) known e)), written_placed-none placed named are.2 (omega (arith, known)))

    pub written-none : (ns ms : Nodes) → AreNamed new ns ms → times new (rows_of ns) ≡ 0 → AreNamesWritten new objectives cells ns ms
    written-none no_nodes ms are known = tt
    written-none (leaf r b placed later) no_nodes are known = absurd are
    written-none (leaf r b placed later) (leaf name box named others) are known =
        let both = times-append new (rows_with placed) (rows_of later) in
        ((λ e. absurd (known_head r _ known e)), written_placed-none placed named are.2 (omega (arith, known, both)), written-none later others are.3 (omega (arith, known, both)))
    written-none (leaf r b placed later) (inner name box kids others) are known = absurd are
    written-none (inner r b kids later) no_nodes are known = absurd are
    written-none (inner r b kids later) (leaf name box named others) are known = absurd are
    written-none (inner r b kids later) (inner name box named others) are known =
        let both = times-append new (rows_of kids) (rows_of later) in
        ((λ e. absurd (known_head r _ known e)), written-none kids named are.2 (omega (arith, known, both)), written-none later others are.3 (omega (arith, known, both)))

    -- what is written of nodes and others is written of each
    pub written-parts : (ns ms ns' ms' : Nodes) → AreNamed new ns ms → AreNamesWritten new objectives cells (followed_by ns ns') (followed_by ms ms')
        → AreNamesWritten new objectives cells ns ms × AreNamesWritten new objectives cells ns' ms'
    written-parts no_nodes no_nodes ns' ms' are all = (tt, all)
    written-parts no_nodes (leaf name box named others) ns' ms' are all = absurd are
    written-parts no_nodes (inner name box named others) ns' ms' are all = absurd are
    written-parts (leaf r b placed later) no_nodes ns' ms' are all = absurd are
    written-parts (leaf r b placed later) (leaf name box named others) ns' ms' are all =
        let rest = written-parts later others ns' ms' are.3 all.2 in ((all.0, all.1, rest.0), rest.1)
    written-parts (leaf r b placed later) (inner name box named others) ns' ms' are all = absurd are
    written-parts (inner r b kids later) no_nodes ns' ms' are all = absurd are
    written-parts (inner r b kids later) (leaf name box named others) ns' ms' are all = absurd are
    written-parts (inner r b kids later) (inner name box named others) ns' ms' are all =
        let rest = written-parts later others ns' ms' are.3 all.2 in ((all.0, all.1, rest.0), rest.1)

  -- words of other rows change nothing
  module _ (objectives : ℕ) (rows : List ℕ) (cells cells' : List Cell) (elsewhere : Elsewhere rows cells cells') where
    agree : (r : ℕ) → times r rows ≡ 0 → Agree objectives cells cells' r
    agree r apart p w there = elsewhere r p apart ∙ there

    first_name : (r name : ℕ) (rest : List ℕ) → ((x : ℕ) → In x (name_of new r name ++ rest) → times x rows ≡ 0) → r ≡ new → times name rows ≡ 0
    first_name r name rest apart e = apart name (in-append_left name (name_of new r name) rest (subst (In name) (sym (name-new new r name e)) (in_head name [])))

    placed-elsewhere : (placed named : List Placed) → ((x : ℕ) → In x (names_with new placed named) → times x rows ≡ 0) → ArePlacedWritten new objectives cells placed named → ArePlacedWritten new objectives cells' placed named
    placed-elsewhere [] named apart written = tt
    placed-elsewhere (p ∷ placed) [] apart written = absurd written
    placed-elsewhere (p ∷ placed) (q ∷ named) apart written = (
      (λ e. point-alike objectives cells cells' q (agree q.row (first_name p.row q.row _ apart e)) (written.0 e)),
      placed-elsewhere placed named (λ x here. apart x (in-append_right x (name_of new p.row q.row) _ here)) written.1,
    )

    leaf-elsewhere : (r : ℕ) (b : Box) (placed : List Placed) → times r rows ≡ 0 → IsLeafRow objectives cells r b placed → IsLeafRow objectives cells' r b placed
    leaf-elsewhere r b placed apart is = record {
      links = links-alike objectives cells cells' _ r _ (agree r apart) is.links;
      boxed = λ some. box-alike objectives cells cells' r b (agree r apart) (is.boxed some);
    }

    inner-elsewhere : (r : ℕ) (b : Box) (kids : Nodes) → times r rows ≡ 0 → IsInnerRow objectives cells r b kids → IsInnerRow objectives cells' r b kids
    inner-elsewhere r b kids apart is = record {
      links = links-alike objectives cells cells' _ r _ (agree r apart) is.links;
      boxed = box-alike objectives cells cells' r b (agree r apart) is.boxed;
    }

    pub written-elsewhere : (ns ms : Nodes) → ((x : ℕ) → In x (names_of new ns ms) → times x rows ≡ 0) → AreNamesWritten new objectives cells ns ms → AreNamesWritten new objectives cells' ns ms
    written-elsewhere no_nodes ms apart written = tt
    written-elsewhere (leaf r b placed later) no_nodes apart written = absurd written
    written-elsewhere (leaf r b placed later) (leaf name box named others) apart written = (
      (λ e. leaf-elsewhere name box named (first_name r name _ apart e) (written.0 e)),
      placed-elsewhere placed named (λ x here. apart x (in-append_right x (name_of new r name) _ (in-append_left x (names_with new placed named) (names_of new later others) here))) written.1,
      written-elsewhere later others (λ x here. apart x (in-append_right x (name_of new r name) _ (in-append_right x (names_with new placed named) (names_of new later others) here))) written.2,
    )
    written-elsewhere (leaf r b placed later) (inner name box kids others) apart written = absurd written
    written-elsewhere (inner r b kids later) no_nodes apart written = absurd written
    written-elsewhere (inner r b kids later) (leaf name box named others) apart written = absurd written
    written-elsewhere (inner r b kids later) (inner name box named others) apart written = (
      (λ e. inner-elsewhere name box named (first_name r name _ apart e) (written.0 e)),
      written-elsewhere kids named (λ x here. apart x (in-append_right x (name_of new r name) _ (in-append_left x (names_of new kids named) (names_of new later others) here))) written.1,
      written-elsewhere later others (λ x here. apart x (in-append_right x (name_of new r name) _ (in-append_right x (names_of new kids named) (names_of new later others) here))) written.2,
    )

-- ---- words
-- the word of one node that is left, or gone
one_alive : (changed : Bool) (hs words : List ℕ) → length hs ≤ 1 → ((x : ℕ) → In x hs → x < ROOT_ROWS) → alive (result_word changed hs ∷ words) ≡ hs ++ alive words
one_alive changed [] words few small = refl
one_alive false (r ∷ []) words few small =
    let low = small r (in_head r []) in
    ap (λ s. if s then r % ROOT_ROWS ∷ alive words else alive words) (lt-ltb r gone_word (omega (arith, low))) ∙ ap (λ n. n ∷ alive words) (let e : r % ROOT_ROWS ≡ r = omega (arith, low) in e)
one_alive true (r ∷ []) words few small =
    let low = small r (in_head r []) in
    ap (λ s. if s then (ROOT_ROWS + r) % ROOT_ROWS ∷ alive words else alive words) (lt-ltb (ROOT_ROWS + r) gone_word (omega (arith, low))) ∙ ap (λ n. n ∷ alive words) (let e : (ROOT_ROWS + r) % ROOT_ROWS ≡ r = omega (arith, low) in e)
one_alive changed (r ∷ s ∷ hs) words few small = absurd (omega (arith, few))

one_touched : (changed : Bool) (hs : List ℕ) → length hs ≤ 1 → (changed ≡ false → 0 < length hs) → ((x : ℕ) → In x hs → x < ROOT_ROWS) → nat_le ROOT_ROWS (result_word changed hs) ≡ changed
one_touched true [] few some small = refl
one_touched false [] few some small = absurd (let one = some refl in omega (arith, one))
one_touched false (r ∷ []) few some small = let low = small r (in_head r []) in not_le ROOT_ROWS r low
  where
    not_le : (m n : ℕ) → n < m → nat_le m n ≡ false
    not_le m n low = search arith
one_touched true (r ∷ []) few some small = is_le ROOT_ROWS (ROOT_ROWS + r) (omega arith)
  where
    is_le : (m n : ℕ) → m ≤ n → nat_le m n ≡ true
    is_le m n low = search arith
one_touched changed (r ∷ s ∷ hs) few some small = absurd (omega (arith, few))

pub heads_in : (ns : Nodes) (x : ℕ) → In x (heads ns) → In x (rows_of ns)
heads_in no_nodes x here = here
heads_in (leaf r b placed later) x here =
    ⊎_elim (λ e. subst (λ y. In y (rows_of (leaf r b placed later))) (sym e) (in_head r _))
    (λ late. in_tail x r _ (in-append_right x (rows_with placed) (rows_of later) (heads_in later x late))) (in_cases x r (heads later) here)
heads_in (inner r b kids later) x here =
    ⊎_elim (λ e. subst (λ y. In y (rows_of (inner r b kids later))) (sym e) (in_head r _))
    (λ late. in_tail x r _ (in-append_right x (rows_of kids) (rows_of later) (heads_in later x late))) (in_cases x r (heads later) here)

module _ (new : ℕ) (v : List ℤ) where
  -- the results of nodes and others
  pub record AreParted (words : List ℕ) (ns others named : Nodes) : Type 0 where
    pub first : List ℕ
    pub second : List ℕ
    pub named_first : Nodes
    pub named_second : Nodes
    pub words_are : words ≡ first ++ second
    pub named_are : named ≡ followed_by named_first named_second
    pub results_first : AreResults new v first ns named_first
    pub results_second : AreResults new v second others named_second

  pub parted : (words : List ℕ) (ns others named : Nodes) → AreResults new v words (followed_by ns others) named → AreParted words ns others named
  parted words no_nodes others named are =
      record { first = []; second = words; named_first = no_nodes; named_second = named; words_are = refl; named_are = refl; results_first = refl; results_second = are }
  parted [] (leaf r b placed later) others named are = absurd are
  parted [] (inner r b kids later) others named are = absurd are
  parted (w ∷ words) (leaf r b placed later) others named (m, rest, e, is, are) =
      let parts = parted words later others rest are in record {
        first = w ∷ parts.first;
        second = parts.second;
        named_first = followed_by m parts.named_first;
        named_second = parts.named_second;
        words_are = ap (λ ws. w ∷ ws) parts.words_are;
        named_are = e ∙ ap (followed_by m) parts.named_are ∙ sym (followed-assoc m parts.named_first parts.named_second);
        results_first = (m, parts.named_first, refl, is, parts.results_first);
        results_second = parts.results_second;
      }
  parted (w ∷ words) (inner r b kids later) others named (m, rest, e, is, are) =
      let parts = parted words later others rest are in record {
        first = w ∷ parts.first;
        second = parts.second;
        named_first = followed_by m parts.named_first;
        named_second = parts.named_second;
        words_are = ap (λ ws. w ∷ ws) parts.words_are;
        named_are = e ∙ ap (followed_by m) parts.named_are ∙ sym (followed-assoc m parts.named_first parts.named_second);
        results_first = (m, parts.named_first, refl, is, parts.results_first);
        results_second = parts.results_second;
      }

  pub results_named : (words : List ℕ) (ns named : Nodes) → AreResults new v words ns named → AreNamed new (without_dominated new v ns) named
  results_named [] no_nodes named e = subst (AreNamed new no_nodes) (sym e) tt
  results_named [] (leaf r b placed later) named are = absurd are
  results_named [] (inner r b kids later) named are = absurd are
  results_named (w ∷ words) no_nodes named are = absurd are
  results_named (w ∷ words) (leaf r b placed later) named (m, rest, e, is, are) =
      subst (λ ms. AreNamed new ms named) (sym (without-followed new v (leaf r b placed no_nodes) later))
      (subst (AreNamed new (followed_by (without_dominated new v (leaf r b placed no_nodes)) (without_dominated new v later))) (sym e)
      (named-followed new _ m _ rest is.is_named (results_named words later rest are)))
  results_named (w ∷ words) (inner r b kids later) named (m, rest, e, is, are) =
      subst (λ ms. AreNamed new ms named) (sym (without-followed new v (inner r b kids no_nodes) later))
      (subst (AreNamed new (followed_by (without_dominated new v (inner r b kids no_nodes)) (without_dominated new v later))) (sym e)
      (named-followed new _ m _ rest is.is_named (results_named words later rest are)))

  pub results_length : (words : List ℕ) (ns named : Nodes) → AreResults new v words ns named → length words ≡ length (heads ns)
  results_length [] no_nodes named e = refl
  results_length [] (leaf r b placed later) named are = absurd are
  results_length [] (inner r b kids later) named are = absurd are
  results_length (w ∷ words) no_nodes named are = absurd are
  results_length (w ∷ words) (leaf r b placed later) named (m, rest, e, is, are) = ap suc (results_length words later rest are)
  results_length (w ∷ words) (inner r b kids later) named (m, rest, e, is, are) = ap suc (results_length words later rest are)

  -- one node has at most one row, and just one where no point goes
  one_few : (one m : Nodes) → length (heads one) ≡ 1 → AreNamed new (without_dominated new v one) m → length (heads m) ≤ 1
  one_few one m single are = let same = heads-named new (without_dominated new v one) m are in let few = heads-without v new one in omega (arith, same, few, single)

  one_some : (one m : Nodes) → length (heads one) ≡ 1 → AreNamed new (without_dominated new v one) m → is_hit v (points_of one) ≡ false → 0 < length (heads m)
  one_some one m single are none =
      let same = heads-named new (without_dominated new v one) m are in let e = ap (λ ns. length (heads ns)) (none_without v new one none) in omega (arith, same, e, single)

  small_parts : (named m rest : Nodes) → named ≡ followed_by m rest → ((x : ℕ) → In x (heads named) → x < ROOT_ROWS) → ((x : ℕ) → In x (heads m) → x < ROOT_ROWS) × ((x : ℕ) → In x (heads rest) → x < ROOT_ROWS)
  small_parts named m rest e small =
      let all = ap heads e ∙ heads-followed m rest in
      ((λ x here. small x (subst (In x) (sym all) (in-append_left x (heads m) (heads rest) here))), (λ x here. small x (subst (In x) (sym all) (in-append_right x (heads m) (heads rest) here))))

  -- the words tell the rows of what is left
  pub results_alive : (words : List ℕ) (ns named : Nodes) → AreResults new v words ns named → ((x : ℕ) → In x (heads named) → x < ROOT_ROWS) → alive words ≡ heads named
  results_alive [] no_nodes named e small = sym (ap heads e)
  results_alive [] (leaf r b placed later) named are small = absurd are
  results_alive [] (inner r b kids later) named are small = absurd are
  results_alive (w ∷ words) no_nodes named are small = absurd are
  results_alive (w ∷ words) (leaf r b placed later) named (m, rest, e, is, are) small =
      let low = small_parts named m rest e small in
      ap (λ x. alive (x ∷ words)) is.told ∙ one_alive (is_hit v (points_of (leaf r b placed no_nodes))) (heads m) words (one_few (leaf r b placed no_nodes) m refl is.is_named) low.0
      ∙ ap (λ xs. heads m ++ xs) (results_alive words later rest are low.1) ∙ sym (ap heads e ∙ heads-followed m rest)
  results_alive (w ∷ words) (inner r b kids later) named (m, rest, e, is, are) small =
      let low = small_parts named m rest e small in
      ap (λ x. alive (x ∷ words)) is.told ∙ one_alive (is_hit v (points_of (inner r b kids no_nodes))) (heads m) words (one_few (inner r b kids no_nodes) m refl is.is_named) low.0
      ∙ ap (λ xs. heads m ++ xs) (results_alive words later rest are low.1) ∙ sym (ap heads e ∙ heads-followed m rest)

  -- and whether one of the points goes
  pub results_touched : (words : List ℕ) (ns named : Nodes) → AreResults new v words ns named → ((x : ℕ) → In x (heads named) → x < ROOT_ROWS) → is_touched words ≡ is_hit v (points_of ns)
  results_touched [] no_nodes named e small = refl
  results_touched [] (leaf r b placed later) named are small = absurd are
  results_touched [] (inner r b kids later) named are small = absurd are
  results_touched (w ∷ words) no_nodes named are small = absurd are
  results_touched (w ∷ words) (leaf r b placed later) named (m, rest, e, is, are) small =
      let low = small_parts named m rest e small in
      let one = leaf r b placed no_nodes in
      ap₂ (λ s t. s || t) (ap (nat_le ROOT_ROWS) is.told ∙ one_touched (is_hit v (points_of one)) (heads m) (one_few one m refl is.is_named) (one_some one m refl is.is_named) low.0) (results_touched words later rest are low.1)
      ∙ sym (hit-followed v one later)
  results_touched (w ∷ words) (inner r b kids later) named (m, rest, e, is, are) small =
      let low = small_parts named m rest e small in
      let one = inner r b kids no_nodes in
      ap₂ (λ s t. s || t) (ap (nat_le ROOT_ROWS) is.told ∙ one_touched (is_hit v (points_of one)) (heads m) (one_few one m refl is.is_named) (one_some one m refl is.is_named) low.0) (results_touched words later rest are low.1)
      ∙ sym (hit-followed v one later)
