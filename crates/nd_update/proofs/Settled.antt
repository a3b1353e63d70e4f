-- What is left of one node after another, and of an inner node by what is left of its children.
use Rattle.std.proofs.Common.{◌≡◌, ◌≢◌, ℕ, suc, ◌+◌, ◌<◌, ◌≤◌, inl, true, false, if◌then◌else◌, List, [], ◌∷◌, ◌++◌, length, set, refl, sym, ap, ap₂, subst, ◌∙◌, arith, append-nil, append_assoc, ℤ}
use Rattle.std.proofs.lemmas.Bool.{lt-ltb, le-ltb}
use Rattle.std.proofs.Math.Seq.{set-append_seam}
use Rattle.era_core.specs.declared.sizes.TheConstants.{ROOT_ROWS}
use Rattle.era_core.specs.Lists.{times, In}
use Rattle.era_core.specs.Versions.{Cell}
use Rattle.era_core.proofs.ListFacts.{times-append, times-tail}
use Rattle.pls_vectors.specs.Box.{Box}
use Rattle.nd_rows.specs.Nodes.{Placed, Nodes, no_nodes, leaf, inner, heads, rows_of, rows_with, points_of, points_with, followed_by}
use Rattle.nd_update.specs.Removal.{is_hit, staying, going, changed_leaf, changed_inner, without_dominated, dropped}
use Rattle.nd_update.specs.Naming.{AreNamed, names_of, IsLeafRow, IsInnerRow, AreNamesWritten}
use Rattle.nd_update.specs.Building.{Elsewhere}
use Rattle.nd_update.specs.Left.{hits, gone_word, result_word, IsResult, AreResults, IsSettled, IsSwept, IsNodeLeft, AreKidsLeft}
use Rattle.nd_update.proofs.Removal.{staying_going}
use Rattle.nd_update.proofs.RemovedRows.{dropped-rows}
use Rattle.nd_update.proofs.Naming.{heads-named, name-new}
use Rattle.nd_update.proofs.NamedParts.{named-followed, names-followed, names_written-followed}
use Rattle.nd_update.proofs.Results.{without-followed}
use Rattle.nd_update.proofs.Swept.{followed-none, hits-followed, dropped-followed, none_of, none_without, none_dropped, placed_self, named_self, names_with-none, names_none, written_placed-none, written-none, written-parts, written-elsewhere, results_named}

-- what goes are rows of the nodes
pub dropped_few : (v : List ℤ) (x : ℕ) (ns : Nodes) → times x (dropped v ns) ≤ times x (rows_of ns)
dropped_few v x ns = let all = dropped-rows v (suc x) x (λ e. omega (arith, e)) ns in omega (arith, all)

module _ (new : ℕ) (v : List ℤ) (objectives : ℕ) where
  -- in other lists that count the same
  pub settled_as : (ns named : Nodes) (cells : List Cell) (t m t' m' : List ℕ) (r r' : ℕ) → IsSettled new v objectives ns named cells t m r
      → ((x : ℕ) → times x t' ≡ times x t) → ((x : ℕ) → times x m' ≡ times x m) → r' ≡ r → IsSettled new v objectives ns named cells t' m' r'
  settled_as ns named cells t m t' m' r r' is taken marked counted = record {
    is_named = is.is_named;
    written = is.written;
    taken_are = λ x. taken x ∙ is.taken_are x;
    marked_are = λ x. marked x ∙ is.marked_are x;
    counted = counted ∙ is.counted;
  }

  -- nodes below which no point goes stay
  pub settled_stays : (ns : Nodes) (cells : List Cell) → is_hit v (points_of ns) ≡ false → times new (rows_of ns) ≡ 0 → IsSettled new v objectives ns ns cells [] [] 0
  settled_stays ns cells none known =
      let e = none_without v new ns none in
      record {
        is_named = subst (λ ms. AreNamed new ms ns) (sym e) (named_self new ns);
        written = subst (λ ms. AreNamesWritten new objectives cells ms ns) (sym e) (written-none new objectives cells ns ns (named_self new ns) known);
        taken_are = λ x. sym (ap (times x) (ap (λ ms. names_of new ms ns) e ∙ names_none new ns ns known));
        marked_are = λ x. sym (ap (times x) (none_dropped v ns none));
        counted = sym (none_of v (points_of ns) none);
      }

  pub settled_both : (one m others rest : Nodes) (cells : List Cell) (t1 m1 t2 m2 : List ℕ) (r1 r2 : ℕ) → IsSettled new v objectives one m cells t1 m1 r1 → IsSettled new v objectives others rest cells t2 m2 r2
      → IsSettled new v objectives (followed_by one others) (followed_by m rest) cells (t2 ++ t1) (m2 ++ m1) (r2 + r1)
  settled_both one m others rest cells t1 m1 t2 m2 r1 r2 a b =
      let e = without-followed new v one others in
      record {
        is_named = subst (λ ms. AreNamed new ms (followed_by m rest)) (sym e) (named-followed new _ m _ rest a.is_named b.is_named);
        written = subst (λ ms. AreNamesWritten new objectives cells ms (followed_by m rest)) (sym e) (names_written-followed new objectives cells _ m _ rest a.is_named a.written b.written);
        taken_are = λ x.
            let all = ap (times x) (ap (λ ms. names_of new ms (followed_by m rest)) e ∙ names-followed new (without_dominated new v one) m (without_dominated new v others) rest a.is_named) in
            let parts = times-append x (names_of new (without_dominated new v one) m) (names_of new (without_dominated new v others) rest) in
            let mine = a.taken_are x in let theirs = b.taken_are x in let both = times-append x t2 t1 in omega (arith, all, parts, mine, theirs, both);
        marked_are = λ x. let all = dropped-followed v x one others in let mine = a.marked_are x in let theirs = b.marked_are x in let both = times-append x m2 m1 in omega (arith, all, mine, theirs, both);
        counted = (let all = hits-followed v one others in let mine = a.counted in let theirs = b.counted in omega (arith, all, mine, theirs));
      }

  pub settled_elsewhere : (ns named : Nodes) (cells cells' : List Cell) (rows t m : List ℕ) (r : ℕ) → Elsewhere rows cells cells' → ((x : ℕ) → In x t → times x rows ≡ 0)
      → IsSettled new v objectives ns named cells t m r → IsSettled new v objectives ns named cells' t m r
  settled_elsewhere ns named cells cells' rows t m r elsewhere apart is = record {
    is_named = is.is_named;
    written = written-elsewhere new objectives rows cells cells' elsewhere (without_dominated new v ns) named (λ x here. apart x (let e = is.taken_are x in omega (arith, here, e))) is.written;
    taken_are = is.taken_are;
    marked_are = is.marked_are;
    counted = is.counted;
  }

  -- what is left of a node, where no word changes
  pub node_elsewhere : (node : Nodes) (cells cells' : List Cell) (t m : List ℕ) (r w : ℕ) → Elsewhere [] cells cells' → IsNodeLeft new v objectives node cells t m r w → IsNodeLeft new v objectives node cells' t m r w
  node_elsewhere node cells cells' t m r w elsewhere is =
      record { named = is.named; result = is.result; settled = settled_elsewhere node is.named cells cells' [] t m r elsewhere (λ x here. refl) is.settled }

  -- what is left of nodes and of others, of each
  pub record AreBoth (ns others named rest : Nodes) (cells : List Cell) (taken marked : List ℕ) (removed : ℕ) : Type 0 where
    pub mine : IsSettled new v objectives ns named cells (names_of new (without_dominated new v ns) named) (dropped v ns) (hits v (points_of ns))
    pub theirs : IsSettled new v objectives others rest cells (names_of new (without_dominated new v others) rest) (dropped v others) (hits v (points_of others))
    pub taken_are : (x : ℕ) → times x taken ≡ times x (names_of new (without_dominated new v ns) named) + times x (names_of new (without_dominated new v others) rest)
    pub marked_are : (x : ℕ) → times x marked ≡ times x (dropped v ns) + times x (dropped v others)
    pub counted : removed ≡ hits v (points_of ns) + hits v (points_of others)

  pub settled_parts : (ns others named rest : Nodes) (cells : List Cell) (taken marked : List ℕ) (removed : ℕ) → AreNamed new (without_dominated new v ns) named → AreNamed new (without_dominated new v others) rest
      → IsSettled new v objectives (followed_by ns others) (followed_by named rest) cells taken marked removed → AreBoth ns others named rest cells taken marked removed
  settled_parts ns others named rest cells taken marked removed mine theirs is =
      let e = without-followed new v ns others in
      let written = written-parts new objectives cells (without_dominated new v ns) named (without_dominated new v others) rest mine (subst (λ ms. AreNamesWritten new objectives cells ms (followed_by named rest)) e is.written) in
      record {
        mine = record { is_named = mine; written = written.0; taken_are = λ x. refl; marked_are = λ x. refl; counted = refl };
        theirs = record { is_named = theirs; written = written.1; taken_are = λ x. refl; marked_are = λ x. refl; counted = refl };
        taken_are = λ x.
            let all = ap (times x) (ap (λ ms. names_of new ms (followed_by named rest)) e ∙ names-followed new (without_dominated new v ns) named (without_dominated new v others) rest mine) in
            let parts = times-append x (names_of new (without_dominated new v ns) named) (names_of new (without_dominated new v others) rest) in
            let so = is.taken_are x in omega (arith, all, parts, so);
        marked_are = λ x. let all = dropped-followed v x ns others in let so = is.marked_are x in omega (arith, all, so);
        counted = is.counted ∙ hits-followed v ns others;
      }

  -- ---- a leaf
  module _ (r : ℕ) (b : Box) (placed : List Placed) (cells : List Cell) where
    -- no point goes: it stays
    pub leaf_stays : is_hit v (points_with placed) ≡ false → r ≢ new → times new (rows_with placed) ≡ 0 → IsNodeLeft new v objectives (leaf r b placed no_nodes) cells [] [] 0 r
    leaf_stays none other known =
        let nothing : is_hit v (points_of (leaf r b placed no_nodes)) ≡ false = ap (is_hit v) (append-nil (points_with placed)) ∙ none in
        let all : times new (rows_of (leaf r b placed no_nodes)) ≡ 0 = known_below r (rows_with placed) other known in
        let is = settled_stays (leaf r b placed no_nodes) cells nothing all in
        record {
          named = leaf r b placed no_nodes;
          result = record { is_named = is.is_named; told = ap (λ s. result_word s (r ∷ [])) (sym nothing) };
          settled = is;
        }
      where
        known_below : (r : ℕ) (xs : List ℕ) → r ≢ new → times new xs ≡ 0 → times new (r ∷ (xs ++ [])) ≡ 0
        known_below r xs other known = let tail = times-append new xs [] in let first = times-tail new r (xs ++ []) (λ e. other (sym e)) in omega (arith, tail, known, first)

    -- some go
    module _ (hit : is_hit v (points_with placed) ≡ true) where
      is_hit_alone : is_hit v (points_of (leaf r b placed no_nodes)) ≡ true
      is_hit_alone = ap (is_hit v) (append-nil (points_with placed)) ∙ hit

      left_is : without_dominated new v (leaf r b placed no_nodes) ≡ changed_leaf new b (staying v placed) no_nodes
      left_is = ap (λ s. if s then changed_leaf new b (staying v placed) no_nodes else leaf r b placed no_nodes) hit

      gone_are : (x : ℕ) → times x (r ∷ rows_with (going v placed)) ≡ times x (dropped v (leaf r b placed no_nodes))
      gone_are x = sym (ap (λ s. times x ((if s then r ∷ rows_with (going v placed) else []) ++ [])) hit ∙ ap (times x) (append-nil (r ∷ rows_with (going v placed))))

      counted_are : hits v (points_with placed) ≡ hits v (points_of (leaf r b placed no_nodes))
      counted_are = sym (ap (hits v) (append-nil (points_with placed)))

      -- all
      pub leaf_gone : staying v placed ≡ [] → IsNodeLeft new v objectives (leaf r b placed no_nodes) cells [] (r ∷ rows_with (going v placed)) (hits v (points_with placed)) gone_word
      leaf_gone none =
          let e = left_is ∙ ap (λ ps. changed_leaf new b ps no_nodes) none in
          let named = subst (λ ms. AreNamed new ms no_nodes) (sym e) tt in
          record {
            named = no_nodes;
            result = record { is_named = named; told = refl };
            settled = record {
              is_named = named;
              written = subst (λ ms. AreNamesWritten new objectives cells ms no_nodes) (sym e) tt;
              taken_are = λ x. sym (ap (λ ms. times x (names_of new ms no_nodes)) e);
              marked_are = gone_are;
              counted = counted_are;
            };
          }

      -- but not all: they are in a row that was taken
      changed_is : (stay : List Placed) → 0 < length stay → changed_leaf new b stay no_nodes ≡ leaf new b stay no_nodes
      changed_is [] some = absurd (omega (arith, some))
      changed_is (p ∷ stay) some = refl

      pub leaf_left : (own : ℕ) → 0 < length (staying v placed) → times new (rows_with placed) ≡ 0 → IsLeafRow objectives cells own b (staying v placed)
          → IsNodeLeft new v objectives (leaf r b placed no_nodes) cells (own ∷ []) (r ∷ rows_with (going v placed)) (hits v (points_with placed)) (ROOT_ROWS + own)
      leaf_left own some known row =
          let stay = staying v placed in
          let e = left_is ∙ changed_is stay some in
          let parts = staying_going v new placed in
          let known_stay : times new (rows_with stay) ≡ 0 = omega (arith, parts, known) in
          let named = subst (λ ms. AreNamed new ms (leaf own b stay no_nodes)) (sym e) (inl refl, refl, placed_self new stay, tt) in
          record {
            named = leaf own b stay no_nodes;
            result = record { is_named = named; told = ap (λ s. result_word s (own ∷ [])) (sym is_hit_alone) };
            settled = record {
              is_named = named;
              written = subst (λ ms. AreNamesWritten new objectives cells ms (leaf own b stay no_nodes)) (sym e) ((λ same. row), written_placed-none new objectives cells stay stay (placed_self new stay) known_stay, tt);
              taken_are = λ x. sym (ap (λ ms. times x (names_of new ms (leaf own b stay no_nodes))) e
                  ∙ ap (times x) (ap₂ (λ xs ys. xs ++ (ys ++ [])) (name-new new new own refl) (names_with-none new stay stay known_stay)));
              marked_are = gone_are;
              counted = counted_are;
            };
          }

  -- ---- an inner node
  module _ (r : ℕ) (b : Box) (kids : Nodes) (cells : List Cell) where
    pub inner_stays : is_hit v (points_of kids) ≡ false → r ≢ new → times new (rows_of kids) ≡ 0 → IsNodeLeft new v objectives (inner r b kids no_nodes) cells [] [] 0 r
    inner_stays none other known =
        let nothing : is_hit v (points_of (inner r b kids no_nodes)) ≡ false = ap (is_hit v) (append-nil (points_of kids)) ∙ none in
        let tail = times-append new (rows_of kids) [] in
        let all : times new (rows_of (inner r b kids no_nodes)) ≡ 0 = (let first = times-tail new r (rows_of kids ++ []) (λ e. other (sym e)) in omega (arith, tail, known, first)) in
        let is = settled_stays (inner r b kids no_nodes) cells nothing all in
        record {
          named = inner r b kids no_nodes;
          result = record { is_named = is.is_named; told = ap (λ s. result_word s (r ∷ [])) (sym nothing) };
          settled = is;
        }

    module _ (words : List ℕ) (named : Nodes) (fresh : List ℕ) (left : AreKidsLeft new v objectives words kids named cells fresh) where
      kids_named : AreNamed new (without_dominated new v kids) named
      kids_named = results_named new v words kids named left.are_results

      kids_hit : is_hit v (points_of (inner r b kids no_nodes)) ≡ true
      kids_hit = ap (is_hit v) (append-nil (points_of kids)) ∙ left.hit

      kids_left : without_dominated new v (inner r b kids no_nodes) ≡ changed_inner new b (without_dominated new v kids) no_nodes
      kids_left = ap (λ s. if s then changed_inner new b (without_dominated new v kids) no_nodes else inner r b kids no_nodes) left.hit

      kids_gone : (x : ℕ) → times x (r ∷ dropped v kids) ≡ times x (dropped v (inner r b kids no_nodes))
      kids_gone x = sym (ap (λ s. times x ((if s then r ∷ dropped v kids else []) ++ [])) left.hit ∙ ap (times x) (append-nil (r ∷ dropped v kids)))

      kids_counted : hits v (points_of kids) ≡ hits v (points_of (inner r b kids no_nodes))
      kids_counted = sym (ap (hits v) (append-nil (points_of kids)))

      -- at most one child is left: it stands in its place
      pub inner_replaced : length (heads named) ≤ 1 → IsNodeLeft new v objectives (inner r b kids no_nodes) cells (names_of new (without_dominated new v kids) named) (r ∷ dropped v kids) (hits v (points_of kids)) (result_word true (heads named))
      inner_replaced few =
          let long = heads-named new (without_dominated new v kids) named kids_named in
          let e = kids_left ∙ ap (λ s. if s then followed_by (without_dominated new v kids) no_nodes else inner new b (without_dominated new v kids) no_nodes) (lt-ltb (length (heads (without_dominated new v kids))) 2 (omega (arith, long, few))) ∙ followed-none (without_dominated new v kids) in
          let is = subst (λ ms. AreNamed new ms named) (sym e) kids_named in
          record {
            named = named;
            result = record { is_named = is; told = ap (λ s. result_word s (heads named)) (sym kids_hit) };
            settled = record {
              is_named = is;
              written = subst (λ ms. AreNamesWritten new objectives cells ms named) (sym e) left.written;
              taken_are = λ x. sym (ap (λ ms. times x (names_of new ms named)) e);
              marked_are = kids_gone;
              counted = kids_counted;
            };
          }

      -- more are left: they are in a row that was taken
      pub inner_left : (own : ℕ) → 2 ≤ length (heads named) → IsInnerRow objectives cells own b named
          → IsNodeLeft new v objectives (inner r b kids no_nodes) cells (names_of new (without_dominated new v kids) named ++ own ∷ []) (r ∷ dropped v kids) (hits v (points_of kids)) (ROOT_ROWS + own)
      inner_left own many row =
          let long = heads-named new (without_dominated new v kids) named kids_named in
          let below = without_dominated new v kids in
          let e : without_dominated new v (inner r b kids no_nodes) ≡ inner new b below no_nodes = kids_left ∙ ap (λ s. if s then followed_by below no_nodes else inner new b below no_nodes) (le-ltb (length (heads below)) 2 (omega (arith, long, many))) in
          let is = subst (λ ms. AreNamed new ms (inner own b named no_nodes)) (sym e) (inl refl, refl, kids_named, tt) in
          record {
            named = inner own b named no_nodes;
            result = record { is_named = is; told = ap (λ s. result_word s (own ∷ [])) (sym kids_hit) };
            settled = record {
              is_named = is;
              written = subst (λ ms. AreNamesWritten new objectives cells ms (inner own b named no_nodes)) (sym e) ((λ same. row), left.written, tt);
              taken_are = λ x.
                  let all = ap (λ ms. times x (names_of new ms (inner own b named no_nodes))) e in
                  let name = ap (λ xs. times x (xs ++ (names_of new below named ++ []))) (name-new new new own refl) in
                  let one = times-append x (own ∷ []) (names_of new below named ++ []) in let two = times-append x (names_of new below named) [] in
                  let mine = times-append x (names_of new below named) (own ∷ []) in omega (arith, all, name, one, two, mine);
              marked_are = kids_gone;
              counted = kids_counted;
            };
          }

  -- ---- the list
  module _ (others : List ℕ) (e : ℕ) (work : List ℕ) (node later : Nodes) (cons : (w : ℕ) (ws : List ℕ) (m rest : Nodes) → IsResult new v w node m → AreResults new v ws later rest → AreResults new v (w ∷ ws) (followed_by node later) (followed_by m rest)) where
    -- the node before them stays
    pub swept_stays : (cells : List Cell) (taken marked : List ℕ) (removed : ℕ) → IsSwept new v objectives later (others ++ e ∷ []) work cells taken marked removed
        → IsNodeLeft new v objectives node cells [] [] 0 e → IsSwept new v objectives (followed_by node later) others work cells taken marked removed
    swept_stays cells taken marked removed is one = record {
      results = e ∷ is.results;
      named = followed_by one.named is.named;
      listed = is.listed ∙ append_assoc others (e ∷ []) is.results;
      are_results = cons e is.results one.named is.named one.result is.are_results;
      settled = settled_as (followed_by node later) (followed_by one.named is.named) cells (taken ++ []) (marked ++ []) taken marked (removed + 0) removed
          (settled_both node one.named later is.named cells [] [] taken marked 0 removed one.settled is.settled)
          (λ x. ap (times x) (sym (append-nil taken))) (λ x. ap (times x) (sym (append-nil marked))) (omega arith);
    }

    -- or is settled
    pub swept_node : (w : ℕ) (cells cells' : List Cell) (taken marked : List ℕ) (removed : ℕ) (rows t m : List ℕ) (r : ℕ) → IsSwept new v objectives later (others ++ e ∷ []) work cells taken marked removed
        → Elsewhere rows cells cells' → ((x : ℕ) → In x taken → times x rows ≡ 0) → IsNodeLeft new v objectives node cells' t m r w
        → (work' : List ℕ) → work' ≡ set work (length others) w → IsSwept new v objectives (followed_by node later) others work' cells' (taken ++ t) (marked ++ m) (removed + r)
    swept_node w cells cells' taken marked removed rows t m r is elsewhere apart one work' now = record {
      results = w ∷ is.results;
      named = followed_by one.named is.named;
      listed = now ∙ ap (λ xs. set xs (length others) w) (is.listed ∙ append_assoc others (e ∷ []) is.results) ∙ set-append_seam others e is.results w;
      are_results = cons w is.results one.named is.named one.result is.are_results;
      settled = settled_both node one.named later is.named cells' t m taken marked r removed one.settled (settled_elsewhere later is.named cells cells' rows taken marked removed elsewhere apart is.settled);
    }

  pub swept_as : (ns : Nodes) (others work : List ℕ) (cells : List Cell) (t m t' m' : List ℕ) (r r' : ℕ) → IsSwept new v objectives ns others work cells t m r
      → ((x : ℕ) → times x t' ≡ times x t) → ((x : ℕ) → times x m' ≡ times x m) → r' ≡ r → IsSwept new v objectives ns others work cells t' m' r'
  swept_as ns others work cells t m t' m' r r' is taken marked counted = record {
    results = is.results;
    named = is.named;
    listed = is.listed;
    are_results = is.are_results;
    settled = settled_as ns is.named cells t m t' m' r r' is.settled taken marked counted;
  }
