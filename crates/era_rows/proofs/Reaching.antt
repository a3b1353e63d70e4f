-- The walk over the fresh rows of a new tree reaches exactly those.
use Rattle.std.proofs.Common.{◌≡◌, ◌≢◌, ℕ, zero, suc, ◌+◌, ◌-◌, ◌<◌, ◌≤◌, ◌/◌, min, ◌⊎◌, ⊎_elim, inl, inr, Bool, true, false, cond, eqb, Option, Some, None, List, [], ◌∷◌, ◌++◌, length, get_or, take, set, flat_map, refl, sym, ap, subst, ◌∙◌, arith, ne_eqb, append_assoc}
use Rattle.std.specs.Prelude.{◌&&◌, is_some, unwrap_or}
use Rattle.std.proofs.lemmas.Bool.{cases_eq, false≢true}
use Rattle.std.proofs.lemmas.List.{append-nil, length-append, take_all, take-append-le, take_more}
use Rattle.atomic_table.proofs.Lists.{at_snoc}
use Rattle.era_core.specs.declared.sizes.TheConstants.{WIDTH, MOST_LINKS, KINDS}
use Rattle.era_core.specs.Lists.{times, In, is_in, tree}
use Rattle.era_core.specs.Words.{run_of, cell_at}
use Rattle.era_core.specs.Versions.{Cell, look_up, known, known_links, Covers}
use Rattle.era_core.proofs.ListFacts.{times-append, in_cases, in_head, in-append_left, in-append_right}
use Rattle.era_core.proofs.CopyFacts.{at_append}
use Rattle.era_core.proofs.WordFacts.{links_by-same}
use Rattle.era_core.proofs.TreeFacts.{from_flat_map, tree_root}
use Rattle.era_core.proofs.Marks.{in_at}
use Rattle.era_core.proofs.Walks.{in_run}
use Rattle.era_rows.specs.Trees.{IsTree}
use Rattle.era_rows.specs.Known.{Known, Look, pinned_copy, known_words, copy_known, reading_word}
use Rattle.era_rows.specs.Held.{HoldsRows, HoldsTree}
use Rattle.era_rows.specs.Rule.{knowing}
use Rattle.era_rows.specs.Passes.{HasRead}
use Rattle.era_rows.specs.Reach.{IsReached, AddsLinks, ReachesTree}
use Rattle.era_rows.specs.declared.views.Knows.{Knows}
use Rattle.era_rows.proofs.Holding.{fresh_inside}
use Rattle.era_rows.proofs.Trees.{known_links-of_rows, covers-of_rows}
use Rattle.era_rows.proofs.Flags.{in_list, not_in_list, row_reached, fresh_reached}
use mathlib.Core.Option.{some, some-ne-none}
use lib.ListN.{get_elem?}

-- no word has been read yet
pub read_none : (k : Known) → HasRead k k
read_none k = record {
  more = [];
  last = k.core.last;
  now = ap (λ looks. record k { looks = looks }) (sym (append-nil k.looks));
  only = λ i l there. absurd (some-ne-none l (sym there));
}

-- words were read, and then others
pub read_more : (k mid after : Known) → HasRead k mid → HasRead mid after → HasRead k after
read_more k mid after first second = record {
  more = first.more ++ second.more;
  last = second.last;
  now =
      second.now
      ∙ ap (λ (z : Known). record z { core = record z.core { last = second.last }; looks = z.looks ++ second.more }) first.now
      ∙ ap (λ looks. record k { core = record k.core { last = second.last }; looks = looks }) (append_assoc k.looks first.more second.more);
  only = λ i l there.
      ⊎_elim
      (λ early. first.only early.0 l early.1)
      (λ late.
      subst (λ (z : Known). (r p : ℕ) × In r z.core.fresh × (p < WIDTH) × (l.0 ≡ cell_at z.passes z.rows r p)) first.now (second.only late.0 l late.1))
      (at_append first.more second.more i l there);
}

-- words were read, and then one more, of a fresh row
pub read_word : (k mid after : Known) (r p i w : ℕ) → HasRead k mid → In r k.core.fresh → p < WIDTH → i ≡ cell_at k.passes k.rows r p → after ≡ reading_word i w mid → HasRead k after
read_word k mid after r p i w read fresh near place now =
    read_more k mid after read (record {
      more = (i, w) ∷ [];
      last = Some w;
      now = now;
      only = λ n l there.
          subst (λ (z : Known). (o q : ℕ) × In o z.core.fresh × (q < WIDTH) × (l.0 ≡ cell_at z.passes z.rows o q)) (sym read.now)
          (⊎_elim
          (λ none. absurd (some-ne-none l (sym none)))
          (λ same. (r, p, fresh, near, ap (λ (x : Look). x.0) (sym same) ∙ place))
          (at_snoc [] (i, w) l n there));
    })

-- cells of other rows do not matter
pub look_up_past : (cells more : List Cell) (r p : ℕ) → ((i : ℕ) (c : Cell) → get_elem? cells i ≡ some c → c.row ≢ r) → look_up (cells ++ more) r p ≡ look_up more r p
look_up_past [] more r p others = refl
look_up_past (c ∷ cs) more r p others =
    ap (λ t. cond (t && eqb c.place p) (Some c.word) (look_up (cs ++ more) r p)) (ne_eqb c.row r (others 0 c refl))
    ∙ look_up_past cs more r p (λ i x there. others (suc i) x there)

-- a walk from row q on has reached these rows, and has gone through the links of the first ones
pub record IsWalking (k : Known) (q : ℕ) (loose : List Bool) (reached : List ℕ) (next : ℕ) : Type 0 where
  pub is_reached : IsReached k.rows k.core.fresh loose reached
  pub root_in : In q reached
  pub within : (x : ℕ) → In x reached → In x (copy_known k q).rows
  pub low : next ≤ length reached
  pub closed : (r x : ℕ) → In r (take next reached) → In x (known_links (known_words k) r) → In x k.core.fresh → In x reached

module _ (k : Known) (q : ℕ) (new_tree : IsTree (copy_known k q))
    (parts : (x : ℕ) → In x (copy_known k q).rows → In x k.core.fresh ⊎ In x (pinned_copy k).rows) (pinned : HoldsTree k)
    (written : (i : ℕ) (c : Cell) → get_elem? k.written i ≡ some c → In c.row k.core.fresh) where
  abbrev new : List ℕ
  new = (copy_known k q).rows

  abbrev links : ℕ → List ℕ
  links = known_links (known_words k)

  -- the words of each row of the new tree are known
  pub new_covered : (r : ℕ) → In r new → Covers (known_words k) r
  new_covered r here = covers-of_rows new (known_words k) r here (new_tree.covered r here)

  -- and its links are rows of the new tree
  pub new_linked : (r x : ℕ) → In r new → In x (links r) → In x new
  new_linked r x here link = new_tree.linked r x here (subst (In x) (sym (known_links-of_rows new (known_words k) r here)) link)

  -- a row of the pinned tree has the links of the pinned copy
  pinned_links : (r : ℕ) → In r (pinned_copy k).rows → links r ≡ known_links (pinned_copy k).cells r
  pinned_links r here =
      links_by-same (known (known_words k) r) (known (pinned_copy k).cells r) (λ p place. ap (λ o. unwrap_or o 0)
      (look_up_past k.written (pinned_copy k).cells r p (λ i c there same.
      absurd (
      let none = pinned.unread c.row (written i c there) in
      let again : times c.row (pinned_copy k).rows ≡ times r (pinned_copy k).rows = ap (λ y. times y (pinned_copy k).rows) same in omega arith))))

  -- so the tree there has rows of the pinned tree alone
  stays_pinned : (depth r x : ℕ) → In r (pinned_copy k).rows → In x (tree links depth r) → In x (pinned_copy k).rows
  stays_pinned zero r x here there = ⊎_elim (λ e. subst (λ y. In y (pinned_copy k).rows) (sym e) here) (λ none. absurd (omega arith)) (in_cases x r [] there)
  stays_pinned (suc depth) r x here there =
      ⊎_elim
      (λ e. subst (λ y. In y (pinned_copy k).rows) (sym e) here)
      (λ later.
      let t = from_flat_map (tree links depth) (links r) x later in
      stays_pinned depth t.0 x (pinned.is_tree.linked r t.0 here (subst (In t.0) (pinned_links r here) t.1)) t.2)
      (in_cases x r (flat_map (tree links depth) (links r)) there)

  module _ (reached : List ℕ) (within : (x : ℕ) → In x reached → In x new)
      (closed : (r x : ℕ) → In r reached → In x (links r) → In x k.core.fresh → In x reached) where
    -- each fresh row of the tree at a reached row is reached
    tree_reached : (depth r x : ℕ) → In r reached → In x (tree links depth r) → In x k.core.fresh → In x reached
    tree_reached zero r x here there fresh = ⊎_elim (λ e. subst (λ y. In y reached) (sym e) here) (λ none. absurd (omega arith)) (in_cases x r [] there)
    tree_reached (suc depth) r x here there fresh =
        ⊎_elim
        (λ e. subst (λ y. In y reached) (sym e) here)
        (λ later.
        let t = from_flat_map (tree links depth) (links r) x later in
        ⊎_elim
        (λ (new_one : In t.0 k.core.fresh). tree_reached depth t.0 x (closed r t.0 here t.1 new_one) t.2 fresh)
        (λ (old_one : In t.0 (pinned_copy k).rows). absurd (
        let none = pinned.unread x fresh in
        let there = stays_pinned depth t.0 x old_one t.2 in omega arith))
        (parts t.0 (new_linked r t.0 (within r here) t.1)))
        (in_cases x r (flat_map (tree links depth) (links r)) there)

    -- so the reached rows are the fresh rows of the new tree
    pub all_reached : In q reached → (x : ℕ) → In x k.core.fresh → is_in x reached ≡ is_in x new
    all_reached root x fresh =
        ⊎_elim
        (λ none.
        not_in_list x reached (⊎_elim (λ e. e) (λ some_times. absurd (let here = within x (omega arith) in omega arith)) (cases_eq (times x reached) 0))
        ∙ sym (not_in_list x new none))
        (λ some_times.
        in_list x reached (tree_reached k.rows q x root (omega arith) fresh) ∙ sym (in_list x new (omega arith)))
        (cases_eq (times x new) 0)

  -- a row that was reached has had its turn
  pub walk_more : (loose flags : List Bool) (reached after : List ℕ) (next row : ℕ) → IsWalking k q loose reached next → next < length reached → row ≡ get_or reached next row
      → IsReached k.rows k.core.fresh flags after → AddsLinks (links row) k.core.fresh reached after → IsWalking k q flags after (next + 1)
  walk_more loose flags reached after next row walking inside is now adds = record {
    is_reached = now;
    root_in = more q walking.root_in;
    within = λ x here.
        ⊎_elim
        (λ none.
        new_linked row x (walking.within row row_in) (adds.are_links x (let all : times x after ≡ times x reached + times x adds.more = ap (times x) (sym adds.begins) ∙ times-append x reached adds.more in omega arith)))
        (λ some_times. walking.within x (omega arith))
        (cases_eq (times x reached) 0);
    low = (let all : length after ≡ length reached + length adds.more = ap length (sym adds.begins) ∙ length-append reached adds.more in omega arith);
    closed = λ r x here link fresh.
        let first : take (next + 1) after ≡ take next reached ++ row ∷ [] =
        ap (take (next + 1)) (sym adds.begins)
        ∙ take-append-le (next + 1) reached adds.more (omega arith)
        ∙ take_more reached next row inside
        ∙ ap (λ y. take next reached ++ y ∷ []) (sym is) in
        let split : times r (take (next + 1) after) ≡ times r (take next reached) + times r (row ∷ []) = ap (times r) first ∙ times-append r (take next reached) (row ∷ []) in
        ⊎_elim
        (λ none.
        let same : r ≡ row = ⊎_elim (λ e. e) (λ never. absurd (omega arith)) (in_cases r row [] (omega arith)) in
        adds.all x (subst (λ y. In x (links y)) same link) fresh)
        (λ some_times. more x (walking.closed r x (omega arith) link fresh))
        (cases_eq (times r (take next reached)) 0);
  }
    where
      more : (x : ℕ) → In x reached → In x after
      more x here = subst (In x) adds.begins (in-append_left x reached adds.more here)

      row_in : In row reached
      row_in = subst (λ y. In y reached) (sym is) (in_at reached next row inside)

  -- the walk is at its end
  pub walk_done : (loose : List Bool) (reached : List ℕ) (next : ℕ) → IsWalking k q loose reached next → length reached ≤ next → ReachesTree q k loose reached
  walk_done loose reached next walking done = record {
    is_reached = walking.is_reached;
    all = all_reached reached walking.within (λ r x here link fresh. walking.closed r x (subst (In r) (sym (take_all next reached done)) here) link fresh) walking.root_in;
  }

  -- the walk begins at its root
  pub walk_start : (loose : List Bool) → In q k.core.fresh → q < k.rows → IsReached k.rows k.core.fresh loose []
      → IsWalking k q (set loose q false) (cond (get_or loose q false) (q ∷ []) []) 0
  walk_start loose fresh low start = record {
    is_reached = row_reached k.rows k.core.fresh loose [] start q low;
    root_in = fresh_reached k.rows k.core.fresh loose [] start q fresh;
    within = λ x here. by_flag (get_or loose q false) x here;
    low = omega arith;
    closed = λ r x here link new_one. absurd (omega arith);
  }
    where
      by_flag : (b : Bool) (x : ℕ) → In x (cond b (q ∷ []) []) → In x new
      by_flag true x here = subst (λ y. In y new) (sym (⊎_elim (λ e. e) (λ never. absurd (omega arith)) (in_cases x q [] here))) (tree_root links k.rows q)
      by_flag false x here = absurd (omega arith)

-- one more word of a run
pub run_push : (f : ℕ → ℕ) (p n : ℕ) → run_of f p (suc n) ≡ run_of f p n ++ f (p + n) ∷ []
run_push f p zero = ap (λ x. f x ∷ []) (let e : p ≡ p + 0 = omega arith in e)
run_push f p (suc n) = ap (λ xs. f p ∷ xs) (run_push f (p + 1) n ∙ ap (λ x. run_of f (p + 1) n ++ f x ∷ []) (let e : p + 1 + n ≡ p + suc n = omega arith in e))

-- one more link has had its turn
pub adds_more : (rows : ℕ) (links fresh before after : List ℕ) (loose : List Bool) (row : ℕ) → IsReached rows fresh loose after → AddsLinks links fresh before after
    → AddsLinks (links ++ row ∷ []) fresh before (cond (get_or loose row false) (after ++ row ∷ []) after)
adds_more rows links fresh before after loose row so_far adds = by_flag (get_or loose row false) refl
  where
    split : (x : ℕ) → In x (links ++ row ∷ []) → (x ≡ row) ⊎ In x links
    split x here =
        ⊎_elim
        (λ none. inl (⊎_elim (λ e. e) (λ never. absurd (omega arith)) (in_cases x row [] (omega (arith, times-append x links (row ∷ []))))))
        (λ some_times. inr (omega arith))
        (cases_eq (times x links) 0)

    by_flag : (b : Bool) → get_or loose row false ≡ b → AddsLinks (links ++ row ∷ []) fresh before (cond b (after ++ row ∷ []) after)
    by_flag true e = record {
      more = adds.more ++ row ∷ [];
      begins = sym (append_assoc before adds.more (row ∷ [])) ∙ ap (λ xs. xs ++ row ∷ []) adds.begins;
      are_links = λ x here.
          ⊎_elim
          (λ none. in-append_right x links (row ∷ []) (omega (arith, times-append x adds.more (row ∷ []))))
          (λ some_times. in-append_left x links (row ∷ []) (adds.are_links x (omega arith)))
          (cases_eq (times x adds.more) 0);
      all = λ x here new_one.
          ⊎_elim
          (λ same. subst (λ y. In y (after ++ row ∷ [])) (sym same) (in-append_right row after (row ∷ []) (in_head row [])))
          (λ earlier. in-append_left x after (row ∷ []) (adds.all x earlier new_one))
          (split x here);
    }
    by_flag false e = record {
      more = adds.more;
      begins = adds.begins;
      are_links = λ x here. in-append_left x links (row ∷ []) (adds.are_links x here);
      all = λ x here new_one.
          ⊎_elim
          (λ same.
          subst (λ y. In y after) (sym same)
          (subst (λ b. In row (cond b (after ++ row ∷ []) after)) e (fresh_reached rows fresh loose after so_far row (subst (λ y. In y fresh) same new_one))))
          (λ earlier. adds.all x earlier new_one)
          (split x here);
    }

-- a word that is known is the one that is looked up
pub look_up_known : (cells : List Cell) (r p : ℕ) → is_some (look_up cells r p) ≡ true → look_up cells r p ≡ Some (known cells r p)
look_up_known cells r p there = by_word (look_up cells r p) there
  where
    by_word : (o : Option ℕ) → is_some o ≡ true → o ≡ Some (unwrap_or o 0)
    by_word None there = absurd (false≢true there)
    by_word (Some w) there = refl

-- a read finds the words that are known, also after others
pub word_read : (k mid : Known) (r p : ℕ) → HasRead k mid → Covers (known_words k) r → p < 1 + min MOST_LINKS (known (known_words k) r 0 / KINDS)
    → look_up (known_words mid) r p ≡ Some (known (known_words k) r p)
word_read k mid r p read covers below =
    subst (λ (z : Known). look_up (known_words z) r p ≡ Some (known (known_words k) r p)) (sym read.now) (look_up_known (known_words k) r p (covers p below))

-- the count of links that a read of word 0 gives
pub count_is : (k : Known) (r count first : ℕ) → Covers (known_words k) r → ((w : ℕ) → look_up (known_words k) r 0 ≡ Some w → first ≡ w)
    → count ≡ min (first / KINDS) MOST_LINKS → count ≡ min MOST_LINKS (known (known_words k) r 0 / KINDS)
count_is k r count first covers found is =
    let head = found (known (known_words k) r 0) (look_up_known (known_words k) r 0 (covers 0 (omega arith))) in
    let same : first / KINDS ≡ known (known_words k) r 0 / KINDS = ap (λ w. w / KINDS) head in omega arith

-- and the link that a read of another place gives
pub link_is : (k mid : Known) (r p count first word : ℕ) → HasRead k mid → Covers (known_words k) r
    → ((w : ℕ) → look_up (known_words k) r 0 ≡ Some w → first ≡ w) → count ≡ min (first / KINDS) MOST_LINKS → 1 ≤ p → p < count + 1
    → ((w : ℕ) → look_up (known_words mid) r p ≡ Some w → word ≡ w)
    → (word ≡ known (known_words k) r p) × In word (known_links (known_words k) r)
link_is k mid r p count first word read covers head is low high found =
    let f = known (known_words k) r in
    let counted = count_is k r count first covers head is in
    let same = found (f p) (word_read k mid r p read covers (omega arith)) in
    (same, subst (λ w. In w (known_links (known_words k) r)) (sym same) (in_run f 1 (min MOST_LINKS (f 0 / KINDS)) p low (omega arith)))

-- the link at a place has had its turn
pub link_turn : (rows : ℕ) (fresh before reached after : List ℕ) (loose flags : List Bool) (f : ℕ → ℕ) (place row : ℕ) → row < rows → row ≡ f place → 1 ≤ place
    → IsReached rows fresh loose reached → AddsLinks (run_of f 1 (place - 1)) fresh before reached
    → flags ≡ set loose row false → after ≡ cond (get_or loose row false) (reached ++ row ∷ []) reached
    → IsReached rows fresh flags after × AddsLinks (run_of f 1 (place + 1 - 1)) fresh before after
link_turn rows fresh before reached after loose flags f place row low is some_place so_far adds flags_are after_is =
    let last : 1 + (place - 1) ≡ place = omega arith in
    let next : suc (place - 1) ≡ place + 1 - 1 = omega arith in
    let run : run_of f 1 (place - 1) ++ row ∷ [] ≡ run_of f 1 (place + 1 - 1) =
    ap (λ x. run_of f 1 (place - 1) ++ x ∷ []) (is ∙ ap f (sym last)) ∙ sym (run_push f 1 (place - 1)) ∙ ap (run_of f 1) next in (
      subst (λ xs. IsReached rows fresh xs after) (sym flags_are) (subst (IsReached rows fresh (set loose row false)) (sym after_is) (row_reached rows fresh loose reached so_far row low)),
      subst (λ xs. AddsLinks xs fresh before after) run (subst (AddsLinks (run_of f 1 (place - 1) ++ row ∷ []) fresh before) (sym after_is)
          (adds_more rows (run_of f 1 (place - 1)) fresh before reached loose row so_far adds)),
    )

module _ {E : Type 0} where
  -- what a pass has seen and its lists stay where only its view changes, and changes again
  pub same_knows : (a b c : Knows E) (v : Known) → b ≡ knowing a.seen a.lists b.view → c ≡ knowing b.seen b.lists v → c ≡ knowing a.seen a.lists c.view
  same_knows a b c v first second =
      second ∙ ap (knowing b.seen b.lists) (ap (λ (x : Knows E). x.view) (sym second)) ∙ ap (λ (x : Knows E). knowing x.seen x.lists c.view) first

-- the rows of the new tree are rows
pub new_inside : (k : Known) (q : ℕ) → HoldsRows k → HoldsTree k → ((x : ℕ) → In x (copy_known k q).rows → In x k.core.fresh ⊎ In x (pinned_copy k).rows)
    → (x : ℕ) → In x (copy_known k q).rows → x < k.rows
new_inside k q holds pinned parts x here =
    ⊎_elim
    (λ (new_one : In x k.core.fresh). fresh_inside k holds x new_one)
    (λ (old_one : In x (pinned_copy k).rows). pinned.inside x old_one)
    (parts x here)
