-- Steps of a pass that builds a tree, one after another: what each of them does to it, and to the words that it knows.
use Rattle.std.proofs.Common.{◌≡◌, ◌≢◌, ℕ, ◌+◌, ◌<◌, ◌≤◌, ◌⊎◌, inl, inr, ⊎_elim, zero, suc, Bool, true, false, not, cond, eqb, ◌&&◌, eq-eqb, ne_eqb, ℤ, Some, List, [], ◌∷◌, ◌++◌, length, map, refl, sym, ap, subst, ◌∙◌, arith, append-nil, append_assoc}
use Rattle.std.proofs.lemmas.List.{length-map}
use Rattle.std.proofs.lemmas.Bool.{and_left, and_right, and_parts, eqb-true}
use Rattle.era_core.specs.declared.sizes.TheConstants.{WIDTH}
use Rattle.era_core.specs.Lists.{times, In}
use Rattle.era_core.specs.Words.{cell_at}
use Rattle.era_core.specs.Views.{rows_in}
use Rattle.era_core.specs.Versions.{Cell, Copy, look_up}
use Rattle.era_core.proofs.ListFacts.{times-append, times-head, in-append_left, in-append_right}
use Rattle.era_rows.specs.Known.{Known, pinned_copy, known_words, forget, writing, reading_word}
use Rattle.era_rows.specs.Passes.{knows_of, known_of, marked_of, IsPassOf, IsSamePass, HasSame, IsReadable}
use Rattle.era_rows.specs.declared.pass.Pass.{Pass}
use Rattle.era_rows.specs.declared.rows.Rows.{Rows}
use Rattle.era_rows.specs.declared.law.Law.{Ghosts}
use Rattle.era_rows.specs.declared.views.Knows.{Knows}
use Rattle.era_rows.proofs.Holding.{fresh_inside}
use Rattle.era_rows.proofs.Reaching.{look_up_past}
use Rattle.era_one_row.proofs.GoingOn.{begins_twice}
use Rattle.pls_archive.specs.declared.call.Entry.{Entry}
use Rattle.pls_vectors.specs.Word.{to_word}
use Rattle.nd_rows.specs.Layout.{HasWords, HasValue}
use Rattle.nd_rows.specs.Reads.{LooksIn}
use Rattle.nd_rows.proofs.Looks.{looks_word}
use Rattle.nd_update.specs.Counted.{IsCounted}
use Rattle.nd_update.proofs.Counting.{counted_reads, counted_write, counted_marked}
use Rattle.nd_update.specs.Building.{Elsewhere, Outside, Builds, IsBuilding, Does}
use mathlib.Core.Option.{some}
use lib.ListN.{get_elem?}

-- ---- words

pub elsewhere_both : (first second : List ℕ) (a b c : List Cell) → Elsewhere first a b → Elsewhere second b c → Elsewhere (first ++ second) a c
elsewhere_both first second a b c one two x k none =
    let both = times-append x first second in two x k (omega (arith, none, both)) ∙ one x k (omega (arith, none, both))

-- as few rows as those may have changed
pub elsewhere_wider : (few all : List ℕ) (a b : List Cell) → ((x : ℕ) → In x few → In x all) → Elsewhere few a b → Elsewhere all a b
elsewhere_wider few all a b among one x k none = one x k (not_in (times x few) (times x all) (among x) none)
  where
    not_in : (m n : ℕ) → (0 < m → 0 < n) → n ≡ 0 → m ≡ 0
    not_in zero n more none = refl
    not_in (suc m) n more none = let some = more (omega arith) in absurd (omega (arith, some, none))

pub elsewhere_none : (a : List Cell) → Elsewhere [] a a
elsewhere_none a x k none = refl

pub outside_elsewhere : (row from to : ℕ) (a b : List Cell) → Outside row from to a b → Elsewhere (row ∷ []) a b
outside_elsewhere row from to a b one x k none = one x k (inl (λ same. let once = subst (λ z. times z (row ∷ []) ≡ 1) (sym same) (times-head row []) in omega (arith, once, none)))

-- the words of other rows stand as they did
pub elsewhere_row : (changed : List ℕ) (a b : List Cell) (row : ℕ) → Elsewhere changed a b → times row changed ≡ 0 → (k : ℕ) → look_up b row k ≡ look_up a row k
elsewhere_row changed a b row one none k = one row k none

-- a word was written, and those from one place on up to another were then written, or more of them
pub outside_both : (row from to : ℕ) (a b c : List Cell) → Outside row from to a b → Outside row from to b c → Outside row from to a c
outside_both row from to a b c one two x k out = two x k out ∙ one x k out

pub outside_wider : (row from to from' to' : ℕ) (a b : List Cell) → from' ≤ from → to ≤ to' → Outside row from to a b → Outside row from' to' a b
outside_wider row from to from' to' a b low high one x k out = one x k (wider out)
  where
    wider : (x ≢ row) ⊎ ((k < from') ⊎ (to' ≤ k)) → (x ≢ row) ⊎ ((k < from) ⊎ (to ≤ k))
    wider (inl other) = inl other
    wider (inr (inl before)) = inr (inl (omega arith))
    wider (inr (inr after)) = inr (inr (omega arith))

-- words that are not between these places stand as they did
pub words_outside : (row from to : ℕ) (a b : List Cell) → Outside row from to a b → (x p : ℕ) (ws : List ℕ) → (x ≢ row) ⊎ ((p + length ws ≤ from) ⊎ (to ≤ p)) → HasWords a x p ws → HasWords b x p ws
words_outside row from to a b one x p [] out has = tt
words_outside row from to a b one x p (w ∷ ws) out has = (one x p (here out) ∙ has.0, words_outside row from to a b one x (p + 1) ws (on out) has.1)
  where
    here : (x ≢ row) ⊎ ((p + suc (length ws) ≤ from) ⊎ (to ≤ p)) → (x ≢ row) ⊎ ((p < from) ⊎ (to ≤ p))
    here (inl other) = inl other
    here (inr (inl before)) = inr (inl (omega arith))
    here (inr (inr after)) = inr (inr after)

    on : (x ≢ row) ⊎ ((p + suc (length ws) ≤ from) ⊎ (to ≤ p)) → (x ≢ row) ⊎ (((p + 1) + length ws ≤ from) ⊎ (to ≤ p + 1))
    on (inl other) = inl other
    on (inr (inl before)) = inr (inl (omega arith))
    on (inr (inr after)) = inr (inr (omega arith))

-- so does a value
pub value_outside : (objectives row from to : ℕ) (a b : List Cell) → Outside row from to a b → (x p : ℕ) (v : List ℤ) → (x ≢ row) ⊎ ((p + length v ≤ from) ⊎ (to ≤ p)) → HasValue objectives a x p v → HasValue objectives b x p v
value_outside objectives row from to a b one x p v out has = record {
  words = words_outside row from to a b one x p (map to_word v) (subst (λ n. (x ≢ row) ⊎ ((p + n ≤ from) ⊎ (to ≤ p))) (sym (length-map v to_word)) out) has.words;
  is_value = has.is_value;
  parts = has.parts;
}

-- words that stand, and one more behind them
pub words_snoc : (cells : List Cell) (r p : ℕ) (ws : List ℕ) (w : ℕ) → HasWords cells r p ws → look_up cells r (p + length ws) ≡ Some w → HasWords cells r p (ws ++ w ∷ [])
words_snoc cells r p [] w has here = (sym (ap (look_up cells r) (let e : p + 0 ≡ p = omega arith in e)) ∙ here, tt)
words_snoc cells r p (v ∷ ws) w has here = (has.0, words_snoc cells r (p + 1) ws w has.1 (ap (look_up cells r) (let e : (p + 1) + length ws ≡ p + suc (length ws) = omega arith in e) ∙ here))

-- the words of a row that are looked up alike
pub words_same : (a b : List Cell) (r : ℕ) → ((k : ℕ) → look_up b r k ≡ look_up a r k) → (p : ℕ) (ws : List ℕ) → HasWords a r p ws → HasWords b r p ws
words_same a b r same p [] has = tt
words_same a b r same p (w ∷ ws) has = (same p ∙ has.0, words_same a b r same (p + 1) ws has.1)

-- forgetting one word leaves the others
look_up_forget : (r p : ℕ) (cells more : List Cell) (x k : ℕ) → (x ≢ r) ⊎ (k ≢ p) → look_up (forget r p cells ++ more) x k ≡ look_up (cells ++ more) x k
look_up_forget r p [] more x k out = refl
look_up_forget r p (c ∷ cs) more x k out = by_test (eqb c.row r && eqb c.place p) refl (look_up_forget r p cs more x k out)
  where
    other : eqb c.row r && eqb c.place p ≡ true → (x ≢ r) ⊎ (k ≢ p) → eqb c.row x && eqb c.place k ≡ false
    other e (inl far) = and_left _ _ (ne_eqb c.row x (λ same. let it = eqb-true c.row r (and_parts (eqb c.row r) (eqb c.place p) e).0 in far (sym same ∙ it)))
    other e (inr far) = and_right _ _ (ne_eqb c.place k (λ same. let it = eqb-true c.place p (and_parts (eqb c.row r) (eqb c.place p) e).1 in far (sym same ∙ it)))

    by_test : (t : Bool) → (eqb c.row r && eqb c.place p) ≡ t → look_up (forget r p cs ++ more) x k ≡ look_up (cs ++ more) x k
        → look_up (cond (not t) (c ∷ forget r p cs) (forget r p cs) ++ more) x k ≡ cond (eqb c.row x && eqb c.place k) (Some c.word) (look_up (cs ++ more) x k)
    by_test true e rest = rest ∙ sym (ap (λ b. cond b (Some c.word) (look_up (cs ++ more) x k)) (other e out))
    by_test false e rest = ap (λ o. cond (eqb c.row x && eqb c.place k) (Some c.word) o) rest

module _ (k l : Known) (row place w : ℕ) (now : l ≡ writing row place w k) where
  pub written_here : look_up (known_words l) row place ≡ Some w
  written_here = rw now rw (eq-eqb row row refl, eq-eqb place place refl) refl

  pub written_outside : Outside row place (place + 1) (known_words k) (known_words l)
  written_outside x j out = ap (λ z. look_up (known_words z) x j) now ∙ first ∙ look_up_forget row place k.written (pinned_copy k).cells x j apart
    where
      apart : (x ≢ row) ⊎ (j ≢ place)
      apart = ⊎_elim (λ other. inl other) (λ far. inr (λ same. ⊎_elim (λ before. absurd (omega (arith, before, same))) (λ after. absurd (omega (arith, after, same))) far)) out

      first : look_up (record { row = row; place = place; word = w } ∷ (forget row place k.written ++ (pinned_copy k).cells)) x j ≡ look_up (forget row place k.written ++ (pinned_copy k).cells) x j
      first =
          ap (λ b. cond b (Some w) (look_up (forget row place k.written ++ (pinned_copy k).cells) x j))
          (⊎_elim (λ other. and_left _ _ (ne_eqb row x (λ same. other (sym same)))) (λ far. and_right _ _ (ne_eqb place j (λ same. far (sym same)))) apart)

-- where no word was changed, none was between any places
pub elsewhere_outside : (a b : List Cell) → Elsewhere [] a b → (row from to : ℕ) → Outside row from to a b
elsewhere_outside a b one row from to x k out = one x k refl

-- ---- what a pass does

pub builds_none : (k : Known) → Builds k k
builds_none k = record { number = refl; pinned = refl; copies = refl; shape = refl; rows = refl; passes = refl; since = refl; looked = ([], append-nil k.looks) }

pub builds_both : (k l m : Known) → Builds k l → Builds l m → Builds k m
builds_both k l m one two = record {
  number = two.number ∙ one.number;
  pinned = two.pinned ∙ one.pinned;
  copies = two.copies ∙ one.copies;
  shape = two.shape ∙ one.shape;
  rows = two.rows ∙ one.rows;
  passes = two.passes ∙ one.passes;
  since = two.since ∙ one.since;
  looked = begins_twice k.looks l.looks m.looks one.looked two.looked;
}

-- the pinned copy is that before
pub same_copy : (k l : Known) → Builds k l → pinned_copy l ≡ pinned_copy k
same_copy k l one = rw (one.pinned, one.copies) refl

module _ {L : Type 0} {G : Ghosts L Entry} (r : Rows L Entry) where
  -- nothing was done
  pub does_none : (p : Pass L Entry G) → IsBuilding r p → Does r [] [] [] p p
  does_none p building = record {
    building = building;
    same_number = refl;
    same_seen = refl;
    same_lists = refl;
    same_memory = refl;
    builds = builds_none (known_of p);
    fresh = sym (append-nil (known_of p).core.fresh);
    marks = sym (append-nil (marked_of p));
    elsewhere = elsewhere_none (known_words (known_of p));
    full = refl;
  }

  -- one thing was done, and then another
  pub does_both : (t m c t' m' c' : List ℕ) (p q s : Pass L Entry G) → Does r t m c p q → Does r t' m' c' q s → Does r (t ++ t') (m ++ m') (c ++ c') p s
  does_both t m c t' m' c' p q s one two = record {
    building = two.building;
    same_number = two.same_number ∙ one.same_number;
    same_seen = two.same_seen ∙ one.same_seen;
    same_lists = two.same_lists ∙ one.same_lists;
    same_memory = two.same_memory ∙ one.same_memory;
    builds = builds_both (known_of p) (known_of q) (known_of s) one.builds two.builds;
    fresh = two.fresh ∙ ap (λ xs. xs ++ t') one.fresh ∙ append_assoc (known_of p).core.fresh t t';
    marks = two.marks ∙ ap (λ xs. xs ++ m') one.marks ∙ append_assoc (marked_of p) m m';
    elsewhere = elsewhere_both c c' (known_words (known_of p)) (known_words (known_of q)) (known_words (known_of s)) one.elsewhere two.elsewhere;
    full = two.full ∙ one.full;
  }

  -- the same with other lists
  pub does_as : (t m c t' m' c' : List ℕ) (p q : Pass L Entry G) → t ≡ t' → m ≡ m' → ((x : ℕ) → In x c → In x c') → Does r t m c p q → Does r t' m' c' p q
  does_as t m c t' m' c' p q taken marked among one = record {
    building = one.building;
    same_number = one.same_number;
    same_seen = one.same_seen;
    same_lists = one.same_lists;
    same_memory = one.same_memory;
    builds = one.builds;
    fresh = one.fresh ∙ ap (λ xs. (known_of p).core.fresh ++ xs) taken;
    marks = one.marks ∙ ap (λ xs. marked_of p ++ xs) marked;
    elsewhere = elsewhere_wider c c' (known_words (known_of p)) (known_words (known_of q)) among one.elsewhere;
    full = one.full;
  }

  -- words of these rows at most were changed
  pub does_wider : (t m c c' : List ℕ) (p q : Pass L Entry G) → ((x : ℕ) → In x c → In x c') → Does r t m c p q → Does r t m c' p q
  does_wider t m c c' p q among one = does_as t m c t m c' p q refl refl among one

  -- words of the same rows were changed twice
  pub does_again : (t m t' m' c : List ℕ) (p q s : Pass L Entry G) → Does r t m c p q → Does r t' m' c q s → Does r (t ++ t') (m ++ m') c p s
  does_again t m t' m' c p q s one two =
      does_wider (t ++ t') (m ++ m') (c ++ c) c p s (λ x here. in-twice x here) (does_both t m c t' m' c p q s one two)
    where
      in-twice : (x : ℕ) → In x (c ++ c) → In x c
      in-twice x here = let both = times-append x c c in omega (arith, here, both)

  -- something was done, and then nothing but reading; and the other way round it computes
  pub does_read : (t m c : List ℕ) (p q s : Pass L Entry G) → Does r t m c p q → Does r [] [] [] q s → Does r t m c p s
  does_read t m c p q s one two =
      does_as (t ++ []) (m ++ []) (c ++ []) t m c p s (append-nil t) (append-nil m) (λ x here. subst (In x) (append-nil c) here) (does_both t m c [] [] [] p q s one two)

  pub read_does : (t m c : List ℕ) (p q s : Pass L Entry G) → Does r [] [] [] p q → Does r t m c q s → Does r t m c p s
  read_does t m c p q s one two = does_both [] [] [] t m c p q s one two

  -- something was done, and then words of rows were changed that it had changed, or no other ones
  pub does_write : (t m c c' : List ℕ) (p q s : Pass L Entry G) → ((x : ℕ) → In x c' → In x c) → Does r t m c p q → Does r [] [] c' q s → Does r t m c p s
  does_write t m c c' p q s among one two =
      does_as (t ++ []) (m ++ []) c t m c p s (append-nil t) (append-nil m) (λ x here. here) (does_again t m [] [] c p q s one (does_wider [] [] c' c q s among two))

  -- words of one row were changed, and again
  pub writes_both : (row : ℕ) (p q s : Pass L Entry G) → Does r [] [] (row ∷ []) p q → Does r [] [] (row ∷ []) q s → Does r [] [] (row ∷ []) p s
  writes_both row p q s one two = does_again [] [] [] [] (row ∷ []) p q s one two

  -- what holds still
  pub still_fresh : (t m c : List ℕ) (p q : Pass L Entry G) → Does r t m c p q → (x : ℕ) → In x (known_of p).core.fresh → In x (known_of q).core.fresh
  still_fresh t m c p q one x here = subst (In x) (sym one.fresh) (in-append_left x (known_of p).core.fresh t here)

  pub now_fresh : (t m c : List ℕ) (p q : Pass L Entry G) → Does r t m c p q → (x : ℕ) → In x t → In x (known_of q).core.fresh
  now_fresh t m c p q one x here = subst (In x) (sym one.fresh) (in-append_right x (known_of p).core.fresh t here)

  pub still_pinned : (t m c : List ℕ) (p q : Pass L Entry G) → Does r t m c p q → pinned_copy (known_of q) ≡ pinned_copy (known_of p)
  still_pinned t m c p q one = same_copy (known_of p) (known_of q) one.builds

  pub still_readable : (t m c : List ℕ) (p q : Pass L Entry G) → Does r t m c p q → (x : ℕ) → IsReadable x (known_of p) → IsReadable x (known_of q)
  still_readable t m c p q one x readable =
      ⊎_elim (λ mine. inl (still_fresh t m c p q one x mine)) (λ old. inr (subst (λ (y : Copy). In x y.rows) (sym (still_pinned t m c p q one)) old)) readable

-- the words of the pinned tree are as they are there
pinned_known : (k : Known) → ((x : ℕ) → In x k.core.fresh → times x (pinned_copy k).rows ≡ 0) → ((i : ℕ) (c : Cell) → get_elem? k.written i ≡ some c → In c.row k.core.fresh)
    → (x : ℕ) → In x (pinned_copy k).rows → (p : ℕ) → look_up (known_words k) x p ≡ look_up (pinned_copy k).cells x p
pinned_known k unread written x here p =
    look_up_past k.written (pinned_copy k).cells x p (λ i c there same. let none = subst (λ y. times y (pinned_copy k).rows ≡ 0) same (unread c.row (written i c there)) in omega (arith, none, here))

module _ {L : Type 0} {G : Ghosts L Entry} (r : Rows L Entry) where
  -- each pass may build that took few rows
  pub may_build : (p : Pass L Entry G) → IsPassOf r p → IsCounted (known_of p) (marked_of p) → IsBuilding r p
  may_build p is_pass counted = record {
    is_pass = is_pass;
    once = λ x. let once = p.tied.holds.different x in let both = times-append x (known_of p).core.fresh (rows_in (known_of p).core.retired) in omega arith;
    inside = λ x here. let low = fresh_inside (known_of p) p.tied.holds x here in let same = is_pass.sized.rows_are in omega arith;
    unread = p.tied.tree.unread;
    written_fresh = p.tied.written_fresh;
    counted = counted;
  }

  -- a word of a row of the pinned tree is the one that it has there
  pub pinned_words : (p : Pass L Entry G) → IsBuilding r p → (x : ℕ) → In x (pinned_copy (known_of p)).rows → (k : ℕ) → look_up (known_words (known_of p)) x k ≡ look_up (pinned_copy (known_of p)).cells x k
  pinned_words p building = pinned_known (known_of p) building.unread building.written_fresh

  -- looks change no word, and do nothing else
  pub looks_words : (rows : List ℕ) (p q : Pass L Entry G) → LooksIn r rows p q → known_words (known_of q) ≡ known_words (known_of p)
  looks_words rows p q looks = ap (λ (k : Known). known_words k) looks.reads.now

  pub looks_do : (rows : List ℕ) (p q : Pass L Entry G) → IsBuilding r p → LooksIn r rows p q → Does r [] [] [] p q
  looks_do rows p q building looks =
      let now = looks.reads.now in record {
        building =
            may_build q looks.is_pass
            (subst (IsCounted (known_of q)) (sym looks.same_marks) (counted_reads (known_of p) (marked_of p) building.counted rows (known_of q) p.tied.tree.inside looks.reads));
        same_number = looks.same_number;
        same_seen = looks.same_seen;
        same_lists = looks.same_lists;
        same_memory = looks.same_memory;
        builds = record {
          number = ap (λ (k : Known). k.core.number) now;
          pinned = ap (λ (k : Known). k.core.pinned) now;
          copies = ap (λ (k : Known). k.copies) now;
          shape = ap (λ (k : Known). k.shape) now;
          rows = ap (λ (k : Known). k.rows) now;
          passes = ap (λ (k : Known). k.passes) now;
          since = ap (λ (k : Known). k.since) now;
          looked = (looks.reads.more, sym (ap (λ (k : Known). k.looks) now));
        };
        fresh = ap (λ (k : Known). k.core.fresh) now ∙ sym (append-nil (known_of p).core.fresh);
        marks = looks.same_marks ∙ sym (append-nil (marked_of p));
        elsewhere = λ x k none. ap (λ cells. look_up cells x k) (looks_words rows p q looks);
        full = ap (λ (k : Known). k.full) now;
      }

  -- a word was read
  pub read_word_does : (p q : Pass L Entry G) (row place w : ℕ) → IsBuilding r p → place < WIDTH → IsPassOf r q → HasSame p q → known_of q ≡ reading_word (cell_at r.passes r.rows row place) w (known_of p) → Does r [] [] [] p q
  read_word_does p q row place w building near is_pass same now = looks_do (row ∷ []) p q building (looks_word r p q row place w near building.is_pass is_pass same now)

  -- a word was written
  pub write_word_does : (p q : Pass L Entry G) (row place w : ℕ) → IsBuilding r p → In row (known_of p).core.fresh → IsPassOf r q → HasSame p q → known_of q ≡ writing row place w (known_of p) → Does r [] [] (row ∷ []) p q
  write_word_does p q row place w building fresh is_pass same now = record {
    building = may_build q is_pass (subst (IsCounted (known_of q)) (sym same.same_marks) (counted_write (known_of p) (marked_of p) building.counted (known_of q) row place w now));
    same_number = same.same_pass.same_number;
    same_seen = same.same_seen;
    same_lists = same.same_lists;
    same_memory = same.same_pass.same_memory;
    builds = record {
      number = ap (λ (k : Known). k.core.number) now;
      pinned = ap (λ (k : Known). k.core.pinned) now;
      copies = ap (λ (k : Known). k.copies) now;
      shape = ap (λ (k : Known). k.shape) now;
      rows = ap (λ (k : Known). k.rows) now;
      passes = ap (λ (k : Known). k.passes) now;
      since = ap (λ (k : Known). k.since) now;
      looked = ([], append-nil (known_of p).looks ∙ sym (ap (λ (k : Known). k.looks) now));
    };
    fresh = ap (λ (k : Known). k.core.fresh) now ∙ sym (append-nil (known_of p).core.fresh);
    marks = same.same_marks ∙ sym (append-nil (marked_of p));
    elsewhere =
        outside_elsewhere row place (place + 1) (known_words (known_of p)) (known_words (known_of q)) (written_outside (known_of p) (known_of q) row place w now);
    full = ap (λ (k : Known). k.full) now;
  }

  -- a row of the pinned tree was marked
  pub mark_does : (p q : Pass L Entry G) (row : ℕ) → IsBuilding r p → In row (pinned_copy (known_of p)).rows → times row (marked_of p) ≡ 0 → IsPassOf r q → IsSamePass p q → knows_of q ≡ knows_of p → marked_of q ≡ marked_of p ++ row ∷ []
      → Does r [] (row ∷ []) [] p q
  mark_does p q row building here unmarked is_pass same knows marks =
      let now : known_of q ≡ known_of p = ap (λ (k : Knows Entry). k.view) knows in record {
        building =
            may_build q is_pass
            (subst (IsCounted (known_of q)) (sym marks) (subst (λ k. IsCounted k (marked_of p ++ row ∷ [])) (sym now) (counted_marked (known_of p) (marked_of p) building.counted row here unmarked)));
        same_number = same.same_number;
        same_seen = ap (λ (k : Knows Entry). k.seen) knows;
        same_lists = ap (λ (k : Knows Entry). k.lists) knows;
        same_memory = same.same_memory;
        builds = subst (Builds (known_of p)) (sym now) (builds_none (known_of p));
        fresh = ap (λ (k : Known). k.core.fresh) now ∙ sym (append-nil (known_of p).core.fresh);
        marks = marks;
        elsewhere = λ x k none. ap (λ (l : Known). look_up (known_words l) x k) now;
        full = ap (λ (k : Known). k.full) now;
      }
