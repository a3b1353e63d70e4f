-- Looks of a pass, one after another.
use Rattle.std.proofs.Common.{◌≡◌, ℕ, ◌<◌, ⊎_elim, Some, List, [], ◌∷◌, ◌++◌, ◌+◌, zero, suc, length, get_or, ℤ, pos, refl, sym, ap, subst, ◌∙◌, arith, append_assoc}
use Rattle.std.proofs.lemmas.List.{append-nil}
use Rattle.atomic_table.proofs.Lists.{at_snoc}
use Rattle.era_core.specs.declared.sizes.TheConstants.{WIDTH}
use Rattle.era_core.specs.Lists.{In}
use Rattle.era_core.specs.Words.{cell_at}
use Rattle.era_core.specs.Versions.{Copy, look_up}
use Rattle.era_core.proofs.ListFacts.{in_head, in_tail, in_cases}
use Rattle.era_core.proofs.CopyFacts.{at_append}
use Rattle.era_rows.specs.Known.{Known, Look, pinned_copy, reading_word}
use Rattle.era_rows.specs.Passes.{known_of, marked_of, memory_of, work_of, knows_of, IsPassOf, HasSame}
use Rattle.era_rows.specs.declared.pass.Pass.{Pass}
use Rattle.era_rows.specs.declared.rows.Rows.{Rows}
use Rattle.era_rows.specs.declared.law.Law.{Ghosts}
use Rattle.pls_vectors.specs.Word.{to_word}
use Rattle.nd_rows.specs.Layout.{HasWords, HasValue}
use Rattle.nd_rows.specs.Reads.{ReadsIn, LooksIn}
use Rattle.nd_rows.proofs.Sides.{word_at, part_at}
use mathlib.Core.Option.{some-ne-none}

-- no word has been read yet
pub reads_none : (rows : List ℕ) (k : Known) → ReadsIn rows k k
reads_none rows k = record {
  more = [];
  last = k.core.last;
  now = ap (λ looks. record k { looks = looks }) (sym (append-nil k.looks));
  only = λ i l there. absurd (some-ne-none l (sym there));
}

-- one word was read
reads_one : (k after : Known) (r p i w : ℕ) → p < WIDTH → i ≡ cell_at k.passes k.rows r p → after ≡ reading_word i w k → ReadsIn (r ∷ []) k after
reads_one k after r p i w near place now = record {
  more = (i, w) ∷ [];
  last = Some w;
  now = now;
  only = λ n l there.
      ⊎_elim
      (λ none. absurd (some-ne-none l (sym none)))
      (λ same. (r, p, in_head r [], near, ap (λ (x : Look). x.0) (sym same) ∙ place))
      (at_snoc [] (i, w) l n there);
}

-- words were read, and then others, all in these rows
pub reads_both : (all first second : List ℕ) (k mid after : Known) → ((x : ℕ) → In x first → In x all) → ((x : ℕ) → In x second → In x all) → ReadsIn first k mid → ReadsIn second mid after → ReadsIn all k after
reads_both all first second k mid after in_first in_second one two = record {
  more = one.more ++ two.more;
  last = two.last;
  now =
      two.now
      ∙ ap (λ (z : Known). record z { core = record z.core { last = two.last }; looks = z.looks ++ two.more }) one.now
      ∙ ap (λ looks. record k { core = record k.core { last = two.last }; looks = looks }) (append_assoc k.looks one.more two.more);
  only = λ i l there.
      ⊎_elim
      (λ early. let is = one.only early.0 l early.1 in (is.0, is.1, in_first is.0 is.2, is.3, is.4))
      (λ late.
      let is = subst (λ (z : Known). (r p : ℕ) × In r second × (p < WIDTH) × (l.0 ≡ cell_at z.passes z.rows r p)) one.now (two.only late.0 l late.1) in
      (is.0, is.1, in_second is.0 is.2, is.3, is.4))
      (at_append one.more two.more i l there);
}

-- one row alone
pub in_only : (all : List ℕ) (x row : ℕ) → In row all → In x (row ∷ []) → In x all
in_only all x row there here = ⊎_elim (λ e. subst (λ y. In y all) (sym e) there) (λ none. absurd (let nothing : In x [] = none in omega arith)) (in_cases x row [] here)

module _ {L E : Type 0} {G : Ghosts L E} (r : Rows L E) where
  pub looks_none : (all : List ℕ) (p : Pass L E G) → IsPassOf r p → LooksIn r all p p
  looks_none all p is_pass = record {
    is_pass = is_pass;
    reads = reads_none all (known_of p);
    same_number = refl;
    same_memory = refl;
    same_marks = refl;
    same_seen = refl;
    same_lists = refl;
  }

  -- the work list alone has changed
  pub looks_work : (all : List ℕ) (p q : Pass L E G) → IsPassOf r p → ((x : Rows L E) → IsPassOf x p → IsPassOf x q) → q.number ≡ p.number → knows_of q ≡ knows_of p → marked_of q ≡ marked_of p → memory_of q ≡ memory_of p
      → LooksIn r all p q
  looks_work all p q is_pass on number knows marks memory = record {
    is_pass = on r is_pass;
    reads = subst (ReadsIn all (known_of p)) (ap (λ k. k.view) (sym knows)) (reads_none all (known_of p));
    same_number = number;
    same_memory = memory;
    same_marks = marks;
    same_seen = ap (λ k. k.seen) knows;
    same_lists = ap (λ k. k.lists) knows;
  }

  pub looks_word : (p q : Pass L E G) (row place w : ℕ) → place < WIDTH → IsPassOf r p → IsPassOf r q → HasSame p q → known_of q ≡ reading_word (cell_at r.passes r.rows row place) w (known_of p) → LooksIn r (row ∷ []) p q
  looks_word p q row place w near was is same now = record {
    is_pass = is;
    reads = reads_one (known_of p) (known_of q) row place _ w near (let passes = was.sized.passes_are in let rows = was.sized.rows_are in omega arith) now;
    same_number = same.same_pass.same_number;
    same_memory = same.same_pass.same_memory;
    same_marks = same.same_marks;
    same_seen = same.same_seen;
    same_lists = same.same_lists;
  }

  pub looks_both : (all first second : List ℕ) (p q s : Pass L E G) → ((x : ℕ) → In x first → In x all) → ((x : ℕ) → In x second → In x all) → LooksIn r first p q → LooksIn r second q s → LooksIn r all p s
  looks_both all first second p q s in_first in_second one two = record {
    is_pass = two.is_pass;
    reads = reads_both all first second (known_of p) (known_of q) (known_of s) in_first in_second one.reads two.reads;
    same_number = two.same_number ∙ one.same_number;
    same_memory = two.same_memory ∙ one.same_memory;
    same_marks = two.same_marks ∙ one.same_marks;
    same_seen = two.same_seen ∙ one.same_seen;
    same_lists = two.same_lists ∙ one.same_lists;
  }

  -- the same rows again
  pub looks_more : (all : List ℕ) (p q s : Pass L E G) → LooksIn r all p q → LooksIn r all q s → LooksIn r all p s
  looks_more all p q s = looks_both all all all p q s (λ x here. here) (λ x here. here)

  -- among more rows
  pub looks_among : (all few : List ℕ) (p q : Pass L E G) → ((x : ℕ) → In x few → In x all) → LooksIn r few p q → LooksIn r all p q
  looks_among all few p q among looks = looks_both all few all p q q among (λ x here. here) looks (looks_none all q looks.is_pass)

  -- what is pinned stays so, with what else a pass knows but for its looks
  pub same_copy : (all : List ℕ) (p q : Pass L E G) → LooksIn r all p q → pinned_copy (known_of q) ≡ pinned_copy (known_of p)
  same_copy all p q looks = ap (λ (k : Known). pinned_copy k) looks.reads.now

  pub same_rows : (all : List ℕ) (p q : Pass L E G) → LooksIn r all p q → (known_of q).rows ≡ (known_of p).rows
  same_rows all p q looks = ap (λ (k : Known). k.rows) looks.reads.now

  -- with its work list as it was, the pass is the same but for its looks
  pub has_same : (all : List ℕ) (p q : Pass L E G) → LooksIn r all p q → work_of q ≡ work_of p → HasSame p q
  has_same all p q looks work = record {
    same_pass = record { same_number = looks.same_number; same_work = work; same_memory = looks.same_memory };
    same_marks = looks.same_marks;
    same_seen = looks.same_seen;
    same_lists = looks.same_lists;
  }

  -- what holds of the pinned version holds still
  pub stays : (P : Copy → Type 0) (all : List ℕ) (p q : Pass L E G) → LooksIn r all p q → P (pinned_copy (known_of p)) → P (pinned_copy (known_of q))
  stays P all p q looks holds = subst P (sym (same_copy all p q looks)) holds

  pub link_there : (all : List ℕ) (p q : Pass L E G) → LooksIn r all p q → (row place : ℕ) (ws : List ℕ) → HasWords (pinned_copy (known_of p)).cells row place ws → (k : ℕ) → k < length ws
      → look_up (pinned_copy (known_of q)).cells row (place + k) ≡ Some (get_or ws k 0)
  link_there all p q looks row place ws there k low =
      stays (λ c. look_up c.cells row (place + k) ≡ Some (get_or ws k 0)) all p q looks (word_at (pinned_copy (known_of p)).cells row place ws there k low)

  pub part_there : (objectives : ℕ) (all : List ℕ) (p q : Pass L E G) → LooksIn r all p q → (row place : ℕ) (x : List ℤ) → HasValue objectives (pinned_copy (known_of p)).cells row place x → (k : ℕ) → k < length x
      → look_up (pinned_copy (known_of q)).cells row (place + k) ≡ Some (to_word (get_or x k (pos 0)))
  part_there objectives all p q looks row place x has k low =
      stays (λ c. look_up c.cells row (place + k) ≡ Some (to_word (get_or x k (pos 0)))) all p q looks (part_at objectives (pinned_copy (known_of p)).cells row place x has k low)

  pub value_there : (objectives : ℕ) (all : List ℕ) (p q : Pass L E G) → LooksIn r all p q → (row place : ℕ) (x : List ℤ) → HasValue objectives (pinned_copy (known_of p)).cells row place x
      → HasValue objectives (pinned_copy (known_of q)).cells row place x
  value_there objectives all p q looks row place x has = stays (λ c. HasValue objectives c.cells row place x) all p q looks has

  pub row_there : (all : List ℕ) (p q : Pass L E G) → LooksIn r all p q → (x : ℕ) → In x (pinned_copy (known_of p)).rows → In x (pinned_copy (known_of q)).rows
  row_there all p q looks x here = stays (λ c. In x c.rows) all p q looks here

  -- looks at rows of the pinned version, and then at others of it
  pub looks_on : (p q s : Pass L E G) → LooksIn r (pinned_copy (known_of p)).rows p q → LooksIn r (pinned_copy (known_of q)).rows q s → LooksIn r (pinned_copy (known_of p)).rows p s
  looks_on p q s one two =
      let all = (pinned_copy (known_of p)).rows in
      looks_more all p q s one (subst (λ (c : Copy). LooksIn r c.rows q s) (same_copy all p q one) two)

  -- a look at one row among these
  pub looks_at : (all : List ℕ) (p q : Pass L E G) (row : ℕ) → In row all → LooksIn r (row ∷ []) p q → LooksIn r all p q
  looks_at all p q row in_all one =
      looks_among all (row ∷ []) p q (λ x here. in_only all x row in_all here) one

  -- a look at one row, and then at another
  pub looks_two : (all : List ℕ) (p q s t : Pass L E G) (a b : ℕ) → In a all → In b all → LooksIn r all p q → LooksIn r (a ∷ []) q s → LooksIn r (b ∷ []) s t → LooksIn r all p t
  looks_two all p q s t a b in_a in_b looks one two = looks_more all p s t (looks_more all p q s looks (looks_at all q s a in_a one)) (looks_at all s t b in_b two)

-- a row of the pinned version is a row
pub row_small : {L E : Type 0} {G : Ghosts L E} (p : Pass L E G) (x : ℕ) → In x (pinned_copy (known_of p)).rows → x < 262144
row_small p x here = let inside = p.tied.tree.inside x here in let few = p.tied.few in omega arith

pub in_get : (xs : List ℕ) (k : ℕ) → k < length xs → In (get_or xs k 0) xs
in_get [] k low = absurd (omega arith)
in_get (x ∷ xs) zero low = in_head x xs
in_get (x ∷ xs) (suc k) low = in_tail (get_or xs k 0) x xs (in_get xs k (omega arith))
